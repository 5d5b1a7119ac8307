use Rattle.std.proofs.Common.{◌<◌, length, refl, rules}
use Rattle.mg_memdisk.proofs.Slots.{exists, puts}
use Rattle.mg_memdisk.proofs.hosts.MemHost.put.Goals as goal

pub returns-clause-put : goal.returns-clause-put
returns-clause-put c =
    let lt : c.place-at.result < length c.args.self.now.slots = search rules in
    puts _ c.args.self.now.slots c.args.n c.place-at.result _ c.place-at.ensures.place lt (exists c.args.n c.requires.exists) c.args.vol refl
