use Rattle.mg_memdisk.proofs.Leaving.{stays_open}
use Rattle.mg_memdisk.proofs.volumes.MemVolume.push.Goals as goal

pub invariant_of-self-clause-logs_open : goal.invariant_of-self-clause-logs_open
invariant_of-self-clause-logs_open c =
    let self = c.args.self.now in
    stays_open self.events.items c.push.new.self.items self.settled c.args.event _ self.within self.logs_open c.requires c.push.ensures.items
