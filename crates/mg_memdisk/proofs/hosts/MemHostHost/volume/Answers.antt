use Rattle.std.proofs.Common.{◌<◌, length, rules}
use Rattle.mg_memdisk.proofs.Slots.{exists, lends, slot_has, has_found, is_inside}
use Rattle.mg_memdisk.proofs.hosts.MemHostHost.volume.Goals as goal

pub returns-clause-lent : goal.returns-clause-lent
returns-clause-lent c =
    let lt : c.place-at.result < length c.args.self.now.slots = search rules in
    lends _ c.args.self.now.slots c.args.n c.place-at.result _ c.place-at.ensures.place lt (exists c.args.n c.requires.exists) _ _ c.lend.ensures.out c.lend.ensures.count c.lend.ensures.start

pub returns-clause-found : goal.returns-clause-found
returns-clause-found c =
    let lt : c.place-at.result < length c.args.self.now.slots = search rules in
    let there = exists c.args.n c.requires.exists in
    let some = is_inside c.args.self.now.slots c.args.n c.place-at.result c.index-self-at.result c.place-at.ensures.place lt there c.requires.here in
    has_found _ c.args.self.now.slots c.args.n c.place-at.result c.index-self-at.result c.lend.result c.place-at.ensures.place lt there some c.lend.ensures.contents

pub returns-clause-calls : goal.returns-clause-calls
returns-clause-calls c found inside =
    let lt : c.place-at.result < length c.args.self.now.slots = search rules in
    c.lend.ensures.calls found (slot_has c.args.self.now.slots c.args.n c.place-at.result c.index-self-at.result found c.place-at.ensures.place lt (exists c.args.n c.requires.exists) inside)

pub returns-clause-shows : goal.returns-clause-shows
returns-clause-shows c found inside =
    let lt : c.place-at.result < length c.args.self.now.slots = search rules in
    c.lend.ensures.shows found (slot_has c.args.self.now.slots c.args.n c.place-at.result c.index-self-at.result found c.place-at.ensures.place lt (exists c.args.n c.requires.exists) inside)
