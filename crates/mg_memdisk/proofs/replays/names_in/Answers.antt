use Rattle.std.proofs.Common.{◌≡◌, List, take, subst}
use Rattle.std.specs.List.{fold}
use Rattle.std.proofs.lemmas.List.{take_all}
use Rattle.mg_memdisk.specs.declared.events.Event.{Event}
use Rattle.mg_memdisk.specs.Events.{nothing, held, Lists}
use Rattle.mg_memdisk.proofs.Listed.{listed}
use Rattle.mg_disk.proofs.NameLaws.{name_cmp}
use Rattle.mg_memdisk.proofs.replays.names_in.Goals as goal

pub returns-clause-all : goal.returns-clause-all
returns-clause-all c =
    let all : take c.loop-event.event-index c.args.events.now ≡ c.args.events.now = take_all _ _ c.loop-event-test.false in
    let lists = subst (λ (l : List Event). Lists name_cmp c.loop-event.names (fold held nothing l)) all c.loop-event.invariant in
    listed _ _ c.in_order.result lists c.in_order.ensures.items
