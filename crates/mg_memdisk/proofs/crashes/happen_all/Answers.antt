use Rattle.std.proofs.Common.{refl}
use Rattle.mg_memdisk.proofs.StandingLaws.{happened_more, happened_all}
use Rattle.mg_memdisk.proofs.crashes.happen_all.Goals as goal

pub returns : goal.returns
returns c = happened_all c.args.map.now c.loop-event.map c.args.choice.rest.now c.loop-event.choice.rest.now c.args.events.now c.loop-event.event-index c.loop-event-test.false c.loop-event.invariant

pub loop-event-init : goal.loop-event-init
loop-event-init c = λ found old. record { represents = old; choice = refl }

pub loop-event-preserved : goal.loop-event-preserved
loop-event-preserved c =
    happened_more c.args.map.now c.loop-event.map c.happen.new.map c.args.choice.rest.now c.loop-event.choice.rest.now c.happen.new.choice.rest.now c.args.events.now c.loop-event.event-index c.event-item.result
    c.loop-event-test.true c.event-item.is c.loop-event.invariant c.in_ok-happen.ensures
