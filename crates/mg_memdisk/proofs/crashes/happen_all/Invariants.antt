use Rattle.std.proofs.Common.{take}
use Rattle.mg_memdisk.proofs.StandingLaws.{Happened}
use Rattle.mg_memdisk.proofs.crashes.happen_all.Given as goal

abbrev pub invariant-loop-event : goal.invariant-loop-event
invariant-loop-event l = Happened l.initial.map l.map l.initial.choice.rest.now l.choice.rest.now (take l.event-index l.events)
