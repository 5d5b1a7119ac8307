use Rattle.std.proofs.Common.{take}
use Rattle.std.specs.List.{fold}
use Rattle.mg_memdisk.specs.Events.{nothing, held, Lists}
use Rattle.mg_disk.proofs.NameLaws.{name_cmp}
use Rattle.mg_memdisk.proofs.replays.names_in.Given as goal

abbrev pub invariant-loop-event : goal.invariant-loop-event
invariant-loop-event l = Lists name_cmp l.names (fold held nothing (take l.event-index l.events))
