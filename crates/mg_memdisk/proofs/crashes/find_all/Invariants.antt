use Rattle.std.proofs.Common.{take}
use Rattle.mg_disk.proofs.NameLaws.{name_cmp}
use Rattle.mg_memdisk.specs.Crashes.{found_in}
use Rattle.mg_memdisk.specs.Standings.{Represents}
use Rattle.mg_memdisk.proofs.crashes.find_all.Given as goal

abbrev pub invariant-loop-event : goal.invariant-loop-event
invariant-loop-event l = Represents name_cmp l.map (found_in (take l.event-index l.events)) (found_in (take l.event-index l.events))
