use Rattle.std.proofs.Common.{◌≡◌, take}
use Rattle.std.specs.List.{fold}
use Rattle.mg_memdisk.specs.Crashes.{found_in}
use Rattle.mg_memdisk.specs.Events.{nothing}
use Rattle.mg_memdisk.proofs.EntryLaws.{puts}
use Rattle.mg_memdisk.proofs.crashes.events_of.Given as goal

abbrev pub invariant-loop-name : goal.invariant-loop-name
invariant-loop-name l = found_in l.events.items ≡ fold puts nothing (take l.name-index l.name-items)
