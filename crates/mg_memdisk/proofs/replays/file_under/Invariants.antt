use Rattle.std.proofs.Common.{◌≡◌, take}
use Rattle.std.specs.Option.{option_copied}
use Rattle.std.specs.List.{fold}
use Rattle.mg_memdisk.specs.Events.{nothing, held, value_bytes}
use Rattle.mg_memdisk.proofs.replays.file_under.Given as goal

abbrev pub invariant-loop-event : goal.invariant-loop-event
invariant-loop-event l = value_bytes (option_copied l.found) ≡ fold held nothing (take l.event-index l.events) l.name
