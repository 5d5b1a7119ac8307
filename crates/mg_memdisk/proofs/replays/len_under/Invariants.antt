use Rattle.std.proofs.Common.{◌≡◌, take}
use Rattle.std.specs.Prelude.{IfSome, length}
use Rattle.std.specs.List.{fold}
use Rattle.mg_memdisk.specs.Events.{nothing, held}
use Rattle.mg_memdisk.proofs.replays.len_under.Given as goal

abbrev pub invariant-loop-event : goal.invariant-loop-event
invariant-loop-event l = IfSome (fold held nothing (take l.event-index l.events) l.name) (λ bytes. l.len ≡ length bytes)
