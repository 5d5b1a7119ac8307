use Rattle.std.proofs.Common.{◌≡◌, take}
use Rattle.mg_disk.specs.Names.{numbers_of}
use Rattle.mg_disk.proofs.names.numbers_in_turn.Given as goal

abbrev pub invariant-loop-name : goal.invariant-loop-name
invariant-loop-name l = l.numbers.items ≡ numbers_of l.kind (take l.name-index l.names)
