use Rattle.std.proofs.Common.{◌+◌}
use Rattle.mg_wal.specs.Starts.{IsAlone}
use Rattle.mg_wal.proofs.turn_tests.push_many.Given as goal

abbrev pub invariant-loop-byte : goal.invariant-loop-byte
invariant-loop-byte g l = IsAlone l.wal (l.part + 1) 1 l.byte l.pass
