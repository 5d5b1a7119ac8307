use Rattle.std.proofs.Common.{◌≡◌, None}
use Rattle.mg_wal_format.specs.Records.{mark_of}
use Rattle.mg_bench.proofs.wal.written.Given as goal

abbrev pub invariant-loop-number : goal.invariant-loop-number
invariant-loop-number l = mark_of l.what ≡ None
