use Rattle.std.proofs.Common.{◌≡◌, ◌≤◌, ◌+◌, ◌-◌, length, vec_len}
use Rattle.std.specs.Io.KnownBytes.{Consumes}
use Rattle.mg_run.specs.Runs.{script_limit}
use Rattle.mg_run.proofs.streams.read_all.Given as goal

abbrev pub invariant-loop-buffer : goal.invariant-loop-buffer
invariant-loop-buffer g l = record {
  taken : Consumes (g.S.Source.left l.fn.input) (g.S.Source.left l.input) l.bytes.items;
  same : g.S.Source.faults l.input ≡ g.S.Source.faults l.fn.input;
  limit : length l.bytes.items ≤ script_limit + 1;
}

abbrev pub decreases-loop-buffer : goal.decreases-loop-buffer
decreases-loop-buffer g l = script_limit + 1 - vec_len l.bytes
