use Rattle.std.proofs.Common.{◌≡◌, ◌≤◌}
use Rattle.std.specs.Io.KnownBytes.{Appends}
use Rattle.mg_recover.specs.Stores.{partitions_of}
use Rattle.mg_serve.specs.Serving.{partition_ends}
use Rattle.mg_serve.specs.Told.{joined}
use Rattle.mg_serve.proofs.ends.write_ends.Given as goal

abbrev pub invariant-loop-part : goal.invariant-loop-part
invariant-loop-part g l = record {
  within : l.part ≤ l.parts;
  text : Appends (g.K.Sink.written l.fn.out) (g.K.Sink.written l.out) (joined (partition_ends (partitions_of l.store) l.part));
  same : g.K.Sink.faults l.out ≡ g.K.Sink.faults l.fn.out;
}
