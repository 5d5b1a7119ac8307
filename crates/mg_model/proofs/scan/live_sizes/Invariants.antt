use Rattle.std.proofs.Common.{◌≡◌, ◌≤◌, ◌*◌, length}
use Rattle.std.specs.List.{sum_by}
use Rattle.mg_types.specs.Items.{size_of}
use Rattle.mg_model.proofs.ListLemmas.{live_so_far}
use Rattle.mg_model.proofs.scan.live_sizes.Given as goal

abbrev pub invariant-loop-index : goal.invariant-loop-index
invariant-loop-index l = record {
  counted : l.count ≡ length (live_so_far l.mutations l.index);
  summed : l.bytes ≡ sum_by size_of (live_so_far l.mutations l.index);
  few : l.count ≤ l.index;
  small : l.bytes ≤ l.index * 1048826;
}
