use Rattle.std.proofs.Common.{◌≡◌, ◌≤◌, ◌*◌, length}
use Rattle.std.specs.List.{sum_by}
use Rattle.mg_types.specs.Items.{doc_size}
use Rattle.mg_model.proofs.ListLemmas.{live_sets}
use Rattle.mg_model.proofs.scan.live_documents.Given as goal

abbrev pub invariant-loop-index : goal.invariant-loop-index
invariant-loop-index l = record {
  counted : l.count ≡ length (live_sets l.mutations l.index);
  summed : l.bytes ≡ sum_by doc_size (live_sets l.mutations l.index);
  few : l.count ≤ l.index;
  small : l.bytes ≤ l.index * 1048576;
}
