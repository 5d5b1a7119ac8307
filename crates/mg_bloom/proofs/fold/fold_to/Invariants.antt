use Rattle.std.proofs.Common.{◌≤◌, length}
use Rattle.mg_bloom.specs.Bloom.{IsBodyLength}
use Rattle.mg_bloom.specs.Folding.{KeepsWords}
use Rattle.mg_bloom.proofs.fold.fold_to.Given as goal

abbrev pub invariant-loop-body : goal.invariant-loop-body
invariant-loop-body l = record {
  sized : IsBodyLength (length l.body.items);
  fits : l.bytes ≤ length l.body.items;
  words : KeepsWords l.fn.body.items l.body.items;
}

abbrev pub decreases-loop-body : goal.decreases-loop-body
decreases-loop-body l = length l.body.items
