use Rattle.std.proofs.Common.{◌-◌, length}
use Rattle.mg_block.proofs.Listing.{Listed}
use Rattle.mg_block.proofs.whole.items.Given as goal

abbrev pub invariant-loop-pairs : goal.invariant-loop-pairs
invariant-loop-pairs l = Listed l.block l.cursor l.pairs.items

abbrev pub decreases-loop-pairs : goal.decreases-loop-pairs
decreases-loop-pairs l = length l.block - length l.pairs.items
