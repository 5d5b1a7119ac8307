use Rattle.std.proofs.Common.{◌≡◌, take}
use Rattle.mg_block.proofs.whole.build.Given as goal

abbrev pub invariant-loop-pair : goal.invariant-loop-pair
invariant-loop-pair l = l.builder ≡ take l.pair-index l.pairs
