use Rattle.std.proofs.Common.{◌≡◌, length}
use Rattle.mg_block.proofs.Finding.{Searched}
use Rattle.mg_block.proofs.lookup.find.Given as goal

abbrev pub invariant-loop-rest : goal.invariant-loop-rest
invariant-loop-rest l = Searched l.block l.key l.previous l.rest l.matched × (l.out ≡ l.fn.out)

abbrev pub decreases-loop-rest : goal.decreases-loop-rest
decreases-loop-rest l = length l.rest
