use Rattle.std.proofs.Common.{length, ◌-◌}
use Rattle.mg_block.proofs.Loops.{SharesSoFar}
use Rattle.mg_block.proofs.key.shared_len.Given as goal

abbrev pub invariant-loop-len : goal.invariant-loop-len
invariant-loop-len l = SharesSoFar l.key l.other l.len

abbrev pub decreases-loop-len : goal.decreases-loop-len
decreases-loop-len l = length l.key - l.len
