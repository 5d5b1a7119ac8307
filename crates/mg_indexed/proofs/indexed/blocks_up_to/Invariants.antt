use Rattle.std.proofs.Common.{◌-◌}
use Rattle.mg_indexed.proofs.IndexLaws.{Between}
use Rattle.mg_indexed.proofs.indexed.blocks_up_to.Given as goal

abbrev pub invariant-loop-low : goal.invariant-loop-low
invariant-loop-low g l = Between g.K.BlockKey.keys l.handles l.key l.low l.high

abbrev pub decreases-loop-low : goal.decreases-loop-low
decreases-loop-low g l = l.high - l.low
