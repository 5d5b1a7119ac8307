use Rattle.std.proofs.Common.{◌+◌, length}
use Rattle.mg_turn.specs.Passes.{AfterCalls}
use Rattle.mg_turn.proofs.tally.enter_many.Given as goal

abbrev pub invariant-loop-entered : goal.invariant-loop-entered
invariant-loop-entered g l = AfterCalls l.turn l.initial.pass l.pass (length l.initial.pass.calls + l.entered)
