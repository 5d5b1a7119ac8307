use Rattle.std.proofs.Common.{◌≡◌, take}
use Rattle.mg_model.specs.State.{least}
use Rattle.mg_model.proofs.marks.least_of.Given as goal

abbrev pub invariant-loop-mark : goal.invariant-loop-mark
invariant-loop-mark l = l.found ≡ least (take l.mark-index l.marks)
