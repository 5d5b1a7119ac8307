use Rattle.std.proofs.Common.{◌≡◌, take, nat_le}
use Rattle.std.specs.List.{filter}
use Rattle.mg_model.specs.Mutations.{greatest}
use Rattle.mg_model.proofs.marks.greatest_at_most.Given as goal

abbrev pub invariant-loop-mark : goal.invariant-loop-mark
invariant-loop-mark l = l.found ≡ greatest (filter (λ mark. nat_le mark l.place) (take l.mark-index l.marks))
