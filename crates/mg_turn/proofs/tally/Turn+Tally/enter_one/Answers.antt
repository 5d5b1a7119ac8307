use Rattle.std.proofs.Common.{sym, ap, subst, ◌∙◌}
use Rattle.mg_turn.specs.History.{IsPrefix}
use Rattle.mg_turn.proofs.Lists.{prefix_more}
use Rattle.mg_turn.proofs.tally.Turn+Tally.enter_one.Goals as goal

pub returns-clause-seen : goal.returns-clause-seen
returns-clause-seen g c =
    let entered = ap (λ p. p.seen) c.enter-place.ensures.entered in
    let given = ap (λ p. p.seen) c.give-2.ensures in
    subst (IsPrefix c.args.pass.now.seen) (sym (given ∙ entered)) (prefix_more _ _ _ c.take-held.ensures.seen)
