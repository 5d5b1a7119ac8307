use Rattle.std.proofs.Common.{◌∙◌}
use Rattle.mg_turn.proofs.Tallies.{counted_by_two}
use Rattle.mg_turn.proofs.tally.count_by_two.Goals as goal

pub returns-clause-history : goal.returns-clause-history
returns-clause-history g c =
    let made = c.in_ok-turn.ensures in let done = c.enter_by_two-one.ensures in let end = c.close_both-end.ensures in
    counted_by_two c.args.times _ _ _ _ _ _ _ _ made.first made.second done.one done.two c.if-of_one-times.false c.if-of_two-times.false end.pass end.calls end.counted

pub returns-clause-count : goal.returns-clause-count
returns-clause-count g c = c.close_both-end.ensures.count ∙ (returns-clause-history g c).0
