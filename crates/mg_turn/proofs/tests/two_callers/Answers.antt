use Rattle.std.proofs.Common.{ap, ◌∙◌}
use Rattle.mg_turn.proofs.Tallies.{two_of_one}
use Rattle.mg_turn.proofs.tests.two_callers.Goals as goal

pub returns : goal.returns
returns g c =
    let opened = c.in_ok-turn.ensures in let entered = c.in_ok-places.ensures.0 in let kept = c.split-two.ensures.kept in
    let made = c.split-two.ensures.made in let looked = c.look-seen.ensures.pass in let end = c.close_both-pass.ensures in
    record {
      history = two_of_one c.close_both-pass.result.1 c.split-two.new.pass c.look-seen.new.pass end.pass
          (ap (λ p. p.caller) kept ∙ ap (λ p. p.caller) entered ∙ ap (λ p. p.caller) opened)
          (ap (λ p. p.calls) kept ∙ ap (λ p. p.calls) entered)
          (ap (λ p. p.met) kept ∙ ap (λ p. p.met) entered ∙ ap (λ p. p.met) opened)
          (ap (λ p. p.calls) looked ∙ ap (λ p. p.calls) made)
          (ap (λ p. p.met) looked ∙ ap (λ p. p.met) made)
          end.calls
          end.counted;
    }
