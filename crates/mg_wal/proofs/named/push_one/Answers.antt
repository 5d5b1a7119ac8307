use Rattle.std.proofs.Common.{ap, sym, subst, ◌∙◌}
use Rattle.mg_turn.specs.History.{IsPrefix}
use Rattle.mg_turn.proofs.Lists.{prefix_more}
use Rattle.mg_wal.proofs.ShareLaws.{err_at, has_entered, has_place, next_number, stands_entered}
use Rattle.mg_wal.proofs.named.push_one.Goals as goal

pub enter-requires-clause-room : goal.enter-requires-clause-room
enter-requires-clause-room g c = let stands = c.take-held.ensures.stands in has_place _ _ _ stands.3 c.in-Ok.ensures.room.0

pub give-requires-clause-stands : goal.give-requires-clause-stands
give-requires-clause-stands g c =
    let taken = c.take-held.ensures.pass in
    let entered = c.enter.ensures.entered in
    let caller = ap (λ p. p.caller) taken ∙ c.requires.caller in
    let first = ap (λ p. p.first) entered ∙ ap (λ p. p.first) taken in
    let seen = ap (λ p. p.seen) entered in
    stands_entered _ _ _ _ _ _ _ _ _ _ _ _ _ _ c.take-held.ensures.stands first seen caller c.in-Ok.ensures.more c.in-Ok.ensures.reaches c.in-Ok.ensures.released

pub returns-in-Ok-clause-entered : goal.returns-in-Ok-clause-entered
returns-in-Ok-clause-entered g c = (
  has_entered _ _ _ _ _ _ _ _ _ c.take-held.ensures.pass c.enter.ensures.entered c.give.ensures c.requires.pass.free c.take-held.ensures.seen,
  next_number _ _ _ _ _ _ c.take-held.ensures.stands.3 c.in-Ok.ensures.number (ap (λ p. p.seen) c.give.ensures ∙ ap (λ p. p.seen) c.enter.ensures.entered),
)

pub returns-in-Ok-clause-seen : goal.returns-in-Ok-clause-seen
returns-in-Ok-clause-seen g c =
    let entered = ap (λ p. p.seen) c.enter.ensures.entered in
    let given = ap (λ p. p.seen) c.give.ensures in
    subst (IsPrefix c.args.pass.now.seen) (sym (given ∙ entered)) (prefix_more _ _ _ c.take-held.ensures.seen)

pub returns-in-Err-clause-err : goal.returns-in-Err-clause-err
returns-in-Err-clause-err g c =
    let taken = c.take-held.ensures.pass in
    let given = c.give-in-Err.ensures in
    let stands = c.take-held.ensures.stands in
    err_at _ _ _ _ _ _ _ _ _ _ stands.3 stands.1 c.requires.caller (ap (λ p. p.caller) taken) (ap (λ p. p.calls) taken) (ap (λ p. p.seen) given) c.take-held.ensures.calls.0 c.in-Err.ensures.err
