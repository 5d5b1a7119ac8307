use Rattle.std.proofs.Common.{ℕ, List, arith, refl, subst, ◌∙◌}
use Rattle.std.proofs.lemmas.Grind.{common_steps}
use Rattle.std.proofs.lemmas.List.{take_all}
use Rattle.mg_wal.specs.Strays.{Removes}
use Rattle.mg_wal.proofs.ClearLaws.{removing_failed, removing_more, removing_none}
use Rattle.mg_wal.proofs.RemoveLaws.{cause_more, no_cause, no_fault, once_more}
use Rattle.mg_wal.proofs.strays.remove_strays.Goals as goal

pub loop-number-init : goal.loop-number-init
loop-number-init g c = (λ tells. removing_none c.args.strays.now (g.V.Volume.view c.args.vol.now) (g.met.V.Volume.only_now tells c.args.vol.now) (c.requires tells), refl)

pub returns-in_err-remove_log-clause-reaches : goal.returns-in_err-remove_log-clause-reaches
returns-in_err-remove_log-clause-reaches g c tells =
    (removing_failed c.args.strays.now c.loop-number.number-index _ (g.V.Volume.view c.args.vol.now) (g.V.Volume.view c.loop-number.vol) (g.V.Volume.view c.remove_log.new.vol) c.loop-number-test.true refl
    (g.met.V.Volume.only_now tells c.loop-number.vol) (g.met.V.Volume.may_leave_contents tells c.loop-number.vol) (c.loop-number.invariant.0 tells) (c.in_err-remove_log.ensures.doubt tells)).0

pub returns-in_err-remove_log-clause-less : goal.returns-in_err-remove_log-clause-less
returns-in_err-remove_log-clause-less g c tells =
    (removing_failed c.args.strays.now c.loop-number.number-index _ (g.V.Volume.view c.args.vol.now) (g.V.Volume.view c.loop-number.vol) (g.V.Volume.view c.remove_log.new.vol) c.loop-number-test.true refl
    (g.met.V.Volume.only_now tells c.loop-number.vol) (g.met.V.Volume.may_leave_contents tells c.loop-number.vol) (c.loop-number.invariant.0 tells) (c.in_err-remove_log.ensures.doubt tells)).1

pub returns-in_err-remove_log-clause-cause : goal.returns-in_err-remove_log-clause-cause
returns-in_err-remove_log-clause-cause g c =
    cause_more _ _ _ c.remove_log.result c.from_residual.result _ c.loop-number.invariant.1 c.in_err-remove_log.was (grind (arith, common_steps)) c.remove_log.ensures.cause

pub loop-number-preserved : goal.loop-number-preserved
loop-number-preserved g c = (
  λ tells.
      removing_more c.args.strays.now c.loop-number.number-index _ (g.V.Volume.view c.args.vol.now) (g.V.Volume.view c.loop-number.vol) (g.V.Volume.view c.remove_log.new.vol) c.loop-number-test.true refl
      (g.met.V.Volume.only_now tells c.loop-number.vol) (g.met.V.Volume.may_leave_contents tells c.loop-number.vol) (c.loop-number.invariant.0 tells) (c.in_ok-remove_log.ensures.gone tells),
  c.in_ok-remove_log.ensures.once.kept ∙ c.loop-number.invariant.1,
)

pub returns-clause-gone : goal.returns-clause-gone
returns-clause-gone g c tells =
    subst (λ (numbers : List ℕ). Removes numbers (g.V.Volume.view c.args.vol.now).contents (g.V.Volume.view c.loop-number.vol).contents) (take_all c.loop-number.number-index c.args.strays.now (omega (arith, c.loop-number-test.false)))
    (c.loop-number.invariant.0 tells).removed

pub returns-clause-reaches : goal.returns-clause-reaches
returns-clause-reaches g c tells = (c.loop-number.invariant.0 tells).reaches

pub returns-clause-less : goal.returns-clause-less
returns-clause-less g c tells = (c.loop-number.invariant.0 tells).less

pub returns-clause-cause : goal.returns-clause-cause
returns-clause-cause g c = no_cause _ _ c.loop-number.invariant.1

pub returns-in_err-remove_log-clause-once : goal.returns-in_err-remove_log-clause-once
returns-in_err-remove_log-clause-once g c =
    once_more _ _ _ c.remove_log.result c.from_residual.result _ c.loop-number.invariant.1 c.in_err-remove_log.was (grind (arith, common_steps)) c.remove_log.ensures.once

pub returns-clause-once : goal.returns-clause-once
returns-clause-once g c = no_fault _ _ (g.met.V.Volume.bounded c.args.vol.now) c.loop-number.invariant.1
