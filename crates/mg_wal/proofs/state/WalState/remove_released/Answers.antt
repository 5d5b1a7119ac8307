use Rattle.std.proofs.Common.{◌∙◌, arith, refl, subst, sym}
use Rattle.std.proofs.lemmas.Grind.{common_steps}
use Rattle.mg_wal.specs.Releases.{IsCut}
use Rattle.mg_wal.specs.States.{book_of, volume_of}
use Rattle.mg_wal.proofs.RemoveLaws.{cause_more, cut_anchor, cut_more, cut_none, fewer_logs, no_cause, no_fault, once_more, only_more, only_none, reach_more}
use Rattle.mg_wal.proofs.state.WalState.remove_released.Goals as goal

pub loop-alloc-init : goal.loop-alloc-init
loop-alloc-init g c = (cut_none (book_of c.args.self.now), λ tells. only_none _ _, λ tells basis list time reach books reached. reached, refl)

pub loop-alloc-smaller : goal.loop-alloc-smaller
loop-alloc-smaller g c = fewer_logs (book_of c.loop-alloc.self) (book_of c.remove_first.new.self) (c.loop-alloc-test.ensures.yes refl) c.in_ok-remove_first.ensures.book

pub loop-alloc-preserved : goal.loop-alloc-preserved
loop-alloc-preserved g c =
    let i = c.loop-alloc.invariant in
    let go = c.loop-alloc-test.ensures.yes refl in (
      cut_more _ _ _ i.0 go c.in_ok-remove_first.ensures.book,
      λ tells. only_more _ _ _ _ _ (cut_anchor _ _ i.0) (i.1 tells) (c.remove_first.ensures.only tells),
      λ tells. reach_more _ _ _ _ _ _ i.0 (i.2 tells) (c.remove_first.ensures.reaches tells),
      c.in_ok-remove_first.ensures.once.kept ∙ i.3,
    )

pub returns-in_err-remove_first-clause-cut : goal.returns-in_err-remove_first-clause-cut
returns-in_err-remove_first-clause-cut g c = subst (IsCut (book_of c.args.self.now)) (sym c.in_err-remove_first.ensures.same) c.loop-alloc.invariant.0

pub returns-in_err-remove_first-clause-only : goal.returns-in_err-remove_first-clause-only
returns-in_err-remove_first-clause-only g c tells =
    let i = c.loop-alloc.invariant in only_more _ _ _ _ _ (cut_anchor _ _ i.0) (i.1 tells) (c.remove_first.ensures.only tells)

pub returns-in_err-remove_first-clause-reaches : goal.returns-in_err-remove_first-clause-reaches
returns-in_err-remove_first-clause-reaches g c tells =
    let i = c.loop-alloc.invariant in reach_more _ _ _ _ _ _ i.0 (i.2 tells) (c.remove_first.ensures.reaches tells)

pub returns-in_err-remove_first-clause-cause : goal.returns-in_err-remove_first-clause-cause
returns-in_err-remove_first-clause-cause g c =
    cause_more _ _ _ c.remove_first.result c.from_residual.result _ c.loop-alloc.invariant.3 c.in_err-remove_first.was (grind (arith, common_steps)) c.remove_first.ensures.cause

pub returns-in_err-remove_first-clause-once : goal.returns-in_err-remove_first-clause-once
returns-in_err-remove_first-clause-once g c =
    once_more _ _ _ c.remove_first.result c.from_residual.result _ c.loop-alloc.invariant.3 c.in_err-remove_first.was (grind (arith, common_steps)) c.remove_first.ensures.once

pub returns-clause-cut : goal.returns-clause-cut
returns-clause-cut g c = c.loop-alloc.invariant.0

pub returns-clause-only : goal.returns-clause-only
returns-clause-only g c tells = c.loop-alloc.invariant.1 tells

pub returns-clause-reaches : goal.returns-clause-reaches
returns-clause-reaches g c tells = c.loop-alloc.invariant.2 tells

pub returns-clause-cause : goal.returns-clause-cause
returns-clause-cause g c = no_cause _ _ c.loop-alloc.invariant.3

pub returns-clause-once : goal.returns-clause-once
returns-clause-once g c = no_fault _ _ (g.met.V.Volume.bounded (volume_of c.args.self.now)) c.loop-alloc.invariant.3
