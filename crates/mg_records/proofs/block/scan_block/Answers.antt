use Rattle.std.proofs.Common.{◌≡◌, ◌∙◌, ◌+◌, ◌∷◌, ◌++◌, ◌<◌, ◌≤◌, ◌⊎◌, [], List, ℕ, sym, ap, inr, arith}
use Rattle.std.proofs.lemmas.Grind.{common_steps}
use Rattle.std.proofs.lemmas.List.{append-nil}
use Rattle.mg_types.specs.declared.faults.Fault.TheVariants.{NoMemory}
use Rattle.mg_sealed.proofs.AnswerLaws.{err_is}
use Rattle.mg_records.specs.File.{block_of}
use Rattle.mg_records.specs.Lookup.{IsBodyRefused}
use Rattle.mg_records.proofs.RecordLaws.{same_taken}
use Rattle.mg_records.proofs.ScanLaws.{block_more, fits_more, filter_over, filter_under, scanned_block, unfit_later}
use Rattle.mg_records.proofs.WithinLaws.{bound_push, low_push, within_push}
use Rattle.mg_records.proofs.block.scan_block.Goals as goal
use Rattle.mg_records.proofs.block.scan_block.Goals.{then-next-after+in_ok-take+in_ok-push, else-next-after}

pub returns-in_err-check_filled-clause-refusals : goal.returns-in_err-check_filled-clause-refusals
returns-in_err-check_filled-clause-refusals g c =
    let kind = g.R.Record.kind in
    let fault = c.in_err-check_filled.field-0.0 in
    err_is c.from_residual.result fault (λ f. (f ≡ NoMemory) ⊎ IsBodyRefused kind c.args.before c.args.span.now c.args.body.now f) (grind (arith, common_steps))
    (inr c.in_err-check_filled.ensures.refusals)

pub returns-in_err-next-clause-refusals : goal.returns-in_err-next-clause-refusals
returns-in_err-next-clause-refusals g c =
    let kind = g.R.Record.kind in
    let h = c.loop-rest.invariant in
    let fault = c.in_err-next.field-0.0 in
    let some : c.loop-rest.rest.now ≡ [] → ⊥ = λ e. grind (arith, common_steps, e) in
    err_is c.from_residual-in_err-next.result fault (λ f. (f ≡ NoMemory) ⊎ IsBodyRefused kind c.args.before c.args.span.now c.args.body.now f) (grind (arith, common_steps))
    (inr (inr (unfit_later kind c.args.span.now c.args.body.now h.1 c.loop-rest.rest.now c.loop-rest.low c.loop-rest.bound fault h.2 h.3 h.4 some h.5 h.6 c.in_err-next.ensures.refusals, inr c.in_ok-check_filled.ensures.filled)))

pub loop-rest-preserved : goal.loop-rest-preserved
loop-rest-preserved g c =
    let kind = g.R.Record.kind in
    let span = c.args.span.now in
    let after = c.args.after in
    let start = c.args.records.now.items in
    let h = c.loop-rest.invariant in
    let next = c.in_ok-next.ensures.spelled in
    let it = next.0 in (
      omega arith,
      h.1 ++ it ∷ [],
      fits_more kind h.1 it h.2 next.1,
      within_push kind span.first (span.first + 1) span.end h.1 it h.3 (omega (arith, h.5, next.2, next.3)) (omega (arith, h.6, next.2, next.4)),
      block_more kind c.args.body.now h.1 c.loop-rest.rest.now c.in_ok-next.next.rest.now it h.4 next.6,
      ap (λ (n : ℕ). n + 1) next.2 ∙ sym (low_push kind span.first h.1 it),
      sym (bound_push (span.first + 1) span.end h.1 it),
      elim c.if-next-after.branch [
        | then-next-after+in_ok-take+in_ok-push w ↦
            (let taken = w.in_ok-take.field-0 in
            let same : taken ≡ it = same_taken kind g.met.R.Record.lawful it taken c.in_ok-next.next.number c.in_ok-next.next.contents.now next.1 next.2 next.5 w.in_ok-take.ensures in
            let over : after < kind.seq it = omega (arith, w.if-next-after, next.2) in
            let pushed : c.if-next-after.records.items ≡ c.loop-rest.records.items ++ taken ∷ [] = grind (arith, common_steps) in
            filter_over kind after h.1 it taken start c.loop-rest.records.items c.if-next-after.records.items over same h.7 pushed)
        | else-next-after w ↦
            (let under : kind.seq it ≤ after = omega (arith, w.if-next-after, next.2) in
            let kept : c.if-next-after.records.items ≡ c.loop-rest.records.items = grind (arith, common_steps) in
            filter_under kind after h.1 it start c.loop-rest.records.items c.if-next-after.records.items under h.7 kept)
      ],
    )

pub returns-clause-scanned : goal.returns-clause-scanned
returns-clause-scanned g c =
    let kind = g.R.Record.kind in
    let h = c.loop-rest.invariant in
    let none : c.loop-rest.rest.now ≡ [] = grind (arith, common_steps) in
    let is = h.4 ∙ ap (λ (b : List ℕ). block_of kind h.1 ++ b) none ∙ append-nil (block_of kind h.1) in
    scanned_block kind g.met.R.Record.lawful c.args.before c.args.span.now c.args.after c.args.body.now c.args.records.now.items c.loop-rest.records.items c.loop-rest.low h.1 c.in_ok-check_filled.ensures.filled
    h.2 h.3 is h.5 h.7
