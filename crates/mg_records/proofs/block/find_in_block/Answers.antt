use Rattle.std.proofs.Common.{◌≡◌, ◌≢◌, ◌+◌, ◌++◌, ◌∷◌, ◌⊎◌, ◌∙◌, [], sym, ap, inr, arith, List, ℕ}
use Rattle.std.proofs.lemmas.Grind.{common_steps}
use Rattle.std.proofs.lemmas.List.{append-nil}
use Rattle.mg_types.specs.declared.faults.Fault.TheVariants.{NoMemory}
use Rattle.mg_sealed.proofs.AnswerLaws.{err_is}
use Rattle.mg_records.specs.File.{block_of}
use Rattle.mg_records.specs.Lookup.{IsUnfitFor}
use Rattle.mg_records.proofs.RecordLaws.{same_taken}
use Rattle.mg_records.proofs.ScanLaws.{block_more, block_read_whole, fits_more, found_so_far, record_of-none, unfit_for, unfit_later_for}
use Rattle.mg_records.proofs.WithinLaws.{bound_push, low_push, within_push}
use Rattle.mg_records.proofs.block.find_in_block.Goals as goal

pub returns-in_err-check_filled-clause-refusals : goal.returns-in_err-check_filled-clause-refusals
returns-in_err-check_filled-clause-refusals g c =
    let kind = g.R.Record.kind in
    let fault = c.in_err-check_filled.field-0.0 in
    err_is c.from_residual.result fault (λ f. (f ≡ NoMemory) ⊎ IsUnfitFor kind c.args.number c.args.span.now c.args.body.now f) (grind (arith, common_steps))
    (inr (unfit_for kind c.args.number c.args.span.now c.args.body.now fault c.in_err-check_filled.ensures.first_refusals))

pub returns-in_err-next-clause-refusals : goal.returns-in_err-next-clause-refusals
returns-in_err-next-clause-refusals g c =
    let kind = g.R.Record.kind in
    let h = c.loop-rest.invariant in
    let fault = c.in_err-next.field-0.0 in
    let some : c.loop-rest.rest.now ≡ [] → ⊥ = λ e. grind (arith, common_steps, e) in
    err_is c.from_residual-in_err-next.result fault (λ f. (f ≡ NoMemory) ⊎ IsUnfitFor kind c.args.number c.args.span.now c.args.body.now f) (grind (arith, common_steps))
    (inr (unfit_later_for kind c.args.number c.args.span.now c.args.body.now h.1 c.loop-rest.rest.now c.loop-rest.low c.loop-rest.bound fault h.2 h.3 h.4 some h.5 h.6 c.in_err-next.ensures.refusals c.in_ok-check_filled.ensures.filled h.7))

pub returns-then-next-number-clause-found : goal.returns-then-next-number-clause-found
returns-then-next-number-clause-found g c =
    let kind = g.R.Record.kind in
    let h = c.loop-rest.invariant in
    let next = c.in_ok-next.ensures.spelled in
    let it = c.in_ok-take.field-0 in
    let same : it ≡ next.0 = same_taken kind g.met.R.Record.lawful next.0 it c.in_ok-next.next.number c.in_ok-next.next.contents.now next.1 next.2 next.5 c.in_ok-take.ensures in
    let here : c.in_ok-next.next.number ≡ c.args.number = grind (arith, common_steps) in
    found_so_far kind c.args.number c.args.span.now c.args.body.now h.1 c.loop-rest.rest.now c.in_ok-next.next.rest.now next.0 it c.loop-rest.low c.loop-rest.bound c.in_ok-next.next.number h.2 h.3 h.4 h.5 h.6 h.7
    next.1 next.2 next.3 next.4 next.6 same here

pub loop-rest-preserved : goal.loop-rest-preserved
loop-rest-preserved g c =
    let kind = g.R.Record.kind in
    let span = c.args.span.now in
    let h = c.loop-rest.invariant in
    let next = c.in_ok-next.ensures.spelled in
    let it = next.0 in
    let other : kind.seq it ≢ c.args.number = λ e. c.if-next-number.false (next.2 ∙ e) in (
      omega arith,
      h.1 ++ it ∷ [],
      fits_more kind h.1 it h.2 next.1,
      within_push kind span.first (span.first + 1) span.end h.1 it h.3 (omega (arith, h.5, next.2, next.3)) (omega (arith, h.6, next.2, next.4)),
      block_more kind c.args.body.now h.1 c.loop-rest.rest.now c.in_ok-next.next.rest.now it h.4 next.6,
      ap (λ (n : ℕ). n + 1) next.2 ∙ sym (low_push kind span.first h.1 it),
      sym (bound_push (span.first + 1) span.end h.1 it),
      record_of-none kind c.args.number h.1 it h.7 other,
    )

pub returns-clause-found : goal.returns-clause-found
returns-clause-found g c =
    let kind = g.R.Record.kind in
    let h = c.loop-rest.invariant in
    let none : c.loop-rest.rest.now ≡ [] = grind (arith, common_steps) in
    let is = h.4 ∙ ap (λ (b : List ℕ). block_of kind h.1 ++ b) none ∙ append-nil (block_of kind h.1) in
    (h.1, (block_read_whole kind g.met.R.Record.lawful 4096 c.args.span.now c.args.body.now h.1 c.in_ok-check_filled.ensures.filled h.2 h.3 is).0, h.7)
