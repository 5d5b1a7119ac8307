use Rattle.std.proofs.Common.{◌≡◌, ◌≢◌, ◌+◌, ◌-◌, ◌⊎◌, ◌∙◌, inl, inr, sym, ap, subst, length, IfSome, ℕ, arith}
use Rattle.std.proofs.lemmas.Grind.{common_steps}
use Rattle.mg_types.specs.declared.faults.Fault.{Fault}
use Rattle.mg_sealed.specs.Answers.{IsOutside}
use Rattle.mg_sealed.specs.Blocks.{IsUnfitAt}
use Rattle.mg_sealed.proofs.AnswerLaws.{err_is}
use Rattle.mg_indexed.specs.Footer.{footer_size, index_end}
use Rattle.mg_indexed.specs.Loading.{IsIndexRefused}
use Rattle.mg_indexed.proofs.HandleLaws.{index_unfit_at}
use Rattle.mg_indexed.proofs.LoadingSteps.{index_apart, index_found, index_frame_refused, index_miscounted, index_unfit}
use Rattle.mg_indexed.proofs.loading.load_index.Goals as goal

pub returns-in_err-frame-clause-refusals : goal.returns-in_err-frame-clause-refusals
returns-in_err-frame-clause-refusals g c =
    let keys = g.K.BlockKey.keys in
    let form = g.T.BlockItem.form in
    let file = c.args.file.now in
    let footer = c.args.footer.now in
    let told = g.F.Files.told file.file in
    let fault = c.in_err-frame.field-0.0 in
    err_is _ fault (λ fault. IfSome told (λ bytes. file.len ≡ length bytes → IsOutside fault ⊎ IsIndexRefused keys form file.id bytes footer fault)) (grind (arith, common_steps))
    (index_frame_refused keys form told file.id file.len footer c.from-number.result fault c.from-number.ensures c.in_err-frame.ensures.told)

pub returns-in_err-index-clause-refusals : goal.returns-in_err-index-clause-refusals
returns-in_err-index-clause-refusals g c =
    let keys = g.K.BlockKey.keys in
    let form = g.T.BlockItem.form in
    let file = c.args.file.now in
    let footer = c.args.footer.now in
    let told = g.F.Files.told file.file in
    let fault = c.in_err-index.field-0.0 in
    err_is _ fault (λ fault. IfSome told (λ bytes. file.len ≡ length bytes → IsOutside fault ⊎ IsIndexRefused keys form file.id bytes footer fault)) (grind (arith, common_steps))
    (index_unfit keys form told file.id file.len footer c.from-number.result c.in_ok-frame.frame c.body.result.now fault c.from-number.ensures c.body.ensures c.in_err-index.ensures.refusals c.in_ok-frame.ensures.told)

pub returns-then-len-number-clause-refusals : goal.returns-then-len-number-clause-refusals
returns-then-len-number-clause-refusals g c =
    let keys = g.K.BlockKey.keys in
    let form = g.T.BlockItem.form in
    let file = c.args.file.now in
    let footer = c.args.footer.now in
    let told = g.F.Files.told file.file in
    let index = c.in_ok-index.index in
    let other : length index ≢ footer.blocks = λ same. absurd (grind (arith, common_steps, same, c.from-number.ensures)) in
    subst (λ (f : Fault). IfSome told (λ bytes. file.len ≡ length bytes → IsOutside f ⊎ IsIndexRefused keys form file.id bytes footer f)) (sym c.malformed.ensures)
    (index_miscounted keys form told file.id file.len footer c.from-number.result c.in_ok-frame.frame index c.from-number.ensures c.in_ok-index.ensures.is_index.0
    (sym c.body.ensures ∙ c.in_ok-index.ensures.is_index.1) other c.in_ok-frame.ensures.told)

pub returns-then-footer-body-clause-refusals : goal.returns-then-footer-body-clause-refusals
returns-then-footer-body-clause-refusals g c =
    let keys = g.K.BlockKey.keys in
    let form = g.T.BlockItem.form in
    let file = c.args.file.now in
    let footer = c.args.footer.now in
    let told = g.F.Files.told file.file in
    let frame = c.in_ok-frame.frame in
    let index = c.in_ok-index.index in
    let count : length index ≡ footer.blocks = grind (arith, common_steps, c.from-number.ensures) in
    let long : length c.body-2.result.now ≡ length frame = ap length c.body-2.ensures in
    let apart : footer.index_at + length frame + 20 ≢ index_end footer.filter_at file.len = λ ends. absurd (grind (arith, common_steps, ends, long, c.index_ends-end.ensures)) in
    let size : c.footer_len.result ≡ footer_size form.filtered = c.footer_len.ensures ∙ ap footer_size c.has_filter.ensures in
    subst (λ (f : Fault). IfSome told (λ bytes. file.len ≡ length bytes → IsOutside f ⊎ IsIndexRefused keys form file.id bytes footer f)) (sym c.malformed-then-footer-body.ensures)
    (index_apart keys form told file.id file.len footer c.from-number.result c.footer_len.result frame index c.from-number.ensures size c.in_ok-index.ensures.is_index.0
    (sym c.body.ensures ∙ c.in_ok-index.ensures.is_index.1) count apart c.in_ok-frame.ensures.told)

pub returns-clause-kept : goal.returns-clause-kept
returns-clause-kept g c =
    let footer = c.args.footer.now in
    let index = c.in_ok-index.index in
    let count : length index ≡ footer.blocks = grind (arith, common_steps, c.from-number.ensures) in
    record { is_footer = c.requires.footer; right = c.in_ok-index.ensures.is_index.0; count = count }

pub returns-clause-read : goal.returns-clause-read
returns-clause-read g c =
    let keys = g.K.BlockKey.keys in
    let file = c.args.file.now in
    let footer = c.args.footer.now in
    let told = g.F.Files.told file.file in
    let frame = c.in_ok-frame.frame in
    let index = c.in_ok-index.index in
    let long : length c.body-2.result.now ≡ length frame = ap length c.body-2.ensures in
    let ends : footer.index_at + length frame + 20 ≡ index_end footer.filter_at file.len = grind (arith, common_steps, long, c.index_ends-end.ensures) in
    index_found keys told file.id file.len footer c.from-number.result frame index c.from-number.ensures
    (sym c.body.ensures ∙ c.in_ok-index.ensures.is_index.1) ends c.in_ok-frame.ensures.told c.in_ok-frame.ensures.stands

pub returns-in_err-frame-clause-kinds : goal.returns-in_err-frame-clause-kinds
returns-in_err-frame-clause-kinds g c =
    let file = c.args.file.now in
    err_is _ c.in_err-frame.field-0.0 (λ fault. IsOutside fault ⊎ ((at : ℕ) × IsUnfitAt file.id at fault)) (grind (arith, common_steps))
    (elim c.in_err-frame.ensures.refusals [ inl outside ↦ inl outside | inr damage ↦ inr (c.args.footer.now.index_at, inl damage) ])

pub returns-in_err-index-clause-kinds : goal.returns-in_err-index-clause-kinds
returns-in_err-index-clause-kinds g c =
    let file = c.args.file.now in
    let at = c.args.footer.now.index_at in
    let fault = c.in_err-index.field-0.0 in
    err_is _ fault (λ fault. IsOutside fault ⊎ ((at : ℕ) × IsUnfitAt file.id at fault)) (grind (arith, common_steps))
    (elim c.in_err-index.ensures.refusals [
      | inl memory ↦ inl (inl memory)
      | inr unfit ↦ inr (at, index_unfit_at g.K.BlockKey.keys g.T.BlockItem.form g.met.K.BlockKey.lawful file.id at c.body.result.now fault unfit)
    ])

pub returns-then-len-number-clause-kinds : goal.returns-then-len-number-clause-kinds
returns-then-len-number-clause-kinds g c = inr (c.args.footer.now.index_at, inr c.malformed.ensures)

pub returns-then-footer-body-clause-kinds : goal.returns-then-footer-body-clause-kinds
returns-then-footer-body-clause-kinds g c = inr (c.args.file.now.len - c.footer_len.result, inr c.malformed-then-footer-body.ensures)
