use Rattle.std.proofs.Common.{◌≤◌, ap, subst, inl, inr, ◌≡◌, ◌⊎◌, ◌∙◌, ℕ, IfSome, length, arith, Bool}
use Rattle.std.proofs.lemmas.Grind.{common_steps}
use Rattle.mg_types.specs.declared.names.FileId.{FileId}
use Rattle.mg_sealed.specs.Answers.{IsOutside}
use Rattle.mg_sealed.specs.Blocks.{IsUnfitAt}
use Rattle.mg_sealed.proofs.AnswerLaws.{err_is, opened-len}
use Rattle.mg_indexed.specs.Footer.{footer_size}
use Rattle.mg_indexed.specs.Loading.{IsFooterRead, IsFooterRefused, IsRefused}
use Rattle.mg_indexed.proofs.LoadingLaws.{file_read, file_refused, footer_refused, index_refused, loaded, not_loaded, opened_is}
use Rattle.mg_indexed.proofs.loading.load.Goals as goal

pub returns-in_err-file-clause-loaded : goal.returns-in_err-file-clause-loaded
returns-in_err-file-clause-loaded g c =
    let keys = g.K.BlockKey.keys in
    let form = g.T.BlockItem.form in
    let told = g.F.Files.told in
    let fault = c.in_err-file.field-0.0 in
    let size = c.footer_len.ensures ∙ ap footer_size c.has_filter-filtered.ensures in
    not_loaded keys form g.met.K.BlockKey.lawful (told c.args.file) c.args.id c.args.file c.args.len c.from_residual.result fault _ (grind (arith, common_steps))
    (file_refused keys form (told c.args.file) c.args.id c.args.file c.args.len c.footer_len.result fault size c.in_err-file.ensures.told)

pub returns-in_err-file-clause-refusals : goal.returns-in_err-file-clause-refusals
returns-in_err-file-clause-refusals g c =
    let keys = g.K.BlockKey.keys in
    let form = g.T.BlockItem.form in
    let told = g.F.Files.told in
    let fault = c.in_err-file.field-0.0 in
    let size = c.footer_len.ensures ∙ ap footer_size c.has_filter-filtered.ensures in
    err_is _ fault (λ fault. IfSome (told c.args.file) (λ bytes. IsOutside fault ⊎ IsRefused keys form c.args.id c.args.file c.args.len bytes fault)) (grind (arith, common_steps))
    (file_refused keys form (told c.args.file) c.args.id c.args.file c.args.len c.footer_len.result fault size c.in_err-file.ensures.told)

pub returns-in_err-file-clause-kinds : goal.returns-in_err-file-clause-kinds
returns-in_err-file-clause-kinds g c =
    err_is _ c.in_err-file.field-0.0 (λ fault. IsOutside fault ⊎ ((at : ℕ) × IsUnfitAt c.args.id at fault)) (grind (arith, common_steps))
    (elim c.in_err-file.ensures.refusals [ inl outside ↦ inl outside | inr damage ↦ inr (0, inl damage) ])

pub returns-in_err-footer-clause-refusals : goal.returns-in_err-footer-clause-refusals
returns-in_err-footer-clause-refusals g c =
    let keys = g.K.BlockKey.keys in
    let form = g.T.BlockItem.form in
    let told = g.F.Files.told in
    let given = c.args.file in
    let id = c.args.id in
    let file = c.in_ok-file.file in
    let fault = c.in_err-footer.field-0.0 in
    let filtered = c.has_filter-filtered.ensures in
    let size = c.footer_len.ensures ∙ ap footer_size filtered in
    let same = c.in_ok-file.ensures.same in
    let long = opened-len (told given) id given c.args.len c.footer_len.result file c.in_ok-file.ensures.told in
    let enough : footer_size form.filtered ≤ c.args.len = omega (arith, size, c.in_ok-file.ensures.least, (opened_is file id given c.args.len same).1) in
    err_is _ fault (λ fault. IfSome (told given) (λ bytes. IsOutside fault ⊎ IsRefused keys form id given c.args.len bytes fault)) (grind (arith, common_steps))
    (footer_refused keys form told file id given c.args.len fault same enough long
    (subst (λ (b : Bool). IfSome (told file.file) (λ bytes. file.len ≡ length bytes → IsOutside fault ⊎ IsFooterRefused b file.id bytes fault)) filtered c.in_err-footer.ensures.refusals))

pub returns-in_err-footer-clause-loaded : goal.returns-in_err-footer-clause-loaded
returns-in_err-footer-clause-loaded g c =
    let keys = g.K.BlockKey.keys in
    let form = g.T.BlockItem.form in
    let told = g.F.Files.told in
    let given = c.args.file in
    let id = c.args.id in
    let file = c.in_ok-file.file in
    let fault = c.in_err-footer.field-0.0 in
    let filtered = c.has_filter-filtered.ensures in
    let size = c.footer_len.ensures ∙ ap footer_size filtered in
    let same = c.in_ok-file.ensures.same in
    let long = opened-len (told given) id given c.args.len c.footer_len.result file c.in_ok-file.ensures.told in
    let enough : footer_size form.filtered ≤ c.args.len = omega (arith, size, c.in_ok-file.ensures.least, (opened_is file id given c.args.len same).1) in
    not_loaded keys form g.met.K.BlockKey.lawful (told given) id given c.args.len c.from_residual-in_err-footer.result fault _ (grind (arith, common_steps))
    (footer_refused keys form told file id given c.args.len fault same enough long
    (subst (λ (b : Bool). IfSome (told file.file) (λ bytes. file.len ≡ length bytes → IsOutside fault ⊎ IsFooterRefused b file.id bytes fault)) filtered c.in_err-footer.ensures.refusals))

pub returns-in_err-index-clause-refusals : goal.returns-in_err-index-clause-refusals
returns-in_err-index-clause-refusals g c =
    let keys = g.K.BlockKey.keys in
    let form = g.T.BlockItem.form in
    let told = g.F.Files.told in
    let given = c.args.file in
    let id = c.args.id in
    let file = c.in_ok-file.file in
    let footer = c.in_ok-footer.footer in
    let fault = c.in_err-index.field-0.0 in
    let filtered = c.has_filter-filtered.ensures in
    let size = c.footer_len.ensures ∙ ap footer_size filtered in
    let same = c.in_ok-file.ensures.same in
    let long = opened-len (told given) id given c.args.len c.footer_len.result file c.in_ok-file.ensures.told in
    let enough : footer_size form.filtered ≤ c.args.len = omega (arith, size, c.in_ok-file.ensures.least, (opened_is file id given c.args.len same).1) in
    let ends = subst (λ (b : Bool). IfSome (told file.file) (λ bytes. file.len ≡ length bytes → IsFooterRead b file.id bytes footer)) filtered c.in_ok-footer.ensures.read in
    err_is _ fault (λ fault. IfSome (told given) (λ bytes. IsOutside fault ⊎ IsRefused keys form id given c.args.len bytes fault)) (grind (arith, common_steps))
    (index_refused keys form told file id given c.args.len footer fault same enough long ends c.in_err-index.ensures.refusals)

pub returns-in_err-index-clause-loaded : goal.returns-in_err-index-clause-loaded
returns-in_err-index-clause-loaded g c =
    let keys = g.K.BlockKey.keys in
    let form = g.T.BlockItem.form in
    let told = g.F.Files.told in
    let given = c.args.file in
    let id = c.args.id in
    let file = c.in_ok-file.file in
    let footer = c.in_ok-footer.footer in
    let fault = c.in_err-index.field-0.0 in
    let filtered = c.has_filter-filtered.ensures in
    let size = c.footer_len.ensures ∙ ap footer_size filtered in
    let same = c.in_ok-file.ensures.same in
    let long = opened-len (told given) id given c.args.len c.footer_len.result file c.in_ok-file.ensures.told in
    let enough : footer_size form.filtered ≤ c.args.len = omega (arith, size, c.in_ok-file.ensures.least, (opened_is file id given c.args.len same).1) in
    let ends = subst (λ (b : Bool). IfSome (told file.file) (λ bytes. file.len ≡ length bytes → IsFooterRead b file.id bytes footer)) filtered c.in_ok-footer.ensures.read in
    not_loaded keys form g.met.K.BlockKey.lawful (told given) id given c.args.len c.from_residual-in_err-index.result fault _ (grind (arith, common_steps))
    (index_refused keys form told file id given c.args.len footer fault same enough long ends c.in_err-index.ensures.refusals)

pub returns-in_err-index-clause-kinds : goal.returns-in_err-index-clause-kinds
returns-in_err-index-clause-kinds g c =
    let file = c.in_ok-file.file in
    let fault = c.in_err-index.field-0.0 in
    let id = (opened_is file c.args.id c.args.file c.args.len c.in_ok-file.ensures.same).0 in
    err_is _ fault (λ fault. IsOutside fault ⊎ ((at : ℕ) × IsUnfitAt c.args.id at fault)) (grind (arith, common_steps))
    (subst (λ (i : FileId). IsOutside fault ⊎ ((at : ℕ) × IsUnfitAt i at fault)) id c.in_err-index.ensures.kinds)

pub returns-clause-len : goal.returns-clause-len
returns-clause-len g c =
    let given = c.args.file in
    let file = c.in_ok-file.file in
    let size = c.footer_len.ensures ∙ ap footer_size c.has_filter-filtered.ensures in (
      omega (arith, size, c.in_ok-file.ensures.least, (opened_is file c.args.id given c.args.len c.in_ok-file.ensures.same).1),
      opened-len (g.F.Files.told given) c.args.id given c.args.len c.footer_len.result file c.in_ok-file.ensures.told,
    )

pub returns-clause-read : goal.returns-clause-read
returns-clause-read g c =
    let keys = g.K.BlockKey.keys in
    let form = g.T.BlockItem.form in
    let told = g.F.Files.told in
    let given = c.args.file in
    let file = c.in_ok-file.file in
    let footer = c.in_ok-footer.footer in
    let long = opened-len (told given) c.args.id given c.args.len c.footer_len.result file c.in_ok-file.ensures.told in
    let ends = subst (λ (b : Bool). IfSome (told file.file) (λ bytes. file.len ≡ length bytes → IsFooterRead b file.id bytes footer)) c.has_filter-filtered.ensures c.in_ok-footer.ensures.read in
    file_read keys form told file c.args.id given c.args.len footer c.in_ok-index.index c.in_ok-file.ensures.same long ends c.in_ok-index.ensures.read

pub returns-clause-loaded : goal.returns-clause-loaded
returns-clause-loaded g c =
    loaded g.K.BlockKey.keys g.T.BlockItem.form g.met.K.BlockKey.lawful (g.F.Files.told c.args.file) c.args.id c.args.len c.in_ok-footer.footer c.in_ok-index.index c.in_ok-index.ensures.kept (returns-clause-read g c)
