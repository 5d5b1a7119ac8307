use Rattle.std.proofs.Common.{◌≡◌, ◌-◌, ◌⊎◌, ◌∙◌, sym, length, IfSome}
use Rattle.mg_sealed.specs.Answers.{IsOutside}
use Rattle.mg_sealed.proofs.AnswerLaws.{err_then, ok_then}
use Rattle.mg_indexed.specs.Footer.{footer_bytes, IsFooter, IsFooterUnfit}
use Rattle.mg_indexed.specs.Loading.{IsFooterRead, IsFooterRefused}
use Rattle.mg_indexed.specs.declared.footer.Footer.{Footer}
use Rattle.mg_indexed.proofs.LoadingSteps.{footer_found, footer_unfit}
use Rattle.mg_indexed.proofs.loading.load_footer.Goals as goal

pub returns-clause-refusals : goal.returns-clause-refusals
returns-clause-refusals g c =
    let file = c.args.file.now in
    let told = g.F.Files.told file.file in
    err_then c.read_footer_body.result (λ fault. IsFooterUnfit file.id (file.len - c.footer_len-size.result) c.args.filtered c.body.result.now fault)
    (λ fault. IfSome told (λ bytes. file.len ≡ length bytes → IsOutside fault ⊎ IsFooterRefused c.args.filtered file.id bytes fault))
    (λ fault is unfit. footer_unfit c.args.filtered told file.id file.len c.footer_len-size.result c.frames_between.result c.in_ok-frame.frame c.body.result.now fault c.footer_len-size.ensures c.frames_between.ensures
    c.body.ensures unfit c.in_ok-frame.ensures.told)
    c.read_footer_body.ensures.refusals

pub returns-clause-read : goal.returns-clause-read
returns-clause-read g c =
    let file = c.args.file.now in
    let told = g.F.Files.told file.file in
    ok_then c.read_footer_body.result (λ (footer : Footer). IsFooter c.args.filtered footer × (c.body.result.now ≡ footer_bytes footer))
    (λ footer. IfSome told (λ bytes. file.len ≡ length bytes → IsFooterRead c.args.filtered file.id bytes footer))
    (λ footer h. footer_found c.args.filtered told file.id file.len c.footer_len-size.result c.frames_between.result c.in_ok-frame.frame footer c.footer_len-size.ensures c.frames_between.ensures h.0
    (sym c.body.ensures ∙ h.1) c.in_ok-frame.ensures.told c.in_ok-frame.ensures.stands)
    c.read_footer_body.ensures.is_footer
