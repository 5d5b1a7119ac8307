use Rattle.std.proofs.Common.{IfOk, subst, ◌+◌, ◌≡◌, ◌-◌, ◌≤◌, ◌∙◌, ap, sym, arith, inr, ℕ, List, length, drop, Ok, Err}
use Rattle.std.proofs.lemmas.Option.{IfSome_then}
use Rattle.mg_frame.specs.Frame.{said_number, taken, StandsAt}
use Rattle.mg_sealed.specs.Answers.{Answers}
use Rattle.mg_sealed.specs.Footer.{footer_body, judged_footer, said_blocks}
use Rattle.mg_sealed.specs.Reading.{body_or_damage, IsEnough}
use Rattle.mg_sealed.proofs.ReadingLaws.{answers_by, stands_in}
use Rattle.mg_sealed.proofs.AnswerLaws.{ok_then}
use Rattle.mg_sealed.proofs.FooterLaws.{footer_says}
use Rattle.mg_sealed.proofs.reading.read_footer.Goals as goal

pub returns-in_err-footer-clause-told : goal.returns-in_err-footer-clause-told
returns-in_err-footer-clause-told g c =
    let id = c.args.file.now.id in
    let at = c.args.file.now.len - c.args.size in
    let stored = c.stored_number-stored.result in
    let piece = c.in_ok-bytes.bytes.items in
    let slice = c.deref.result.now in
    let same : slice ≡ piece = c.deref.ensures.value in
    let number : 12 ≤ length piece → stored ≡ said_number piece = rw same at c.stored_number-stored.ensures in
    let fault = c.in_err-footer.field-0.0 in
    let judged : body_or_damage id at c.args.file.now.len piece (taken piece 0 stored) ≡ Err fault = c.in_err-footer.ensures.judged in
    let is : c.from_residual-in_err-footer.result ≡ Err fault = grind arith in
    let known : List ℕ → Type 0 = λ bytes. c.args.file.now.len ≡ length bytes → IsEnough (drop at bytes) piece in
    let wanted : List ℕ → Type 0 = λ bytes. c.args.file.now.len ≡ length bytes → Answers (footer_body id bytes c.args.size c.args.others) c.from_residual-in_err-footer.result in
    IfSome_then (g.F.Files.told c.args.file.now.file) {P = known} {Q = wanted} c.in_ok-bytes.ensures.told (λ bytes enough len.
    rw is (inr (footer_says id bytes piece at c.args.size c.args.others stored (ap (λ n. n - c.args.size) len) (omega arith) (omega arith) (enough len) number
    ∙ ap (judged_footer id at c.args.size c.args.others stored) (ap (λ (k : ℕ). body_or_damage id at k piece (taken piece 0 stored)) (sym len) ∙ judged))))

pub returns-clause-told : goal.returns-clause-told
returns-clause-told g c =
    let id = c.args.file.now.id in
    let at = c.args.file.now.len - c.args.size in
    let stored = c.stored_number-stored.result in
    let piece = c.in_ok-bytes.bytes.items in
    let slice = c.deref.result.now in
    let same : slice ≡ piece = c.deref.ensures.value in
    let number : 12 ≤ length piece → stored ≡ said_number piece = rw same at c.stored_number-stored.ensures in
    let footer = c.in_ok-footer.footer in
    let judged : body_or_damage id at c.args.file.now.len piece (taken piece 0 stored) ≡ Ok footer = c.in_ok-footer.ensures.judged in
    let known : List ℕ → Type 0 = λ bytes. c.args.file.now.len ≡ length bytes → IsEnough (drop at bytes) piece in
    let wanted : List ℕ → Type 0 = λ bytes. c.args.file.now.len ≡ length bytes → Answers (footer_body id bytes c.args.size c.args.others) c.judge_footer.result in
    IfSome_then (g.F.Files.told c.args.file.now.file) {P = known} {Q = wanted} c.in_ok-bytes.ensures.told (λ bytes enough len.
    answers_by c.judge_footer.result (footer_body id bytes c.args.size c.args.others) (judged_footer id at c.args.size c.args.others stored (Ok footer))
    (footer_says id bytes piece at c.args.size c.args.others stored (ap (λ n. n - c.args.size) len) (omega arith) (omega arith) (enough len) number
    ∙ ap (judged_footer id at c.args.size c.args.others stored) (ap (λ (k : ℕ). body_or_damage id at k piece (taken piece 0 stored)) (sym len) ∙ judged))
    c.judge_footer.ensures.judged)

pub returns-clause-stands : goal.returns-clause-stands
returns-clause-stands g c =
    let at = c.args.file.now.len - c.args.size in
    let stored = c.stored_number-stored.result in
    let piece = c.in_ok-bytes.bytes.items in
    let footer = c.in_ok-footer.footer in
    let others = c.args.others in
    let known : List ℕ → Type 0 = λ bytes. c.args.file.now.len ≡ length bytes → IsEnough (drop at bytes) piece in
    let wanted : List ℕ → Type 0 = λ bytes. c.args.file.now.len ≡ length bytes → IfOk c.judge_footer.result (λ body. StandsAt bytes at (said_blocks body + others, body)) in
    IfSome_then (g.F.Files.told c.args.file.now.file) {P = known} {Q = wanted} c.in_ok-bytes.ensures.told (λ bytes enough len.
    ok_then c.judge_footer.result (λ body. (body ≡ footer) × (stored ≡ said_blocks body + others)) (λ body. StandsAt bytes at (said_blocks body + others, body))
    (λ body same. subst (λ (n : ℕ). StandsAt bytes at (n, body)) same.1
    (subst (λ (b : List ℕ). StandsAt bytes at (stored, b)) (sym same.0) (stands_in bytes piece at stored footer (enough len) c.in_ok-footer.ensures.stands)))
    c.judge_footer.ensures.same)
