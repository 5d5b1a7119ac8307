use Rattle.std.proofs.Common.{◌≡◌, ◌+◌, ◌∙◌, ap, refl, sym, subst, arith, length, List, ℕ, Result, Ok, Err, ◌-◌, ◌≢◌, ◌⊎◌, IfSome}
use Rattle.std.proofs.lemmas.Grind.{common_steps}
use Rattle.mg_bloom.specs.Bloom.{IsBodyLength}
use Rattle.mg_types.specs.declared.faults.Fault.{Fault}
use Rattle.mg_sealed.specs.Answers.{Answers, IsOutside}
use Rattle.mg_table.specs.Table.{footer_of, hashed_keys}
use Rattle.mg_indexed.specs.Footer.{offset_of}
use Rattle.mg_table.specs.Loading.{IsFilterRefused}
use Rattle.mg_sealed.proofs.AnswerLaws.{answered, answers, err_is, outside, refused}
use Rattle.mg_table.proofs.KnownLaws.{knows_then, knows_both, knows_filter, knows_length}
use Rattle.mg_table.proofs.LoadingLaws.{filter_is_body}
use Rattle.mg_table.proofs.RefusalLaws.{filter_apart, filter_frame_refused, filter_read, filter_unfit}
use Rattle.mg_table.proofs.load.read_filter.Goals as goal

pub returns-in_err-frame-clause-told : goal.returns-in_err-frame-clause-told
returns-in_err-frame-clause-told g c =
    let file = c.args.file.now in
    let at = c.args.at in
    let many = c.args.blocks in
    let told = g.F.Files.told file.file in
    let number = c.from-number.result + 1 in
    let count : number ≡ many + 1 = ap (λ n. n + 1) c.from-number.ensures in
    let fault = c.in_err-frame.field-0.0 in
    knows_then told file.len (λ lo hi blocks filter. at ≡ offset_of (footer_of lo hi blocks filter).filter_at → many ≡ length blocks → Answers (Ok filter) (Err fault)) _
    (λ lo hi entries blocks filter parts h there counted. outside _ _ fault (grind (arith, common_steps)) (refused filter _ fault refl (h there counted)))
    (knows_filter told file.id file.len at many number (Err fault) count c.in_err-frame.ensures.told)

pub returns-then-at-body-clause-told : goal.returns-then-at-body-clause-told
returns-then-at-body-clause-told g c =
    let file = c.args.file.now in
    let at = c.args.at in
    let many = c.args.blocks in
    let told = g.F.Files.told file.file in
    let number = c.from-number.result + 1 in
    let count : number ≡ many + 1 = ap (λ n. n + 1) c.from-number.ensures in
    let frame = c.in_ok-frame.frame in
    let read : Result (List ℕ) Fault = Ok frame in
    knows_then told file.len (λ lo hi blocks filter. (at ≡ offset_of (footer_of lo hi blocks filter).filter_at → many ≡ length blocks → Answers (Ok filter) read) × (file.len ≡ offset_of (footer_of lo hi blocks filter).filter_at + (length filter + 20) + 73)) _
    (λ lo hi entries blocks filter parts h there counted.
    let body : length c.body.result.now ≡ length filter = ap length (c.body.ensures ∙ answered filter frame _ refl (h.0 there counted)) in
    let ends : file.len ≡ at + (length filter + 20) + 73 = h.1 ∙ ap (λ (n : ℕ). n + (length filter + 20) + 73) (sym there) in
    absurd (grind (arith, common_steps, ends, body)))
    (knows_both told file.len (λ lo hi blocks filter. at ≡ offset_of (footer_of lo hi blocks filter).filter_at → many ≡ length blocks → Answers (Ok filter) read)
    (λ lo hi blocks filter. file.len ≡ offset_of (footer_of lo hi blocks filter).filter_at + (length filter + 20) + 73)
    (knows_filter told file.id file.len at many number read count c.in_ok-frame.ensures.told) (knows_length told file.len))

pub returns-in_default-clause-told : goal.returns-in_default-clause-told
returns-in_default-clause-told g c =
    let file = c.args.file.now in
    let at = c.args.at in
    let many = c.args.blocks in
    let told = g.F.Files.told file.file in
    let number = c.from-number.result + 1 in
    let count : number ≡ many + 1 = ap (λ n. n + 1) c.from-number.ensures in
    let frame = c.in_ok-frame.frame in
    let read : Result (List ℕ) Fault = Ok frame in
    knows_then told file.len (λ lo hi blocks filter. at ≡ offset_of (footer_of lo hi blocks filter).filter_at → many ≡ length blocks → Answers (Ok filter) read) _
    (λ lo hi entries blocks filter parts h there counted.
    let items : c.into_body.result.items ≡ filter = c.into_body.ensures ∙ answered filter frame _ refl (h there counted) in
    absurd (c.in_default.ensures (subst (λ (bytes : List ℕ). IsBodyLength (length bytes)) (sym items) (filter_is_body (hashed_keys entries) filter parts.filtered))))
    (knows_filter told file.id file.len at many number read count c.in_ok-frame.ensures.told)

pub returns-clause-told : goal.returns-clause-told
returns-clause-told g c =
    let file = c.args.file.now in
    let at = c.args.at in
    let many = c.args.blocks in
    let told = g.F.Files.told file.file in
    let number = c.from-number.result + 1 in
    let count : number ≡ many + 1 = ap (λ n. n + 1) c.from-number.ensures in
    let frame = c.in_ok-frame.frame in
    let read : Result (List ℕ) Fault = Ok frame in
    knows_then told file.len (λ lo hi blocks filter. at ≡ offset_of (footer_of lo hi blocks filter).filter_at → many ≡ length blocks → Answers (Ok filter) read) _
    (λ lo hi entries blocks filter parts h there counted.
    let items : c.into_body.result.items ≡ filter = c.into_body.ensures ∙ answered filter frame _ refl (h there counted) in
    let kept : c.in-Some.filter ≡ filter = c.in-Some.ensures.0 ∙ items in
    answers filter _ (ap (λ (bytes : List ℕ). let r : Result (List ℕ) Fault = Ok bytes in r) kept))
    (knows_filter told file.id file.len at many number read count c.in_ok-frame.ensures.told)

pub returns-in_err-frame-clause-refusals : goal.returns-in_err-frame-clause-refusals
returns-in_err-frame-clause-refusals g c =
    let file = c.args.file.now in
    let at = c.args.at in
    let many = c.args.blocks in
    let told = g.F.Files.told file.file in
    let number = c.from-number.result + 1 in
    let count : number ≡ many + 1 = ap (λ n. n + 1) c.from-number.ensures in
    let fault = c.in_err-frame.field-0.0 in
    err_is _ fault (λ fault. IfSome told (λ bytes. file.len ≡ length bytes → IsOutside fault ⊎ IsFilterRefused file.id bytes at many fault)) (grind (arith, common_steps))
    (filter_frame_refused told file.id file.len at many number fault count c.in_err-frame.ensures.told)

pub returns-then-at-body-clause-refusals : goal.returns-then-at-body-clause-refusals
returns-then-at-body-clause-refusals g c =
    let file = c.args.file.now in
    let at = c.args.at in
    let many = c.args.blocks in
    let told = g.F.Files.told file.file in
    let number = c.from-number.result + 1 in
    let count : number ≡ many + 1 = ap (λ n. n + 1) c.from-number.ensures in
    let frame = c.in_ok-frame.frame in
    let long : length c.body.result.now ≡ length frame = ap length c.body.ensures in
    let apart : at + length frame + 20 ≢ file.len - 73 = λ ends. absurd (grind (arith, common_steps, ends, long)) in
    filter_apart told file.id file.len at many number frame count apart c.in_ok-frame.ensures.told

pub returns-in_default-clause-refusals : goal.returns-in_default-clause-refusals
returns-in_default-clause-refusals g c =
    let file = c.args.file.now in
    let at = c.args.at in
    let many = c.args.blocks in
    let told = g.F.Files.told file.file in
    let number = c.from-number.result + 1 in
    let count : number ≡ many + 1 = ap (λ n. n + 1) c.from-number.ensures in
    let frame = c.in_ok-frame.frame in
    let long : length c.body.result.now ≡ length frame = ap length c.body.ensures in
    let ends : at + length frame + 20 ≡ file.len - 73 = grind (arith, common_steps, long) in
    filter_unfit told file.id file.len at many number frame count ends
    (λ fits. c.in_default.ensures (subst (λ (bytes : List ℕ). IsBodyLength (length bytes)) (sym c.into_body.ensures) fits)) c.in_ok-frame.ensures.told

pub returns-clause-read : goal.returns-clause-read
returns-clause-read g c =
    let file = c.args.file.now in
    let at = c.args.at in
    let many = c.args.blocks in
    let told = g.F.Files.told file.file in
    let number = c.from-number.result + 1 in
    let count : number ≡ many + 1 = ap (λ n. n + 1) c.from-number.ensures in
    let frame = c.in_ok-frame.frame in
    let filter = c.in-Some.filter in
    let is : frame ≡ filter = sym (c.in-Some.ensures.0 ∙ c.into_body.ensures) in
    let long : length c.body.result.now ≡ length filter = ap length (c.body.ensures ∙ is) in
    let ends : at + length filter + 20 ≡ file.len - 73 = grind (arith, common_steps, long) in
    filter_read told file.id file.len at many number frame filter count is ends c.in-Some.ensures.1
    c.in_ok-frame.ensures.told c.in_ok-frame.ensures.stands
