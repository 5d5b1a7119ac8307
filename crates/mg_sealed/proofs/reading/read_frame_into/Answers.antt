use Rattle.std.proofs.Common.{IfOk, length, drop, ◌≡◌, ℕ, List, sym, ap, ◌∙◌}
use Rattle.std.proofs.lemmas.Option.{IfSome_then}
use Rattle.mg_frame.specs.Frame.{taken, StandsAt}
use Rattle.mg_sealed.proofs.AnswerLaws.{ok_then}
use Rattle.mg_sealed.specs.Answers.{Answers}
use Rattle.mg_sealed.specs.Reading.{body_or_damage, frame_body, IsEnough}
use Rattle.mg_sealed.proofs.ReadingLaws.{answers_by, piece_says, stands_in}
use Rattle.mg_sealed.proofs.reading.read_frame_into.Goals as goal

pub returns-clause-told : goal.returns-clause-told
returns-clause-told g c =
    let id = c.args.file.now.id in
    let at = c.args.at in
    let number = c.args.number in
    let piece = c.in_ok-bytes.bytes.items in
    let known : List ℕ → Type 0 = λ bytes. c.args.file.now.len ≡ length bytes → IsEnough (drop at bytes) piece in
    let wanted : List ℕ → Type 0 = λ bytes. c.args.file.now.len ≡ length bytes → Answers (frame_body id bytes at number) c.judge.result in
    IfSome_then (g.F.Files.told c.args.file.now.file) {P = known} {Q = wanted} c.in_ok-bytes.ensures.told (λ bytes enough len.
    answers_by c.judge.result (frame_body id bytes at number) (body_or_damage id at c.args.file.now.len piece (taken piece 0 number))
    (piece_says id at number bytes piece (enough len) ∙ ap (λ (k : ℕ). body_or_damage id at k piece (taken piece 0 number)) (sym len))
    c.judge.ensures.judged)

pub returns-clause-stands : goal.returns-clause-stands
returns-clause-stands g c =
    let at = c.args.at in
    let number = c.args.number in
    let piece = c.in_ok-bytes.bytes.items in
    let known : List ℕ → Type 0 = λ bytes. c.args.file.now.len ≡ length bytes → IsEnough (drop at bytes) piece in
    let wanted : List ℕ → Type 0 = λ bytes. c.args.file.now.len ≡ length bytes → IfOk c.judge.result (λ body. StandsAt bytes at (number, body)) in
    IfSome_then (g.F.Files.told c.args.file.now.file) {P = known} {Q = wanted} c.in_ok-bytes.ensures.told (λ bytes enough len.
    ok_then c.judge.result (λ body. StandsAt piece 0 (number, body)) (λ body. StandsAt bytes at (number, body))
    (λ body stands. stands_in bytes piece at number body (enough len) stands) c.judge.ensures.stands)
