use Rattle.std.proofs.Common.{◌≡◌, ◌∙◌, ℕ, [], ◌∷◌, inl, inr, sym, ap, subst, arith}
use Rattle.std.proofs.lemmas.Grind.{common_steps}
use Rattle.std.proofs.lemmas.List.{append-nil}
use Rattle.mg_frame.specs.BigEndian.{big_endian}
use Rattle.mg_sealed.specs.Numbers.{IsTooGreat}
use Rattle.mg_indexed.specs.NumberKeys.{number_keys}
use Rattle.mg_indexed.proofs.FieldLaws.{reading_err}
use Rattle.mg_indexed.proofs.number_key.U64BlockKey.read.Goals as goal

pub unwrap-number-requires : goal.unwrap-number-requires
unwrap-number-requires c =
    let given = c.requires in
    (c.split_u64.ensures.written given.0 [] given.1 (given.2 ∙ sym (append-nil (big_endian 8 given.0)))).0

pub returns-in_err-check_numbers : goal.returns-in_err-check_numbers
returns-in_err-check_numbers c =
    let given = c.requires in
    let written = rw c.unwrap-number.ensures at (c.split_u64.ensures.written given.0 [] given.1 (given.2 ∙ sym (append-nil (big_endian 8 given.0)))).1 in
    let same : c.unwrap-number.result.0 ≡ given.0 = written.0 in
    let fault = c.in_err-check_numbers.field-0.0 in
    reading_err number_keys c.args.id c.args.at _ c.args.spelled.now c.from_residual.result fault (grind (arith, common_steps))
    (inr (given.0, given.1, given.2, inl (subst (λ (n : ℕ). IsTooGreat c.args.id c.args.at (n ∷ []) fault) same c.in_err-check_numbers.ensures)))

pub returns-then-number-last_number : goal.returns-then-number-last_number
returns-then-number-last_number c =
    let given = c.requires in
    let written = rw c.unwrap-number.ensures at (c.split_u64.ensures.written given.0 [] given.1 (given.2 ∙ sym (append-nil (big_endian 8 given.0)))).1 in
    let same : c.unwrap-number.result.0 ≡ given.0 = written.0 in
    inr (given.0, given.1, given.2, inr (omega (arith, same, c.in_ok-check_numbers.ensures.0), omega (arith, same, c.if-number-last_number.true, c.last_number.ensures), c.malformed.ensures))

pub returns : goal.returns
returns c =
    let given = c.requires in
    let written = rw c.unwrap-number.ensures at (c.split_u64.ensures.written given.0 [] given.1 (given.2 ∙ sym (append-nil (big_endian 8 given.0)))).1 in
    let same : c.unwrap-number.result.0 ≡ given.0 = written.0 in
    (omega (arith, same, given.1), given.2 ∙ ap (λ (n : ℕ). big_endian 8 n) (sym same), (c.in_ok-check_numbers.ensures.0, grind (arith, common_steps, c.last_number.ensures)))
