use Rattle.std.proofs.Common.{◌≡◌, ◌≤◌, ◌∙◌, ◌+◌, ◌*◌, ◌^◌, ap, arith}
use Rattle.std.specs.Str.Parse.{digits_value}
use Rattle.std.proofs.lemmas.List.{take_all}
use Rattle.mg_script.proofs.Numbers.{value_more, value_above}
use Rattle.mg_script.proofs.tokens.decimal_value.Goals as goal

pub returns-in_err-checked_mul : goal.returns-in_err-checked_mul
returns-in_err-checked_mul c =
    let above = value_above c.args.digits.now c.loop-digit.digit-index c.requires c.loop-digit-test.true in
    let large : 2 ^ 64 ≤ c.loop-digit.value * 10 = omega (arith, c.in_err-checked_mul.ensures) in
    rw c.from_residual.ensures (λ small. omega (arith, above, large, small, c.loop-digit.invariant.so_far))

pub returns-in_err-value : goal.returns-in_err-value
returns-in_err-value c =
    let above = value_above c.args.digits.now c.loop-digit.digit-index c.requires c.loop-digit-test.true in
    let large : 2 ^ 64 ≤ c.in_ok-checked_mul.field-0 + c.from.result = omega (arith, c.in_err-value.ensures) in
    rw c.from_residual-in_err-value.ensures (λ small. omega (arith, above, large, small, c.loop-digit.invariant.so_far, c.in_ok-checked_mul.ensures.1, c.from.ensures))

pub loop-digit-preserved : goal.loop-digit-preserved
loop-digit-preserved c =
    let more = value_more c.args.digits.now c.loop-digit.digit-index c.requires c.loop-digit-test.true in
    record {
      so_far = omega (arith, more, c.loop-digit.invariant.so_far, c.in_ok-value.ensures.1, c.in_ok-checked_mul.ensures.1, c.from.ensures);
      fits = omega (arith, c.in_ok-value.ensures.0, c.in_ok-value.ensures.1);
    }

pub returns : goal.returns
returns c =
    let whole = ap (digits_value 10) (take_all c.loop-digit.digit-index c.args.digits.now c.loop-digit-test.false) in
    let e : c.loop-digit.value ≡ digits_value 10 c.args.digits.now = c.loop-digit.invariant.so_far ∙ whole in
    (omega (arith, e, c.loop-digit.invariant.fits), e)
