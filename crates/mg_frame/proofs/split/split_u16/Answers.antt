use Rattle.std.proofs.Common.{◌++◌, refl, sym, ap, ◌∙◌, arith, rules}
use Rattle.mg_frame.specs.BigEndian.{big_endian}
use Rattle.mg_frame.proofs.BigEndianLaws.{AreBytes-from_reads, front_number_fits}
use Rattle.mg_frame.proofs.SplitLaws.{split_is, split_written, split_some, tail_is}
use Rattle.mg_frame.proofs.split.split_u16.Goals as goal

pub returns-in_err-number-clause-written : goal.returns-in_err-number-clause-written
returns-in_err-number-clause-written c = λ number rest fits is. absurd (split_some 2 c.args.bytes.now rest number fits is c.in_err-number.ensures)

pub slice_bounds-result-count : goal.slice_bounds-result-count
slice_bounds-result-count c = omega (arith, (front_number_fits 2 c.args.bytes.now c.in_ok-number.number (sym c.in_ok-number.ensures)).0)

pub slice_bounds-result-start : goal.slice_bounds-result-start
slice_bounds-result-start c = omega (arith, (front_number_fits 2 c.args.bytes.now c.in_ok-number.number (sym c.in_ok-number.ensures)).0)

pub returns-clause-split : goal.returns-clause-split
returns-clause-split c =
    split_is 2 c.args.bytes.now c.in_ok-number.number (AreBytes-from_reads c.args.bytes.now (λ i. search (rules, c.type_inv.bytes i))) c.in_ok-number.ensures
    ∙ ap (λ rest. big_endian 2 c.in_ok-number.number ++ rest) (sym (tail_is 2 c.args.bytes.now))

pub returns-clause-written : goal.returns-clause-written
returns-clause-written c = λ number rest fits is.
    let h = split_written 2 c.args.bytes.now rest c.in_ok-number.number number fits is c.in_ok-number.ensures in
    (refl, (h.0, tail_is 2 c.args.bytes.now ∙ h.1))
