use Rattle.std.proofs.Common.{suc, take, drop, slice_index_or, sym, subst, arith}
use Rattle.std.proofs.lemmas.List.{take_all, take_more}
use Rattle.std.proofs.Math.Seq.{split_at}
use Rattle.mg_sealed.specs.Numbers.{AreKept}
use Rattle.mg_sealed.proofs.NumberLaws.{kept_more}
use Rattle.mg_sealed.proofs.numbers.check_numbers.Goals as goal

pub returns-then-number-ge-NUMBER_LIMIT : goal.returns-then-number-ge-NUMBER_LIMIT
returns-then-number-ge-NUMBER_LIMIT c =
    let numbers = c.args.numbers.now in
    let i = c.loop-number.number-index in
    record {
      before = take i numbers;
      number = slice_index_or numbers i 0;
      after = drop (suc i) numbers;
      numbers_are = split_at numbers i 0 c.loop-number-test.true;
      kept = c.loop-number.invariant;
      great = c.if-number-ge-NUMBER_LIMIT.true;
      fault_is = c.damaged.ensures;
    }

pub loop-number-preserved : goal.loop-number-preserved
loop-number-preserved c =
    let numbers = c.args.numbers.now in
    let i = c.loop-number.number-index in
    subst AreKept (sym (take_more numbers i 0 c.loop-number-test.true))
    (kept_more (take i numbers) (slice_index_or numbers i 0) c.loop-number.invariant c.if-number-ge-NUMBER_LIMIT.false)

pub returns : goal.returns
returns c =
    let numbers = c.args.numbers.now in
    subst AreKept (take_all c.loop-number.number-index numbers (omega (arith, c.loop-number-test.false))) c.loop-number.invariant
