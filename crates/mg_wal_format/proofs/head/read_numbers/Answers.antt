use Rattle.std.proofs.Common.{ℕ, List, ◌++◌, length, drop, sym, ap, subst, ◌∙◌, arith}
use Rattle.std.proofs.lemmas.List.{length-append}
use Rattle.mg_frame.specs.BigEndian.{big_endian}
use Rattle.mg_frame.proofs.BigEndianLaws.{AreBytes-from_reads, length-big_endian}
use Rattle.mg_wal_format.specs.Heads.{numbers_bytes, AreNumbers}
use Rattle.mg_wal_format.proofs.ReadingLaws.{behind_are_bytes, front_is_number, numbers_bytes-push, AreNumbers-push}
use Rattle.mg_wal_format.proofs.head.read_numbers.Goals as goal

pub unwrap-number-requires : goal.unwrap-number-requires
unwrap-number-requires c =
    let small = behind_are_bytes (numbers_bytes c.loop.numbers.items) c.loop.rest.now c.args.bytes.now c.loop.invariant.spelled (AreBytes-from_reads c.args.bytes.now (λ i. (c.type_inv.bytes i).fits)) in
    let front = front_is_number c.loop.rest.now small (omega (arith, c.loop.invariant.left, c.loop-test.true)) in
    (c.split_u64.ensures.written front.0 (drop 8 c.loop.rest.now) front.1 front.2).0

pub loop-preserved : goal.loop-preserved
loop-preserved c =
    let small = behind_are_bytes (numbers_bytes c.loop.numbers.items) c.loop.rest.now c.args.bytes.now c.loop.invariant.spelled (AreBytes-from_reads c.args.bytes.now (λ i. (c.type_inv.bytes i).fits)) in
    let front = front_is_number c.loop.rest.now small (omega (arith, c.loop.invariant.left, c.loop-test.true)) in
    let number = c.unwrap-number.result.0 in
    let behind = c.unwrap-number.result.1.now in
    let is = rw c.unwrap-number.ensures at (c.split_u64.ensures.written front.0 (drop 8 c.loop.rest.now) front.1 front.2).1 in
    let split = rw c.unwrap-number.ensures at c.split_u64.ensures.split in
    record {
      spelled = ap (λ (ns : List ℕ). numbers_bytes ns ++ behind) c.in_ok-push.ensures.items ∙ numbers_bytes-push c.loop.numbers.items number behind
          ∙ ap (λ (l : List ℕ). numbers_bytes c.loop.numbers.items ++ l) (sym split) ∙ c.loop.invariant.spelled;
      fits = subst AreNumbers (sym c.in_ok-push.ensures.items) (AreNumbers-push c.loop.numbers.items number c.loop.invariant.fits (omega (arith, is.0, front.1)));
      left = omega (arith, c.loop.invariant.left, ap length split, length-append (big_endian 8 number) behind, length-big_endian 8 number);
    }
