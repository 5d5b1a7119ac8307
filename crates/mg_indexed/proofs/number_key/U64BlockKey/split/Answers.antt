use Rattle.std.proofs.Common.{◌<◌, ◌^◌, length, ap, arith, rules}
use Rattle.std.proofs.lemmas.List.{length-append}
use Rattle.mg_frame.specs.BigEndian.{big_endian}
use Rattle.mg_frame.proofs.BigEndianLaws.{length-big_endian}
use Rattle.mg_indexed.proofs.FieldLaws.{split_front}
use Rattle.mg_indexed.proofs.number_key.U64BlockKey.split.Goals as goal

pub split_at-requires : goal.split_at-requires
split_at-requires c =
    let number = c.in_ok-split_u64.field-0.0 in
    omega (arith, ap length c.in_ok-split_u64.ensures.split, length-append (big_endian 8 number) c.in_ok-split_u64.field-0.1.now, length-big_endian 8 number)

pub returns-clause-split : goal.returns-clause-split
returns-clause-split c =
    let number = c.in_ok-split_u64.field-0.0 in
    let small : number < 2 ^ 64 = search rules in
    let split = split_front (big_endian 8 number) c.in_ok-split_u64.field-0.1.now c.args.bytes.now c.split_at.result.0.now c.split_at.result.1.now 8 c.in_ok-split_u64.ensures.split
    (length-big_endian 8 number) c.split_at.ensures.front c.split_at.ensures.back in
    ((number, small, split.0), split.1)
