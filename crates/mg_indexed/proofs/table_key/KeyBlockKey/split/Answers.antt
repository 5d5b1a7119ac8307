use Rattle.std.proofs.Common.{◌+◌, length, ap, arith}
use Rattle.std.proofs.lemmas.List.{length-append}
use Rattle.mg_frame.specs.BigEndian.{counted}
use Rattle.mg_frame.proofs.SplitLaws.{length-counted}
use Rattle.mg_indexed.proofs.FieldLaws.{split_front}
use Rattle.mg_indexed.proofs.table_key.KeyBlockKey.split.Goals as goal

pub split_at-requires : goal.split_at-requires
split_at-requires c =
    let key = c.in_ok-key.key.now in
    omega (arith, ap length c.in_ok-key.ensures.split, length-append (counted 1 key) c.in_ok-key.field-0-1.now, length-counted 1 key)

pub returns-clause-split : goal.returns-clause-split
returns-clause-split c =
    let key = c.in_ok-key.key.now in
    let split = split_front (counted 1 key) c.in_ok-key.field-0-1.now c.args.bytes.now c.split_at.result.0.now c.split_at.result.1.now (1 + length key) c.in_ok-key.ensures.split
    (length-counted 1 key) c.split_at.ensures.front c.split_at.ensures.back in
    ((key, c.in_ok-key.ensures.bound, split.0), split.1)
