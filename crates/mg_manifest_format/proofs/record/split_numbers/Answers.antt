use Rattle.std.proofs.Common.{refl, ◌∙◌, arith}
use Rattle.mg_frame.specs.BigEndian.{big_endian}
use Rattle.mg_manifest_format.proofs.ReadingLaws.{six_behind}
use Rattle.mg_manifest_format.proofs.record.split_numbers.Goals as goal

pub returns-clause-written : goal.returns-clause-written
returns-clause-written c = λ epoch applied receipt flushed next_file rest a b d e f spelled.
    let whole = spelled ∙ six_behind (big_endian 1 1) (big_endian 8 epoch) (big_endian 8 applied) (big_endian 8 receipt) (big_endian 8 flushed) (big_endian 8 next_file) rest in
    let format = (c.in_ok-format.ensures.written 1 _ (omega arith) whole).1 in
    let first = (c.in_ok-epoch.ensures.written epoch _ a format.1).1 in
    let second = (c.in_ok-applied.ensures.written applied _ b first.1).1 in
    let third = (c.in_ok-receipt.ensures.written receipt _ d second.1).1 in
    let fourth = (c.in_ok-flushed.ensures.written flushed _ e third.1).1 in
    let fifth = (c.in_ok-next_file.ensures.written next_file _ f fourth.1).1 in
    (refl, (first.0, second.0, third.0, fourth.0, fifth.0, fifth.1))
