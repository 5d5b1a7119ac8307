use Rattle.std.proofs.Common.{IsTrue, sym, arith}
use Rattle.std.proofs.lemmas.Grind.{common_steps}
use Rattle.mg_frame.proofs.BigEndianLaws.{length-big_endian}
use Rattle.mg_records.proofs.dead.DeadRecord.measure.Goals as goal

pub returns : goal.returns
returns c =
    let is : IsTrue c.is_size.result = grind (arith, common_steps) in
    (record { seq = 0; size = c.in_ok-size.size }, c.in_ok-size.field-0-1.now, c.is_size.ensures.0 is, c.in_ok-size.ensures.split, sym (length-big_endian 4 c.in_ok-size.size))
