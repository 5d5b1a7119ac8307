use Rattle.std.proofs.Common.{arith}
use Rattle.mg_frame.proofs.BigEndianLaws.{length-big_endian}
use Rattle.mg_records.proofs.writer.RecordWriter.handle_len.Goals as goal

pub returns : goal.returns
returns g c = omega (arith, c.handle_len.ensures, length-big_endian 8 c.args.number)
