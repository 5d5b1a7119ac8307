use Rattle.std.proofs.Common.{sym}
use Rattle.mg_frame.proofs.BigEndianLaws.{length-big_endian}
use Rattle.mg_records.proofs.dead.DeadRecord.contents_len.Goals as goal

pub returns : goal.returns
returns c = sym (length-big_endian 4 c.args.self.now.size)
