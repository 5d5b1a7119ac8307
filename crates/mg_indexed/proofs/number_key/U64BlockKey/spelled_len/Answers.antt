use Rattle.std.proofs.Common.{sym}
use Rattle.mg_frame.proofs.BigEndianLaws.{length-big_endian}
use Rattle.mg_indexed.proofs.number_key.U64BlockKey.spelled_len.Goals as goal

pub returns : goal.returns
returns c = sym (length-big_endian 8 c.args.self.now)
