use Rattle.std.proofs.Common.{arith, length, ap}
use Rattle.mg_frame.proofs.SplitLaws.{length-counted}
use Rattle.mg_indexed.proofs.table_key.KeyBlockKey.spelled_len.Goals as goal

pub returns : goal.returns
returns c = omega (arith, length-counted 1 c.args.self.now, ap length c.bytes.ensures.bytes)
