use Rattle.std.proofs.Common.{arith}
use Rattle.mg_indexed.proofs.writing.ClosedBlocks.handle_len.Goals as goal

pub overflow_add-result : goal.overflow_add-result
overflow_add-result g c = omega (arith, c.spelled_len.ensures, g.met.K.BlockKey.lawful.short c.args.first.now c.requires)
