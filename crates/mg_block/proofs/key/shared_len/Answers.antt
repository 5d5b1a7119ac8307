use Rattle.mg_block.proofs.Loops.{shared_len-all_other}
use Rattle.mg_block.proofs.key.shared_len.Goals as goal

pub returns-else-len-other-clause-shared : goal.returns-else-len-other-clause-shared
returns-else-len-other-clause-shared c = shared_len-all_other c.args.key.now c.args.other.now c.loop-len.len c.loop-len.invariant c.if-len-other.false
