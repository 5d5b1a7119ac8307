use Rattle.std.proofs.Common.{arith}
use Rattle.mg_wal.proofs.stream.head_end.Goals as goal

pub overflow_mul-parts : goal.overflow_mul-parts
overflow_mul-parts c = omega (arith, c.requires, c.len-parts.ensures)

pub overflow_add-parts : goal.overflow_add-parts
overflow_add-parts c = omega (arith, c.requires, c.len-parts.ensures)
