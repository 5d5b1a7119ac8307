use Rattle.std.proofs.Common.{◌-◌, length}
use Rattle.mg_table.proofs.ListingLaws.{Lists}
use Rattle.mg_table.proofs.reading.list_block.Given as goal

abbrev pub invariant-loop-alloc : goal.invariant-loop-alloc
invariant-loop-alloc l = Lists l.block l.cursor l.fn.entries l.entries

abbrev pub decreases-loop-alloc : goal.decreases-loop-alloc
decreases-loop-alloc l = length l.block - length l.cursor.read
