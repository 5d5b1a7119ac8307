use Rattle.std.proofs.Common.{take}
use Rattle.mg_wal.proofs.HeadLaws.{AreHeads}
use Rattle.mg_wal.proofs.heads.read_heads.Given as goal

-- the logs so far are those of the frames so far
abbrev pub invariant-loop-frame : goal.invariant-loop-frame
invariant-loop-frame l = AreHeads (take l.frame-index l.frames) l.known.items
