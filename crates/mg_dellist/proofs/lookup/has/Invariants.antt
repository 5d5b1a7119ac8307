use Rattle.std.proofs.Common.{◌≢◌, ℕ, ◌*◌, ◌<◌, drop, Some}
use Rattle.mg_frame.specs.BigEndian.{front_number}
use Rattle.mg_dellist.proofs.lookup.has.Given as goal

abbrev pub invariant-loop-index : goal.invariant-loop-index
invariant-loop-index l = (k : ℕ) → k < l.index → front_number 8 (drop (k * 12) l.block) ≢ Some l.seq
