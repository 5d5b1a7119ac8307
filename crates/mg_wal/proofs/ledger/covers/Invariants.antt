use Rattle.std.proofs.Common.{ℕ, ◌<◌, ◌≤◌, get_or}
use Rattle.mg_wal.proofs.ledger.covers.Given as goal

-- the counts so far are covered
abbrev pub invariant-loop-part : goal.invariant-loop-part
invariant-loop-part l = (i : ℕ) → i < l.part → get_or l.before i 0 ≤ get_or l.released i 0
