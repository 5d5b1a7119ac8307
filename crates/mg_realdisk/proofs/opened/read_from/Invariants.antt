use Rattle.std.proofs.Common.{◌≡◌, ◌≤◌, length}
use Rattle.mg_realdisk.proofs.opened.read_from.Given as goal

-- no more was read than the buffer has room for
abbrev pub invariant-loop : goal.invariant-loop
invariant-loop l = (l.count ≤ length l.initial.buf) × (length l.buf ≡ length l.initial.buf)
