use Rattle.std.proofs.Common.{◌≡◌, ◌+◌, ◌<◌, ◌≤◌, ℕ, get_or}
use Rattle.std.specs.Int.Bits.{bit_or}
use Rattle.mg_bloom.proofs.fold.join_halves.Given as goal

-- the bytes before the place are joined, and the others are as they were
abbrev pub invariant-loop-at : goal.invariant-loop-at
invariant-loop-at l = record {
  joined : (i : ℕ) → i < l.at → get_or l.body i 0 ≡ bit_or (get_or l.fn.body i 0) (get_or l.fn.body (l.half + i) 0);
  kept : (i : ℕ) → l.at ≤ i → get_or l.body i 0 ≡ get_or l.fn.body i 0;
}
