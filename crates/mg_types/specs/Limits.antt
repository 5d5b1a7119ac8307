-- Limits of the numbers that files keep.
use Rattle.std.specs.Prelude.{ℕ, ◌<◌, ◌≤◌, ◌^◌}

-- a number that a file may keep is below 2^62
abbrev pub IsNumber : ℕ → Type 0
IsNumber number = number < 2 ^ 62

-- a sequence number that a file may keep is from 1 on
abbrev pub IsSeq : ℕ → Type 0
IsSeq seq = (1 ≤ seq) × (seq < 2 ^ 62)

-- the size of a mutation is that of its key and document, of which the key is never empty
abbrev pub IsSize : ℕ → Type 0
IsSize size = (1 ≤ size) × (size ≤ 1048826)
