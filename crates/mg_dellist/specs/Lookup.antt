-- A block of entries of 12 bytes, as bytes.
use Rattle.std.specs.Prelude.{◌≡◌, ℕ, ◌+◌, ◌*◌, ◌≤◌, List, length, drop, Some}
use Rattle.mg_frame.specs.BigEndian.{front_number}

-- a whole entry of 12 bytes stands at this index, and the first 8 of them are the number
abbrev pub HasNumberAt : List ℕ → ℕ → ℕ → Type 0
HasNumberAt block seq index = (index * 12 + 12 ≤ length block) × (front_number 8 (drop (index * 12) block) ≡ Some seq)

-- one of the whole entries of 12 bytes has this number
abbrev pub HasNumber : List ℕ → ℕ → Type 0
HasNumber block seq = (index : ℕ) × HasNumberAt block seq index
