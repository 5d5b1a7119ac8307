-- Bytes, and keys and documents as lists of them.
use Rattle.std.specs.Prelude.{ℕ, ◌<◌, ◌≤◌, ◌^◌, List, length, All}

-- each number of the list is a byte
abbrev pub AreBytes : List ℕ → Type 0
AreBytes bytes = All (λ byte. byte < 2 ^ 8) bytes

-- a key has 1 to 250 bytes
abbrev pub IsKey : List ℕ → Type 0
IsKey bytes = (1 ≤ length bytes) × (length bytes ≤ 250)

-- a document has at most 1,048,576 bytes
abbrev pub IsDoc : List ℕ → Type 0
IsDoc bytes = length bytes ≤ 1048576
