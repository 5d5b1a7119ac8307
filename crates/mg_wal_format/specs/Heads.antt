-- Heads of logs as bytes: the body of a log's first frame.
use Rattle.std.specs.Prelude.{ℕ, ◌<◌, ◌≤◌, ◌^◌, List, [], ◌∷◌, ◌++◌, length}
use Rattle.std.specs.List.{AllByRecursion}
use Rattle.mg_frame.specs.BigEndian.{big_endian}
use Rattle.mg_wal_format.specs.declared.head.Head.{Head}

-- numbers in 8 bytes each, one after another
abbrev pub numbers_bytes : List ℕ → List ℕ
numbers_bytes [] = []
numbers_bytes (n ∷ ns) = big_endian 8 n ++ numbers_bytes ns

-- numbers that have room in 8 bytes
abbrev pub AreNumbers : List ℕ → Type 0
AreNumbers ns = AllByRecursion (λ n. n < 2 ^ 64) ns

-- the body of a head: the format 1, the number of the first record, the number of partitions in 2 bytes, and each partition's number of changes before
unfoldable pub head_bytes : Head → List ℕ
head_bytes head = big_endian 1 1 ++ (big_endian 8 head.first ++ (big_endian 2 (length head.before) ++ numbers_bytes head.before))

-- the number of partitions that a head counts
abbrev pub parts_of : Head → ℕ
parts_of head = length head.before

-- a head whose fields have room for what it says
pub record IsHead (head : Head) : Type 0 where
  pub first : head.first < 2 ^ 64
  pub parts : parts_of head < 2 ^ 16
  pub before : AreNumbers head.before

-- a head that a log may have: its first record has a number from 1 on, and a file may keep its numbers
pub record IsSoundHead (head : Head) : Type 0 where
  pub fits : IsHead head
  pub first : 1 ≤ head.first
  pub first_is_kept : head.first < 2 ^ 62
  pub before_are_kept : AllByRecursion (λ n. n < 2 ^ 62) head.before
