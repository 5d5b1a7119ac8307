-- Numbers that a body keeps.
use Rattle.std.specs.Prelude.{◌≡◌, ◌≢◌, ℕ, ◌≤◌, ◌<◌, ◌^◌, ◌⊎◌, List, [], ◌∷◌, ◌++◌}
use Rattle.std.specs.List.{AllByRecursion}
use Rattle.mg_types.specs.declared.faults.Fault.{Fault}
use Rattle.mg_types.specs.declared.faults.Fault.TheVariants.{Damaged, Malformed}
use Rattle.mg_types.specs.declared.names.FileId.{FileId}

-- each number is below 2 ^ 62
abbrev pub AreKept : List ℕ → Type 0
AreKept numbers = AllByRecursion (λ number. number < 2 ^ 62) numbers

-- Of these numbers of a body at this offset, the first that is 2 ^ 62 or more is damaged.
pub record IsTooGreat (id : FileId) (at : ℕ) (numbers : List ℕ) (fault : Fault) : Type 0 where
  pub before : List ℕ
  pub number : ℕ
  pub after : List ℕ
  pub numbers_are : numbers ≡ before ++ number ∷ after
  pub kept : AreKept before
  pub great : 2 ^ 62 ≤ number
  pub fault_is : fault ≡ Damaged id at number (2 ^ 62)

-- what is wrong with the offset that an index at `at` says of a block, where the blocks before it end at `end`
abbrev pub IsOffsetUnfit : FileId → ℕ → ℕ → ℕ → Fault → Type 0
IsOffsetUnfit id at end offset fault =
    IsTooGreat id at (offset ∷ []) fault ⊎ ((offset < 2 ^ 62) × (offset ≢ end) × (fault ≡ Malformed id at))
