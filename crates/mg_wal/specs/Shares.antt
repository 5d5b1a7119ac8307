-- The history of a turn, as a list of changes.
use Rattle.std.specs.Prelude.{◌≡◌, ℕ, ◌+◌, ◌-◌, ◌<◌, ◌≤◌, ◌^◌, ◌⊎◌, List, length, map}
use Rattle.std.specs.List.{AllByRecursion}
use Rattle.mg_types.specs.declared.faults.Fault.{Fault}
use Rattle.mg_types.specs.declared.faults.Fault.TheVariants.{Worn}
use Rattle.mg_wal.specs.Book.{Entry}
use Rattle.mg_wal.specs.Lists.{last_opened, Basis}

-- the changes of a history, in order
abbrev pub changes_in : List (ℕ × Entry) → List Entry
changes_in history = map (λ x. x.1) history

-- each change of partition p has the caller p + 1
abbrev pub AreOfCallers : List (ℕ × Entry) → Type 0
AreOfCallers history = AllByRecursion (λ x. x.0 ≡ x.1.0 + 1) history

-- the number of the last record, behind a history
abbrev pub last_in : Basis → List (ℕ × Entry) → ℕ
last_in basis history = last_opened basis + length history

-- the first of these two numbers that is at its limit
abbrev pub IsWornAt : (last change : ℕ) → Fault → Type 0
IsWornAt last change fault =
    ((2 ^ 62 - 1 ≤ last) × (fault ≡ Worn last)) ⊎ ((last < 2 ^ 62 - 1) × (2 ^ 62 - 1 ≤ change) × (fault ≡ Worn change))
