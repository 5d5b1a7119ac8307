-- A gap that the opening of a store finds.
use Rattle.std.specs.Prelude.{◌≡◌, ◌<◌, ℕ, List, length, get_or}
use Rattle.mg_types.specs.declared.faults.Fault.{Fault}
use Rattle.mg_types.specs.declared.faults.Fault.TheVariants as fault
use Rattle.mg_wal.specs.Book.{changes_of, Book}

-- no change is before the oldest log
abbrev pub AreWhole : List ℕ → Type 0
AreWhole low = (part : ℕ) → get_or low part 0 ≡ 0

-- the first partition of which changes were before the oldest log, with their count and that of all
pub record IsGapOf (low : List ℕ) (book : Book) (f : Fault) : Type 0 where
  pub part : ℕ
  pub within : part < length low
  pub first : (other : ℕ) → other < part → get_or low other 0 ≡ 0
  pub some : 0 < get_or low part 0
  pub named : f ≡ fault.Gap part 0 (get_or low part 0) (changes_of book part)
