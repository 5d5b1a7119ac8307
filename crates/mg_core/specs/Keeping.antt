-- The layouts that a partition keeps: the present one, and those of marks.
use Rattle.std.specs.Prelude.{◌<◌, ◌≤◌, ℕ, List, ◌∷◌, map, take}
use Rattle.mg_model.specs.State.{State, length_of, marks_of}
use Rattle.mg_core.specs.Lists.{Has, RisesBy}
use Rattle.mg_core.specs.Layouts.{Layout, Stands}

-- The present layout stands for the first `flushed` places of a state's list, and each kept layout for the places up to its mark,
-- which is beside it. Each mark up to `flushed` has a kept layout. Marks that are gone may have one too.
pub record Keeps (l : Layout) (kept : List (ℕ × Layout)) (flushed : ℕ) (s : State) : Type 0 where
  pub within : flushed ≤ length_of s
  pub present : Stands l (take flushed s.mutations)
  pub low : (k : ℕ × Layout) → Has kept k → k.0 ≤ flushed
  pub marked : (k : ℕ × Layout) → Has kept k → Stands k.1 (take k.0 s.mutations)
  pub whole : (mark : ℕ) → Has (marks_of s) mark → mark ≤ flushed → Has (map (λ k. k.0) kept) mark

-- A partition keeps layouts, and frozen memtables that end at these places, from the oldest: their intervals and that of the memtable
-- that takes writes are neighbours, from what is in files to the end of the list. Each mark above what is in files is such an end.
pub record Holds (l : Layout) (kept : List (ℕ × Layout)) (flushed : ℕ) (ends : List ℕ) (s : State) : Type 0 where
  pub keeps : Keeps l kept flushed s
  pub rising : RisesBy (λ hi. hi) (flushed ∷ ends)
  pub inside : (hi : ℕ) → Has ends hi → hi ≤ length_of s
  pub above : (mark : ℕ) → Has (marks_of s) mark → flushed < mark → Has ends mark
