-- The calls that took a place, of all partitions in one list, and what follows from it.
use Rattle.std.specs.Prelude.{◌≡◌, ℕ, ◌-◌, List, [], ◌∷◌, ◌++◌, length, map, take, ◌==◌, if◌then◌else◌}
use Rattle.std.specs.Option.{option_to_list}
use Rattle.std.specs.List.{filter}
use Rattle.mg_model.specs.declared.calls.Call.{Call}
use Rattle.mg_model.specs.declared.calls.Change.{Change}
use Rattle.mg_model.specs.State.{State, new_state, step}
use Rattle.mg_model.specs.History.{History, after_changes, after_history, change_of}

-- a call that took a place: its partition, its client, and the call as the history has it
pub record Placed : Type 0 where
  pub part : ℕ
  pub client : ℕ
  pub call : Call

-- the state with which each partition is opened
abbrev pub Opening : Type 0
Opening = ℕ → State

-- all partitions are opened empty
abbrev pub empty_opening : Opening
empty_opening part = new_state

-- the history of one partition
abbrev pub history_in : List Placed → ℕ → History
history_in placed part = map (λ p. (p.client, p.call)) (filter (λ p. p.part == part) placed)

-- how many calls took a place in a partition
abbrev pub calls_in : List Placed → ℕ → ℕ
calls_in placed part = length (history_in placed part)

-- the state to which the calls led a partition
abbrev pub state_in : Opening → List Placed → ℕ → State
state_in opening placed part = after_history (opening part) (history_in placed part)

-- the states with which partitions go on after one call
abbrev pub opening_after : Opening → Placed → Opening
opening_after opening p part = if p.part == part then (step (opening part) p.call).state else opening part

-- the changes of all partitions in one order, each with its partition
abbrev pub changes_in : Opening → List Placed → List (ℕ × Change)
changes_in opening [] = []
changes_in opening (p ∷ placed) = map (λ c. (p.part, c)) (option_to_list (change_of (opening p.part) p.call)) ++ changes_in (opening_after opening p) placed

-- the changes of one partition among those of all
abbrev pub changes_at : List (ℕ × Change) → ℕ → List Change
changes_at changes part = map (λ c. c.1) (filter (λ c. c.0 == part) changes)

-- The changes of a run up to this number of the shared log, where so many changes were counted before the run: the first
-- change of the run has the number behind these.
abbrev pub up_to : ℕ → ℕ → List (ℕ × Change) → List (ℕ × Change)
up_to counted number changes = take (number - counted) changes

-- the state of each partition with its changes up to one number of the shared log
abbrev pub cut : Opening → ℕ → ℕ → List (ℕ × Change) → ℕ → State
cut opening counted number changes part = after_changes (opening part) (changes_at (up_to counted number changes) part)

-- The first of some placed calls made just the changes up to a number of the shared log. Each partition has a front of its
-- history in them, and these calls lead it to its state at the cut.
pub record CutsBehind (opening : Opening) (counted number : ℕ) (placed : List Placed) : Type 0 where
  pub first : List Placed
  pub later : List Placed
  pub whole : placed ≡ first ++ later
  pub changes : up_to counted number (changes_in opening placed) ≡ changes_in opening first
  pub histories : (part : ℕ) → history_in placed part ≡ history_in first part ++ history_in later part
  pub states : (part : ℕ) → cut opening counted number (changes_in opening placed) part ≡ state_in opening first part
