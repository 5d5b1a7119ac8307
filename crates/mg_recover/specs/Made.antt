-- The changes of records and of a run, and the states to which they lead.
use Rattle.std.specs.Prelude.{ℕ, List, [], ◌∷◌, ◌++◌, map, ⊤, IsTrue}
use Rattle.mg_model.specs.declared.calls.Change.{Change}
use Rattle.mg_model.specs.History.{after_change, after_changes, allows, call_for}
use Rattle.mg_model.specs.Placed.{changes_at, changes_in, Opening, Placed}
use Rattle.mg_model.specs.State.{new_state, HasRoom, State}
use Rattle.mg_wal.specs.Book.{Entry}
use Rattle.mg_wal.specs.Lists.{Basis}
use Rattle.mg_wal_format.specs.declared.record.Rec.{Rec}

-- a change may be made of a state: it passes no limit of numbers, and the state allows it
abbrev pub MayMake : State → Change → Type 0
MayMake s change = HasRoom s (call_for change) × IsTrue (allows s change)

-- each of some changes may be made of the state to which those before it lead
abbrev pub AllMade : State → List Change → Type 0
AllMade s [] = ⊤
AllMade s (change ∷ changes) = MayMake s change × AllMade (after_change s change) changes

-- the changes of records, each with its partition
abbrev pub entries_of : List Rec → List Entry
entries_of recs = map (λ rec. (rec.part, rec.what)) recs

-- the states to which changes lead partitions to which nothing had happened
abbrev pub states_after : List Entry → Opening
states_after entries part = after_changes new_state (changes_at entries part)

-- each partition's changes may be made, one after the other, from the beginning
abbrev pub AreMade : List Entry → Type 0
AreMade entries = (part : ℕ) → AllMade new_state (changes_at entries part)

-- the states with which a run goes on from what the opening found
abbrev pub opened_by : Basis → Opening
opened_by basis = states_after (entries_of basis.opened)

-- the changes of a run
abbrev pub run_changes : Basis → List Placed → List Entry
run_changes basis placed = changes_in (opened_by basis) placed

-- all changes: those that the opening found, and behind them those of the run
abbrev pub all_changes : Basis → List Placed → List Entry
all_changes basis placed = entries_of basis.opened ++ run_changes basis placed
