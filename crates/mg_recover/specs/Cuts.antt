-- What the images that a crash leaves open to.
use Rattle.std.specs.Prelude.{◌≡◌, ◌<◌, ◌≤◌, ◌⊎◌, ℕ, ◌+◌, List, length}
use Rattle.mg_disk.specs.Images.{Image}
use Rattle.mg_model.specs.Placed.{cut, state_in, Opening, Placed}
use Rattle.mg_recover.specs.Made.{entries_of, opened_by, run_changes, states_after, AreMade}
use Rattle.mg_wal.specs.Lists.{last_opened, Basis}
use Rattle.mg_wal_format.specs.declared.record.Rec.{Rec}
use Rattle.mg_wal_format.specs.Logs.{Log}
use Rattle.mg_wal_format.specs.Recovery.{end_of, low_of, Opens}

-- An image opens to these states of so many partitions: its logs open, no change before the oldest is missing, and the
-- records' changes may be made and lead to these states.
pub record IsOpened (parts : ℕ) (image : Image) (states : Opening) : Type 0 where
  pub logs : List Log
  pub recs : List Rec
  pub opens : Opens parts image logs recs
  pub whole : (part : ℕ) → low_of logs part ≡ 0
  pub made : AreMade (entries_of recs)
  pub led : (part : ℕ) → part < parts → states part ≡ states_after (entries_of recs) part

-- the number of the last change, where the run has had these placed calls
abbrev pub last_change : Basis → List Placed → ℕ
last_change basis placed = last_opened basis + length (run_changes basis placed)

-- An image opens to one cut of all partitions: at the number of a change of the run, or at the last that the opening found,
-- and at least at the number before `reach`. Where the image has a log, that is the number of its last record.
pub record LeavesCut (basis : Basis) (placed : List Placed) (reach : ℕ) (image : Image) : Type 0 where
  pub number : ℕ
  pub reached : reach ≤ number + 1
  pub behind : last_opened basis ≤ number
  pub within : number ≤ last_change basis placed
  pub opened : IsOpened (length basis.low) image (cut (opened_by basis) (last_opened basis) number (run_changes basis placed))
  pub ends : (end_of opened.logs opened.recs ≡ 0) ⊎ (end_of opened.logs opened.recs ≡ number + 1)

-- an image opens to the states to which all placed calls led
abbrev pub LeavesAll : Basis → List Placed → Image → Type 0
LeavesAll basis placed image = IsOpened (length basis.low) image (state_in (opened_by basis) placed)
