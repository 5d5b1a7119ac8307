-- What lasts of the changes of a run, and how often the volume of its log failed.
use Rattle.std.specs.Prelude.{◌≤◌, ℕ, ◌+◌, ◌-◌, List, [], Bool, true, false, Result, Ok, Err}
use Rattle.std.specs.List.{count_by}
use Rattle.mg_disk.specs.Images.{Image, View}
use Rattle.mg_faults.specs.Causes.{raised}
use Rattle.mg_model.specs.declared.replies.Answer.{Answer}
use Rattle.mg_model.specs.declared.replies.Reply.{Reply}
use Rattle.mg_model.specs.Placed.{Placed}
use Rattle.mg_recover.specs.Cuts.{LeavesAll, LeavesCut}
use Rattle.mg_recover.specs.Made.{run_changes}
use Rattle.mg_script.specs.declared.script.Line.{Line}
use Rattle.mg_types.specs.declared.faults.Fault.{Fault}
use Rattle.mg_types.specs.declared.faults.Fault.TheVariants as fault
use Rattle.mg_wal.specs.Book.{Book}
use Rattle.mg_wal.specs.Lists.{Basis}
use Rattle.mg_wal.specs.Stories.{Reaches}
use Rattle.mg_wal_format.specs.Recovery.{ByNoChance}
use Rattle.mg_serve.specs.Answers.{IsSyncedAt}
use Rattle.mg_serve.specs.Placed.{placed_of}

-- ---- counts

-- a failed write
abbrev pub is_write_fault : Result Reply Fault → Bool
is_write_fault (Ok reply) = false
is_write_fault (Err fault.WriteFault) = true
is_write_fault (Err other) = false

-- a fault
abbrev pub is_fault : Result Reply Fault → Bool
is_fault (Ok reply) = false
is_fault (Err f) = true

-- how many of some answers are a failed write
abbrev pub failed_writes : List Answer → ℕ
failed_writes answers = count_by (λ answer. is_write_fault answer.result) answers

-- how many of some answers are a fault
abbrev pub faults_in : List Answer → ℕ
faults_in answers = count_by (λ answer. is_fault answer.result) answers

-- 1 for a failed write
abbrev pub write_count : Fault → ℕ
write_count fault.WriteFault = 1
write_count other = 0

-- how many failed writes a sync was, and how many faults
abbrev pub writes_of : Result Unit Fault → ℕ
writes_of (Ok done) = 0
writes_of (Err f) = write_count f

abbrev pub faults_of : Result Unit Fault → ℕ
faults_of (Ok done) = 0
faults_of (Err f) = 1

-- a count has risen by so much at least and by so much at most, but for its last number
pub record RisesBy (least most before now : ℕ) : Type 0 where
  pub enough : raised before least ≤ now
  pub few : now ≤ raised before most

-- ---- images

-- The log's volume reaches what the opening found since the moment of the opening; and since a moment for each line that was answered
-- that all is synced, it reaches every change before that.
pub record Holds (basis : Basis) (lines : List Line) (answers : List Answer) (opening : ℕ) (book : Book) (view : View) : Type 0 where
  pub found : Reaches basis (run_changes basis (placed_of lines answers)) opening basis.reached book view
  pub synced : (number : ℕ) → IsSyncedAt basis [] lines answers number
      → (time : ℕ) × (reach : ℕ) × (number ≤ reach - 1) × (basis.reached ≤ reach) × Reaches basis (run_changes basis (placed_of lines answers)) time reach book view

-- Each image that a crash might have left since a moment, which is no later one than now, opens to one cut of all partitions that has
-- every change below a number, unless a frame of the image is whole by chance.
abbrev pub LeavesCuts : Basis → List Placed → (time reach : ℕ) → View → Type 0
LeavesCuts basis placed time reach view = (time ≤ view.moment) × ((image : Image) → view.left_since time image → ByNoChance image view.written → LeavesCut basis placed reach image)

-- What a crash leaves of the log, now or at a moment since the opening: one cut of all partitions that has all that the opening
-- found. For each line that was answered that all is synced there is a moment, at the latest now, since which the cut has every
-- change before that.
pub record KeepsLog (basis : Basis) (lines : List Line) (answers : List Answer) (opening : ℕ) (view : View) : Type 0 where
  pub found : LeavesCuts basis (placed_of lines answers) opening basis.reached view
  pub synced : (number : ℕ) → IsSyncedAt basis [] lines answers number
      → (time : ℕ) × LeavesCuts basis (placed_of lines answers) time (number + 1) view

-- each image that a crash now may leave opens to the states to which all calls led, unless a frame of the image is whole by chance
abbrev pub LeavesAllNow : Basis → List Placed → View → Type 0
LeavesAllNow basis placed view = (image : Image) → view.may_leave image → ByNoChance image view.written → LeavesAll basis placed image
