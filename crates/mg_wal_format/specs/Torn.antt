-- What a crash may leave of a log whose head and records were to be written.
use Rattle.std.specs.Prelude.{◌≡◌, ℕ, suc, ◌+◌, ◌<◌, ◌≤◌, ◌^◌, ◌⊎◌, List, ◌++◌, length, map, take}
use Rattle.mg_frame.specs.BigEndian.{AreBytes}
use Rattle.mg_frame.specs.Frame.{NoFrame}
use Rattle.mg_frame.specs.Frames.{frames, NoChance}
use Rattle.mg_wal_format.specs.declared.head.Head.{Head}
use Rattle.mg_wal_format.specs.declared.record.Rec.{Rec}
use Rattle.mg_wal_format.specs.Heads.{IsHead}
use Rattle.mg_wal_format.specs.Logs.{entry_of, log_entries, InOrder, Log}
use Rattle.mg_wal_format.specs.Records.{Counts}
use Rattle.mg_wal_format.specs.Recovery.{log_bytes, found_of}

-- a log as it was to be written: its number, its head and its records
pub record Plan : Type 0 where
  pub number : ℕ
  pub head : Head
  pub recs : List Rec

-- the frames of such a log
abbrev pub plan_entries : Plan → List (ℕ × List ℕ)
plan_entries plan = log_entries plan.number plan.head plan.recs

-- the log has the head that was to be written, the first `count` of the records, and then these bytes
pub record HasFront (plan : Plan) (log : Log) (count : ℕ) (rest : List ℕ) : Type 0 where
  pub number : log.number ≡ plan.number
  pub head : log.head ≡ plan.head
  pub among : count ≤ length plan.recs
  pub spelled : log.rest ≡ frames (map entry_of (take count plan.recs)) ++ rest

-- the same, and no frame of the next number follows
pub record EndsAt (plan : Plan) (log : Log) (count : ℕ) : Type 0 where
  pub rest : List ℕ
  pub front : HasFront plan log count rest
  pub ends : NoFrame (plan.head.first + count) rest

-- What a crash left of a log, no frame of it whole by chance, has the head and a front of the records, and at least those of which the frames were sure to be
-- left; where not even the head was, it may have no whole head.
abbrev pub TornWalLaw : Type 0
TornWalLaw = (parts : ℕ) (counts : Counts) (plan : Plan) (image tail : List ℕ) (least : ℕ)
    → plan.number < 2 ^ 62 → plan.head.first < 2 ^ 62 → IsHead plan.head → InOrder parts counts plan.head.first plan.recs → AreBytes image → least ≤ suc (length plan.recs)
    → image ≡ frames (take least (plan_entries plan)) ++ tail → length image ≤ length (frames (plan_entries plan)) → NoChance image (frames (plan_entries plan))
    → ((least ≡ 0) × NoFrame plan.number image) ⊎ ((log : Log) × (count : ℕ) × (image ≡ log_bytes (found_of log)) × (least ≤ suc count) × EndsAt plan log count)
