-- An image has one list of logs. It opens in one way, whichever number of partitions is asked for, and is not refused for that number.
-- An image that is refused is refused for one fault.
use Rattle.std.specs.Prelude.{◌≡◌, ℕ, ◌+◌, ◌≤◌, ◌^◌, List, ◌∷◌, ◌++◌, length}
use Rattle.mg_disk.specs.Images.{Image}
use Rattle.mg_types.specs.declared.faults.Fault.{Fault}
use Rattle.mg_wal_format.specs.declared.record.Rec.{Rec}
use Rattle.mg_wal_format.specs.Logs.{counts_after, Continues, Gives, InOrder, Log}
use Rattle.mg_wal_format.specs.Records.{Counts}
use Rattle.mg_wal_format.specs.Recovery.{end_of, first_of, low_of, AreLogs, Found, IsLess, IsRefused, Opens}

-- two lists of the logs of an image are one
abbrev pub OneLogsLaw : Type 0
OneLogsLaw = (image : Image) (logs others : List Found) → AreLogs image logs → AreLogs image others → logs ≡ others

-- two lists of records that the same logs give are one
abbrev pub OneListLaw : Type 0
OneListLaw = (parts : ℕ) (counts : Counts) (number : ℕ) (logs : List Log) (recs others : List Rec) → Gives parts counts number logs recs → Gives parts counts number logs others → recs ≡ others

-- an image that opens for some partitions opens for more, with the same logs and records
abbrev pub MorePartsLaw : Type 0
MorePartsLaw = (parts more : ℕ) (image : Image) (logs : List Log) (recs : List Rec) → parts ≤ more → Opens parts image logs recs → Opens more image logs recs

-- an image opens with one list of logs and one of records, whichever numbers of partitions are asked for
abbrev pub OneOpeningLaw : Type 0
OneOpeningLaw = (parts others : ℕ) (image : Image) (logs logs' : List Log) (recs recs' : List Rec) → Opens parts image logs recs → Opens others image logs' recs' → (logs ≡ logs') × (recs ≡ recs')

-- an image that opens is not refused
abbrev pub NeverRefusedLaw : Type 0
NeverRefusedLaw = (parts : ℕ) (image : Image) (logs : List Log) (recs : List Rec) (fault : Fault) → Opens parts image logs recs → IsRefused parts image fault → ⊥

-- an image is refused for one fault
abbrev pub OneFaultLaw : Type 0
OneFaultLaw = (parts : ℕ) (image : Image) (fault other : Fault) → IsRefused parts image fault → IsRefused parts image other → fault ≡ other

-- an image of which strays are gone opens with the same logs and records
abbrev pub StraysOpenLaw : Type 0
StraysOpenLaw = (parts : ℕ) (old new : Image) (logs : List Log) (recs : List Rec) → IsLess old new → Opens parts old logs recs → Opens parts new logs recs

-- and is refused for the same faults
abbrev pub StraysRefusedLaw : Type 0
StraysRefusedLaw = (parts : ℕ) (old new : Image) (fault : Fault) → IsLess old new → IsRefused parts old fault → IsRefused parts new fault

-- all records that logs give are in order
abbrev pub AllInOrderLaw : Type 0
AllInOrderLaw = (parts : ℕ) (counts : Counts) (number : ℕ) (logs : List Log) (recs : List Rec) → Gives parts counts number logs recs → InOrder parts counts number recs

-- the number after the last record of an image that opens is one that a file may keep, or the first that it may not
abbrev pub EndIsKeptLaw : Type 0
EndIsKeptLaw = (parts : ℕ) (image : Image) (logs : List Log) (recs : List Rec) → Opens parts image logs recs → end_of logs recs ≤ 2 ^ 62

-- the log begins behind a front of these records, with the next number, and its head gives the counts there
pub record BeginsBehind (counts : Counts) (number : ℕ) (recs : List Rec) (log : Log) : Type 0 where
  pub before : List Rec
  pub behind : List Rec
  pub split : recs ≡ before ++ behind
  pub first : number + length before ≡ log.head.first
  pub gives : Continues (counts_after counts before) log.head

-- each of the logs that give records begins behind a front of all of them, and its head gives the counts there
abbrev pub HeadCountsLaw : Type 0
HeadCountsLaw = (parts : ℕ) (logs : List Log) (recs : List Rec) → Gives parts (low_of logs) (first_of logs) logs recs → (older : List Log) (log : Log) (newer : List Log) → logs ≡ older ++ log ∷ newer
    → BeginsBehind (low_of logs) (first_of logs) recs log
