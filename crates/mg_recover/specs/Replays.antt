-- What the replay of records makes, and the place of a record that may not be made.
use Rattle.std.specs.Prelude.{◌≡◌, ◌<◌, ◌≤◌, ◌*◌, ℕ, ◌+◌, List, ◌∷◌, ◌++◌, length, map, nat_le, if◌then◌else◌}
use Rattle.std.specs.List.{sum_by, AllByRecursion}
use Rattle.mg_recover.specs.declared.partition.Partition.{Partition}
use Rattle.mg_recover.specs.Made.{entries_of, states_after}
use Rattle.mg_recover.specs.Refusals.{IsPlacedAt}
use Rattle.mg_recover.specs.Stores.{part_at}
use Rattle.mg_types.specs.declared.faults.Fault.{Fault}
use Rattle.mg_types.specs.declared.faults.Fault.TheVariants as fault
use Rattle.mg_types.specs.declared.names.FileId.{FileId}
use Rattle.mg_wal.specs.declared.known.KnownLog.{KnownLog}
use Rattle.mg_wal.specs.Openings.{log_known}
use Rattle.mg_wal_format.specs.declared.record.Rec.{Rec}
use Rattle.mg_wal_format.specs.Logs.{Gives, Log}
use Rattle.mg_wal_format.specs.Records.{record_bytes}
use Rattle.mg_wal_format.specs.Recovery.{first_of, log_file, low_of, HasHeads}

-- the partition to which the changes of records lead
abbrev pub replayed : List Rec → ℕ → Partition
replayed recs part = record { plain = states_after (entries_of recs) part; places = 0 }

-- each of so many partitions stands where the changes of these records lead it
abbrev pub AreReplayed : ℕ → List Rec → List Partition → Type 0
AreReplayed parts recs partitions = (part : ℕ) → part < parts → part_at partitions part ≡ replayed recs part

-- known logs are these, and give these records of so many partitions
pub record AreGiven (parts : ℕ) (found : List Log) (known : List KnownLog) (recs : List Rec) : Type 0 where
  pub are : map log_known found ≡ known
  pub heads : HasHeads found
  pub gives : Gives parts (low_of found) (first_of found) found recs

-- each of these logs begins behind the number
abbrev pub BeginLater : ℕ → List KnownLog → Type 0
BeginLater number logs = AllByRecursion (λ log. number < log.head.first) logs

-- of known logs this is the newest that begins at the number or before it
pub record IsNewestAt (logs : List KnownLog) (number : ℕ) (log : KnownLog) : Type 0 where
  pub older : List KnownLog
  pub newer : List KnownLog
  pub split : logs ≡ older ++ log ∷ newer
  pub begins : log.head.first ≤ number
  pub later : BeginLater number newer

-- how many bytes the frame of a record takes, if its number is this one or above
abbrev pub size_from : ℕ → Rec → ℕ
size_from first rec = if nat_le first rec.number then length (record_bytes rec) + 20 else 0

-- how many bytes a log's head takes, and those of these records that stand in the log
abbrev pub offset_in : KnownLog → List Rec → ℕ
offset_in log recs = 31 + 8 * length log.head.before + sum_by (size_from log.head.first) recs

-- the fault names a log as malformed
abbrev pub NamesLog : Fault → Type 0
NamesLog f = (number : ℕ) × (at : ℕ) × (f ≡ fault.Malformed (log_file number) at)

-- the fault names the place of the record behind these
abbrev pub IsForbidden : List Log → List Rec → Rec → Fault → Type 0
IsForbidden logs before rec f = (file : FileId) × (at : ℕ) × IsPlacedAt logs before rec file at × (f ≡ fault.Malformed file at)
