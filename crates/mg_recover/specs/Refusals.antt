-- Why a store does not open.
use Rattle.std.specs.Prelude.{◌≡◌, ◌<◌, ◌≤◌, ◌⊎◌, ◌^◌, ◌-◌, min, ℕ, ◌+◌, List, ◌∷◌, ◌++◌, length, false, IfSome, ⊤}
use Rattle.mg_disk.specs.Images.{Image}
use Rattle.mg_model.specs.History.{allows, call_for}
use Rattle.mg_model.specs.State.{HasRoom, State}
use Rattle.mg_recover.specs.Answers.{IsAtLimit}
use Rattle.mg_recover.specs.Made.{entries_of, states_after, AreMade}
use Rattle.mg_types.specs.declared.faults.Fault.{Fault}
use Rattle.mg_types.specs.declared.faults.Fault.TheVariants as fault
use Rattle.mg_types.specs.declared.names.FileId.{FileId}
use Rattle.mg_wal.specs.Findings.{IsRefusalBy}
use Rattle.mg_wal_format.specs.declared.record.Rec.{Rec}
use Rattle.mg_wal_format.specs.Logs.{counts_after, Log}
use Rattle.mg_wal_format.specs.Recovery.{limit_of, log_file, low_of, offset_behind, IsRefused, Opens}

-- The record behind these others stands in the newest log that begins at its number or before it. This is that log's file, and
-- the offset of the record's frame in it, up to 2^64 - 1.
pub record IsPlacedAt (logs : List Log) (before : List Rec) (rec : Rec) (file : FileId) (at : ℕ) : Type 0 where
  pub older : List Log
  pub log : Log
  pub newer : List Log
  pub earlier : List Rec
  pub mine : List Rec
  pub logs_are : logs ≡ older ++ log ∷ newer
  pub before_are : before ≡ earlier ++ mine
  pub begins : log.head.first + length mine ≡ rec.number
  pub newest : IfSome (limit_of newer) (λ first. rec.number < first)
  pub file_is : file ≡ log_file log.number
  pub at_is : at ≡ min (offset_behind log mine) (2 ^ 64 - 1)

-- the change of a record may not be made: it passes a limit of numbers, or else its partition's state does not allow it
abbrev pub IsUnfitFor : State → List Log → List Rec → Rec → Fault → Type 0
IsUnfitFor s logs before rec f =
    IsAtLimit s (call_for rec.what) f
    ⊎ (HasRoom s (call_for rec.what) × (allows s rec.what ≡ false) × (file : FileId) × (at : ℕ) × IsPlacedAt logs before rec file at × (f ≡ fault.Malformed file at))

-- the first record whose change may not be made where those before it led
pub record IsUnfit (logs : List Log) (recs : List Rec) (f : Fault) : Type 0 where
  pub before : List Rec
  pub rec : Rec
  pub behind : List Rec
  pub split : recs ≡ before ++ rec ∷ behind
  pub made : AreMade (entries_of before)
  pub why : IsUnfitFor (states_after (entries_of before) rec.part) logs before rec f

-- the logs begin behind changes of a partition, the first such
pub record IsGap (parts : ℕ) (logs : List Log) (recs : List Rec) (f : Fault) : Type 0 where
  pub part : ℕ
  pub within : part < parts
  pub first : (other : ℕ) → other < part → low_of logs other ≡ 0
  pub some : 0 < low_of logs part
  pub named : f ≡ fault.Gap part 0 (low_of logs part) (counts_after (low_of logs) recs part)

-- an image whose logs open is refused: a gap is judged first, then the records in their order
abbrev pub IsUnfitLog : ℕ → List Log → List Rec → Fault → Type 0
IsUnfitLog parts logs recs f = IsGap parts logs recs f ⊎ (((part : ℕ) → low_of logs part ≡ 0) × IsUnfit logs recs f)

-- the image is refused for this fault: its logs are, or they open to records that no store is made of
abbrev pub IsStoreRefused : ℕ → Image → Fault → Type 0
IsStoreRefused parts image f = IsRefused parts image f ⊎ ((logs : List Log) × (recs : List Rec) × Opens parts image logs recs × IsUnfitLog parts logs recs f)

-- a fault for what stands in the logs, where so many partitions are asked for
abbrev pub IsStoreRefusal : ℕ → Fault → Type 0
IsStoreRefusal parts (fault.Gap part applied low high) = (part < parts) × (applied ≡ 0) × (0 < low) × (low ≤ high)
IsStoreRefusal parts (fault.Worn kept) = ⊤
IsStoreRefusal parts other = IsRefusalBy parts other
