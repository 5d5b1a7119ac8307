-- What an opening reads of a volume, before it changes anything.
use Rattle.std.specs.Prelude.{◌≡◌, ℕ, ◌+◌, ◌<◌, ◌≤◌, ◌^◌, ◌⊎◌, ◌↔◌, List, [], ◌∷◌, ◌++◌, length, get_or, map, Option, None, Some, IsSome, ⊤}
use Rattle.std.specs.List.{AllByRecursion, Contains}
use Rattle.mg_disk.specs.declared.errors.DiskError.{DiskError}
use Rattle.mg_disk.specs.declared.errors.DiskError.TheVariants as disk
use Rattle.mg_disk.specs.Images.{Image}
use Rattle.mg_frame.specs.Frame.{frame, said_length, NoFrame}
use Rattle.mg_types.specs.declared.faults.Fault.{Fault}
use Rattle.mg_types.specs.declared.faults.Fault.TheVariants.{Damaged, FewerParts, Malformed, NoMemory, ReadFault}
use Rattle.mg_wal_format.specs.Logs.{Log}
use Rattle.mg_wal_format.specs.Recovery.{found_of, log_bytes, log_file, log_name, low_of, AreLogs, Found, HasHeads, HasRoom, IsStray}
use Rattle.mg_wal.specs.declared.finding.FoundLogs.{FoundLogs}
use Rattle.mg_wal.specs.declared.finding.HeadFrame.{HeadFrame}
use Rattle.mg_wal.specs.declared.known.KnownLog.{KnownLog}
use Rattle.mg_wal.specs.Openings.{log_known, IsNewestName}

-- a fault that names a log: a number in it is 2^62 or more, its last record is lower than the next log's head says, or it is malformed otherwise
abbrev pub IsLogFault : Fault → Type 0
IsLogFault (Damaged file at kept found) = (file ≡ log_file file.number) × (((found < kept) × (kept < 2 ^ 62)) ⊎ ((2 ^ 62 ≤ kept) × (found ≡ 2 ^ 62)))
IsLogFault (Malformed file at) = file ≡ log_file file.number
IsLogFault other = ⊥

-- a fault for what stands in the logs, where so many partitions are asked for: a head counts more of them, or the fault names a log
abbrev pub IsRefusalBy : ℕ → Fault → Type 0
IsRefusalBy parts (FewerParts asked kept) = (asked ≡ parts) × (parts < kept) × (kept < 2 ^ 16)
IsRefusalBy parts other = IsLogFault other

-- what a call answers where a read gave up so
abbrev pub read_fault : DiskError → Fault
read_fault disk.NoMemory = NoMemory
read_fault disk.Failed = ReadFault

-- the first frame of a log that was found
abbrev pub head_frame : Found → HeadFrame
head_frame found = record { number = found.number; body = found.body }

-- numbers rise
abbrev pub AreRising : List ℕ → Type 0
AreRising [] = ⊤
AreRising (n ∷ []) = ⊤
AreRising (n ∷ m ∷ ns) = (n < m) × AreRising (m ∷ ns)

-- these are the numbers of the image's logs, each once
abbrev pub AreNumbers : Image → List ℕ → Type 0
AreNumbers image numbers = (number : ℕ) → Contains numbers number ↔ IsSome (image (log_name number))

-- how many bytes the frame has that these bytes begin with, by its header, where there are so many; else no frame of this number begins there
abbrev pub IsSize : ℕ → List ℕ → Option ℕ → Type 0
IsSize number bytes None = NoFrame number bytes
IsSize number bytes (Some size) = (size ≡ said_length bytes + 20) × (size ≤ length bytes)

-- the body of the whole frame of this number that these bytes begin with; else no frame of this number begins there
abbrev pub IsBody : ℕ → List ℕ → Option (List ℕ) → Type 0
IsBody number bytes None = NoFrame number bytes
IsBody number bytes (Some body) = (rest : List ℕ) × (length body < 2 ^ 32) × (bytes ≡ frame number body ++ rest)

-- the log of this number stands, and what is said of its bytes
abbrev pub HasLog : Image → ℕ → (List ℕ → Type 0) → Type 0
HasLog image number Said = (bytes : List ℕ) × (image (log_name number) ≡ Some bytes) × Said bytes

-- how many bytes the first frame of a log has by its header, where the log has so many
abbrev pub IsFirstSize : Image → ℕ → Option ℕ → Type 0
IsFirstSize image number size = HasLog image number (λ bytes. IsSize number bytes size)

-- the body of a log's first frame, where that is whole and has the log's number
abbrev pub IsFirstBody : Image → ℕ → Option (List ℕ) → Type 0
IsFirstBody image number body = HasLog image number (λ bytes. IsBody number bytes body)

-- these are the logs of the image, those that count and the strays, and the greatest of their numbers
pub record HasFound (image : Image) (logs : FoundLogs) : Type 0 where
  pub found : List Found
  pub are : AreLogs image found
  pub whole : map head_frame found ≡ logs.whole.items
  pub strays : AllByRecursion (λ number. IsStray image (log_name number)) logs.strays.items
  pub all_strays : (number : ℕ) → IsStray image (log_name number) → Contains logs.strays.items number
  pub rise : AreRising logs.strays.items
  pub newest : IsNewestName image logs.newest

-- known logs are these, whatever stands behind their heads
abbrev pub AreKnown : List KnownLog → List Log → Type 0
AreKnown known logs = map log_known logs ≡ known

-- the logs stand in the image, each under its number
abbrev pub StandIn : Image → List Log → Type 0
StandIn image logs = AllByRecursion (λ log. image (log_name log.number) ≡ Some (log_bytes (found_of log))) logs

-- known logs have heads that logs may have, whose partitions these counts have room for, and the counts are those before the oldest
pub record AreReady (known : List KnownLog) (low : List ℕ) : Type 0 where
  pub logs : List Log
  pub are : AreKnown known logs
  pub heads : HasHeads logs
  pub room : HasRoom (length low) logs
  pub low_is : (part : ℕ) → get_or low part 0 ≡ low_of logs part
