-- What an image of the shared log's volume gives: the records of its logs, or the fault for which they are refused.
use Rattle.std.specs.Prelude.{◌≡◌, ℕ, ◌+◌, ◌-◌, ◌<◌, ◌≤◌, ◌^◌, ◌⊎◌, List, [], ◌∷◌, ◌++◌, length, map, Option, None, Some, IfSome, ⊤}
use Rattle.std.specs.List.{AllByRecursion, Contains}
use Rattle.mg_disk.specs.Images.{Image}
use Rattle.mg_frame.specs.Frame.{frame, NoFrame}
use Rattle.mg_frame.specs.Frames.{frames, NoChance}
use Rattle.mg_types.specs.declared.faults.Fault.{Fault}
use Rattle.mg_types.specs.declared.faults.Fault.TheVariants.{Damaged, Malformed}
use Rattle.mg_types.specs.declared.names.FileId.{FileId}
use Rattle.mg_types.specs.declared.names.Kind.TheVariants.{Wal}
use Rattle.mg_types.specs.declared.names.Name.{Name}
use Rattle.mg_wal_format.specs.declared.head.Head.{Head}
use Rattle.mg_wal_format.specs.declared.record.Rec.{Rec}
use Rattle.mg_wal_format.specs.Faults.{too_great, IsHeadRefused, IsNewestHeadFine, IsNewestHeadRefused, IsRecordRefused}
use Rattle.mg_wal_format.specs.Heads.{head_bytes, parts_of, IsSoundHead}
use Rattle.mg_wal_format.specs.Logs.{Log, counts_after, counts_of, entry_of, BeginsWith, Continues, Gives, HeadsRise}
use Rattle.mg_wal_format.specs.Records.{Counts}

-- the name of the log with this number
abbrev pub log_name : ℕ → Name
log_name number = record { kind = Wal; number = number }

-- the log with this number, as a fault names it
abbrev pub log_file : ℕ → FileId
log_file number = record { part = 65535; kind = Wal; number = number }

-- a log whose first frame is whole: its number, that frame's body, and the bytes behind the frame
pub record Found : Type 0 where
  pub number : ℕ
  pub body : List ℕ
  pub rest : List ℕ

-- the bytes of such a log
abbrev pub log_bytes : Found → List ℕ
log_bytes found = frame found.number found.body ++ found.rest

-- a log with its head, as it is found
abbrev pub found_of : Log → Found
found_of log = record { number = log.number; body = head_bytes log.head; rest = log.rest }

-- numbers rise
abbrev pub NumbersRise : List Found → Type 0
NumbersRise [] = ⊤
NumbersRise (found ∷ []) = ⊤
NumbersRise (found ∷ next ∷ logs) = (found.number < next.number) × NumbersRise (next ∷ logs)

-- the logs of an image whose first frame is whole, in rising order of their numbers; the others are passed over
pub record AreLogs (image : Image) (logs : List Found) : Type 0 where
  pub rise : NumbersRise logs
  pub stand : AllByRecursion (λ found. (length found.body < 2 ^ 32) × (image (log_name found.number) ≡ Some (log_bytes found))) logs
  pub others : (number : ℕ) (bytes : List ℕ) → image (log_name number) ≡ Some bytes → ((found : Found) × Contains logs found × (found.number ≡ number)) ⊎ NoFrame number bytes

-- a log whose number a file may keep, with a head that it may have
abbrev pub IsSoundLog : Log → Type 0
IsSoundLog log = (log.number < 2 ^ 62) × IsSoundHead log.head

-- such logs, each of which begins no earlier and counts no fewer partitions than the one before
abbrev pub HasHeads : List Log → Type 0
HasHeads logs = AllByRecursion IsSoundLog logs × HeadsRise logs

-- the newest head counts at most so many partitions
abbrev pub HasRoom : ℕ → List Log → Type 0
HasRoom parts logs = (older : List Log) (newest : Log) → logs ≡ older ++ newest ∷ [] → parts_of newest.head ≤ parts

-- the number of the first record of the oldest log; 1 without a log
abbrev pub first_of : List Log → ℕ
first_of [] = 1
first_of (log ∷ logs) = log.head.first

-- how many changes each partition had before the oldest log; none without a log
abbrev pub low_of : List Log → Counts
low_of [] part = 0
low_of (log ∷ logs) part = counts_of log.head part

-- the image opens, for so many partitions, with these logs and records
pub record Opens (parts : ℕ) (image : Image) (logs : List Log) (recs : List Rec) : Type 0 where
  pub found : AreLogs image (map found_of logs)
  pub heads : HasHeads logs
  pub room : HasRoom parts logs
  pub gives : Gives parts (low_of logs) (first_of logs) logs recs

-- the newest body spells no head, or the newest head counts more partitions than are asked for
abbrev pub IsNewestRefused : ℕ → List Found → Fault → Type 0
IsNewestRefused parts logs fault = (older : List Found) × (newest : Found) × (logs ≡ older ++ newest ∷ []) × IsNewestHeadRefused (log_file newest.number) parts newest.body fault

-- the newest head counts at most so many partitions
abbrev pub IsNewestFine : ℕ → List Found → Type 0
IsNewestFine parts logs = (older : List Found) × (newest : Found) × (logs ≡ older ++ newest ∷ []) × IsNewestHeadFine parts newest.body

-- a head begins earlier than the last of these logs, or counts fewer partitions
abbrev pub Falls : List Log → Head → Type 0
Falls before head = (older : List Log) × (last : Log) × (before ≡ older ++ last ∷ []) × ((head.first < last.head.first) ⊎ (parts_of head < parts_of last.head))

-- the head is refused, or falls
abbrev pub IsHeadFault : List Log → Found → Fault → Type 0
IsHeadFault before bad fault = IsHeadRefused (log_file bad.number) bad.body fault
    ⊎ ((head : Head) × (bad.number < 2 ^ 62) × IsSoundHead head × (bad.body ≡ head_bytes head) × Falls before head × (fault ≡ Malformed (log_file bad.number) 0))

-- the oldest head that is refused or falls
pub record IsHeadsFault (logs : List Found) (fault : Fault) : Type 0 where
  pub before : List Log
  pub bad : Found
  pub behind : List Found
  pub split : logs ≡ map found_of before ++ bad ∷ behind
  pub fine : HasHeads before
  pub why : IsHeadFault before bad fault

-- the first number of the next log; none of the last log
abbrev pub limit_of : List Log → Option ℕ
limit_of [] = None
limit_of (log ∷ logs) = Some log.head.first

-- the offset behind a log's head and these records
abbrev pub offset_behind : Log → List Rec → ℕ
offset_behind log recs = length (frame log.number (head_bytes log.head)) + length (frames (map entry_of recs))

-- behind good records a whole frame of the next number, whose body is none of the next record
pub record IsRecordFault (parts : ℕ) (log : Log) (counts : Counts) (number : ℕ) (limit : Option ℕ) (fault : Fault) : Type 0 where
  pub recs : List Rec
  pub body : List ℕ
  pub rest : List ℕ
  pub begins : BeginsWith parts counts number log.rest recs (frame (number + length recs) body ++ rest)
  pub below : IfSome limit (λ first. number + length recs < first)
  pub body_fits : length body < 2 ^ 32
  pub why : ((2 ^ 62 ≤ number + length recs) × (fault ≡ too_great (log_file log.number) (offset_behind log recs) (number + length recs)))
      ⊎ ((number + length recs < 2 ^ 62) × IsRecordRefused (log_file log.number) (offset_behind log recs) parts (counts_after counts recs) body fault)

-- a log that ends before the first number of the next
pub record EndsEarly (parts : ℕ) (log : Log) (counts : Counts) (number first : ℕ) (fault : Fault) : Type 0 where
  pub recs : List Rec
  pub rest : List ℕ
  pub begins : BeginsWith parts counts number log.rest recs rest
  pub ends : NoFrame (number + length recs) rest
  pub early : number + length recs < first
  pub named : fault ≡ Damaged (log_file log.number) (length (log_bytes (found_of log))) (first - 1) (number + length recs - 1)

-- a log reaches the first number of the next, which gives other counts
pub record CountsOther (parts : ℕ) (log next : Log) (counts : Counts) (number : ℕ) (fault : Fault) : Type 0 where
  pub recs : List Rec
  pub rest : List ℕ
  pub begins : BeginsWith parts counts number log.rest recs rest
  pub reaches : number + length recs ≡ next.head.first
  pub other : Continues (counts_after counts recs) next.head → ⊥
  pub named : fault ≡ Malformed (log_file next.number) 0

-- the logs are refused for what stands behind their heads: the first fault in the order in which they are read
abbrev pub IsStreamFault : ℕ → Counts → ℕ → List Log → Fault → Type 0
IsStreamFault parts counts number [] fault = ⊥
IsStreamFault parts counts number (log ∷ []) fault = IsRecordFault parts log counts number None fault
IsStreamFault parts counts number (log ∷ next ∷ logs) fault =
    IsRecordFault parts log counts number (Some next.head.first) fault
    ⊎ EndsEarly parts log counts number next.head.first fault
    ⊎ CountsOther parts log next counts number fault
    ⊎ ((recs : List Rec) × (rest : List ℕ) × BeginsWith parts counts number log.rest recs rest × (number + length recs ≡ next.head.first)
    × Continues (counts_after counts recs) next.head × IsStreamFault parts (counts_after counts recs) (number + length recs) (next ∷ logs) fault)

-- The logs are refused for this fault. It is judged first whether the newest body spells a head and whether so many partitions have room for it, then the heads
-- from the oldest on, and then what stands behind them.
abbrev pub AreRefused : ℕ → List Found → Fault → Type 0
AreRefused parts found fault =
    IsNewestRefused parts found fault
    ⊎ (IsNewestFine parts found × IsHeadsFault found fault)
    ⊎ ((logs : List Log) × (found ≡ map found_of logs) × HasHeads logs × HasRoom parts logs × IsStreamFault parts (low_of logs) (first_of logs) logs fault)

-- the image is refused for this fault, as its logs are
abbrev pub IsRefused : ℕ → Image → Fault → Type 0
IsRefused parts image fault = (found : List Found) × AreLogs image found × AreRefused parts found fault

-- each log of the image has no frame that is whole by chance, against what was written to it
abbrev pub ByNoChance : Image → (Name → List ℕ) → Type 0
ByNoChance image written = (number : ℕ) (bytes : List ℕ) → image (log_name number) ≡ Some bytes → NoChance bytes (written (log_name number))

-- the number after the last record that an image gives; 0 without a log
abbrev pub end_of : List Log → List Rec → ℕ
end_of [] recs = 0
end_of (log ∷ logs) recs = log.head.first + length recs

-- the number of the newest log; 0 without one
abbrev pub last_number : List Log → ℕ
last_number [] = 0
last_number (log ∷ []) = log.number
last_number (log ∷ next ∷ logs) = last_number (next ∷ logs)

-- the image has a log of this name that does not begin with the whole frame of its number
abbrev pub IsStray : Image → Name → Type 0
IsStray image name = (number : ℕ) × (bytes : List ℕ) × (name ≡ log_name number) × (image name ≡ Some bytes) × NoFrame number bytes

-- the same image, of which strays may be gone
abbrev pub IsLess : Image → Image → Type 0
IsLess old new = (name : Name) → (new name ≡ old name) ⊎ (IsStray old name × (new name ≡ None))

-- the same image without any stray
abbrev pub Clears : Image → Image → Type 0
Clears old new = (name : Name) → ((IsStray old name → ⊥) × (new name ≡ old name)) ⊎ (IsStray old name × (new name ≡ None))
