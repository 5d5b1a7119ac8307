-- What is read of a log before those that follow it.
use Rattle.std.specs.Prelude.{◌≡◌, ℕ, ◌+◌, ◌*◌, ◌<◌, ◌^◌, ◌⊎◌, min, List, [], ◌∷◌, ◌++◌, length, take, drop, get_or, ◌-◌, Some, ⊤}
use Rattle.mg_disk.specs.Images.{Image}
use Rattle.mg_frame.specs.Frame.{frame, NoFrame}
use Rattle.mg_types.specs.declared.faults.Fault.{Fault}
use Rattle.mg_types.specs.declared.faults.Fault.TheVariants.{Damaged, Malformed}
use Rattle.mg_types.specs.declared.names.FileId.{FileId}
use Rattle.mg_wal_format.specs.declared.record.Rec.{Rec}
use Rattle.mg_wal_format.specs.Faults.{too_great}
use Rattle.mg_wal_format.specs.Heads.{parts_of}
use Rattle.mg_wal_format.specs.Logs.{counts_after, Gives, Log}
use Rattle.mg_wal_format.specs.Records.{Counts}
use Rattle.mg_wal_format.specs.Recovery.{found_of, log_bytes, log_file, log_name, HasHeads, IsStreamFault}
use Rattle.mg_wal.specs.declared.known.KnownLog.{KnownLog}
use Rattle.mg_wal.specs.Findings.{AreKnown}
use Rattle.mg_wal.specs.Openings.{log_known}

-- known logs have heads that logs may have
abbrev pub AreSound : List KnownLog → Type 0
AreSound known = (logs : List Log) × AreKnown known logs × HasHeads logs

-- the first of these logs begins at this number, if there is one
abbrev pub BeginAt : ℕ → List KnownLog → Type 0
BeginAt number [] = ⊤
BeginAt number (log ∷ logs) = number ≡ log.head.first

-- with these records before, the logs give what those behind the first give, and are refused for what those are refused for
pub record GoesOn (parts : ℕ) (counts : Counts) (number : ℕ) (logs : List Log) (recs : List Rec) (behind : List Log) : Type 0 where
  pub gives : (more : List Rec) → Gives parts (counts_after counts recs) (number + length recs) behind more → Gives parts counts number logs (recs ++ more)
  pub refused : (fault : Fault) → IsStreamFault parts (counts_after counts recs) (number + length recs) behind fault → IsStreamFault parts counts number logs fault

-- the log stands in the image, as it is known
abbrev pub StandsAs : Image → KnownLog → Log → Type 0
StandsAs image known log = (log_known log ≡ known) × (image (log_name known.number) ≡ Some (log_bytes (found_of log)))

-- the offset behind the frame of a log's head, or the length of bytes that are too few for it
abbrev pub head_end : KnownLog → ℕ → ℕ
head_end known len = min len (31 + 8 * parts_of known.head)

-- a front of the bytes from this offset on, which tells whether a frame of this number begins there
pub record IsWindow (bytes : List ℕ) (at number : ℕ) (window : List ℕ) : Type 0 where
  pub count : ℕ
  pub front : window ≡ take count (drop at bytes)
  pub decides : NoFrame number window → NoFrame number (drop at bytes)

-- Behind these records of a log of so many bytes the next log does not follow: the log has not all records up to its first, or its head gives other counts.
abbrev pub IsJoinFault : KnownLog → KnownLog → ℕ → List Rec → List ℕ → Fault → Type 0
IsJoinFault log next len recs counts fault =
    ((log.head.first + length recs < next.head.first) × (fault ≡ Damaged (log_file log.number) len (next.head.first - 1) (log.head.first + length recs - 1)))
    ⊎ ((log.head.first + length recs ≡ next.head.first) × (((part : ℕ) → get_or next.head.before part 0 ≡ get_or counts part 0) → ⊥) × (fault ≡ Malformed (log_file next.number) 0))

-- the bytes at this offset of a file begin with a whole frame of the number 2^62
pub record HasWorn (file : FileId) (at : ℕ) (bytes : List ℕ) (fault : Fault) : Type 0 where
  pub body : List ℕ
  pub rest : List ℕ
  pub body_fits : length body < 2 ^ 32
  pub spelled : bytes ≡ frame (2 ^ 62) body ++ rest
  pub named : fault ≡ too_great file at (2 ^ 62)
