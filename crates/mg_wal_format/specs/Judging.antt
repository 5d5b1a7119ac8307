-- What is read of one log behind its head, and for what it is refused.
use Rattle.std.specs.Prelude.{◌≡◌, ℕ, ◌+◌, ◌<◌, ◌≤◌, ◌^◌, ◌⊎◌, List, ◌++◌, length, map, drop}
use Rattle.mg_frame.specs.Frame.{frame, NoFrame}
use Rattle.mg_frame.specs.Frames.{frames}
use Rattle.mg_types.specs.declared.faults.Fault.{Fault}
use Rattle.mg_types.specs.declared.names.FileId.{FileId}
use Rattle.mg_wal_format.specs.declared.record.Rec.{Rec}
use Rattle.mg_wal_format.specs.Faults.{IsRecordRefused}
use Rattle.mg_wal_format.specs.Logs.{counts_after, entry_of, BeginsWith}
use Rattle.mg_wal_format.specs.Records.{Counts, record_bytes, IsNext}

-- the whole frame of the next record stands in the bytes at this offset, and what follows it begins at `next`
pub record HasNextAt (parts : ℕ) (counts : Counts) (bytes : List ℕ) (at number : ℕ) (rec : Rec) (next : ℕ) : Type 0 where
  pub numbered : rec.number ≡ number
  pub is_next : IsNext parts counts rec
  pub spelled : drop at bytes ≡ frame number (record_bytes rec) ++ drop next bytes
  pub behind : next ≡ at + length (frame number (record_bytes rec))
  pub within : next ≤ length bytes

-- a whole frame of this number stands at this offset in bytes that begin at the offset `base` of the file, and its body is refused
pub record HasRefusedAt (file : FileId) (base parts : ℕ) (counts : Counts) (bytes : List ℕ) (at number : ℕ) (fault : Fault) : Type 0 where
  pub body : List ℕ
  pub rest : List ℕ
  pub body_fits : length body < 2 ^ 32
  pub spelled : drop at bytes ≡ frame number body ++ rest
  pub why : IsRecordRefused file (base + at) parts counts body fault

-- these records stand in the bytes from one offset to another
pub record HasRecords (parts : ℕ) (counts : Counts) (number : ℕ) (bytes : List ℕ) (at : ℕ) (recs : List Rec) (stop : ℕ) : Type 0 where
  pub begins : BeginsWith parts counts number (drop at bytes) recs (drop stop bytes)
  pub behind : stop ≡ at + length (frames (map entry_of recs))
  pub within : stop ≤ length bytes

-- the records of a log from this offset and this number on, all below the limit: they end at the limit, or where no frame of the next number begins
pub record GivesUpTo (parts : ℕ) (counts : Counts) (number limit : ℕ) (bytes : List ℕ) (at : ℕ) (recs : List Rec) (stop : ℕ) : Type 0 where
  pub records : HasRecords parts counts number bytes at recs stop
  pub below : number + length recs ≤ limit
  pub ends : (number + length recs ≡ limit) ⊎ NoFrame (number + length recs) (drop stop bytes)

-- behind good records below the limit, in bytes that begin at the offset `base` of the file, a whole frame of the next number, whose body is refused
pub record IsLogRefused (file : FileId) (base parts : ℕ) (counts : Counts) (number limit : ℕ) (bytes : List ℕ) (at : ℕ) (fault : Fault) : Type 0 where
  pub recs : List Rec
  pub stop : ℕ
  pub records : HasRecords parts counts number bytes at recs stop
  pub below : number + length recs < limit
  pub refused : HasRefusedAt file base parts (counts_after counts recs) bytes stop (number + length recs) fault
