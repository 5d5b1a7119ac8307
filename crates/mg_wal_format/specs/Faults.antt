-- What is wrong with the body of a head or a record, and which fault names it.
use Rattle.std.specs.Prelude.{◌≡◌, ◌≢◌, ℕ, ◌+◌, ◌<◌, ◌≤◌, ◌^◌, ◌⊎◌, List, [], ◌∷◌, ◌==◌, nat_lt, Option, None, Some, if◌then◌else◌}
use Rattle.mg_types.specs.declared.faults.Fault.{Fault}
use Rattle.mg_types.specs.declared.faults.Fault.TheVariants.{Damaged, FewerParts, Malformed}
use Rattle.mg_types.specs.declared.names.FileId.{FileId}
use Rattle.mg_wal_format.specs.declared.head.Head.{Head}
use Rattle.mg_wal_format.specs.declared.record.Rec.{Rec}
use Rattle.mg_wal_format.specs.Heads.{head_bytes, parts_of, IsHead}
use Rattle.mg_wal_format.specs.Records.{Counts, mark_of, record_bytes, IsRecord}

-- a number of 2^62 or more in the frame at this offset
abbrev pub too_great : FileId → ℕ → ℕ → Fault
too_great file at number = Damaged file at number (2 ^ 62)

-- the fault that names the first of these numbers that is too great
abbrev pub numbers_fault : FileId → ℕ → List ℕ → Option Fault
numbers_fault file at [] = None
numbers_fault file at (n ∷ ns) = if nat_lt n (2 ^ 62) then numbers_fault file at ns else Some (too_great file at n)

-- the fault that names a mark that is too great
abbrev pub mark_fault : FileId → ℕ → Option ℕ → Option Fault
mark_fault file at None = None
mark_fault file at (Some mark) = if nat_lt mark (2 ^ 62) then None else Some (too_great file at mark)

-- What is wrong with a record in the frame at this offset, behind so many changes of so many partitions, from left to right: its partition is
-- none of them, its number among the changes of the partition is too great or not the next, or its mark is too great.
abbrev pub record_fault : FileId → ℕ → ℕ → Counts → Rec → Option Fault
record_fault file at parts counts rec =
    if nat_lt rec.part parts
    then (if nat_lt rec.change (2 ^ 62)
    then (if rec.change == counts rec.part + 1 then mark_fault file at (mark_of rec.what) else Some (Malformed file at))
    else Some (too_great file at rec.change))
    else Some (Malformed file at)

-- a body that spells no record is malformed, and else the record has this fault
abbrev pub IsRecordRefused : FileId → ℕ → ℕ → Counts → List ℕ → Fault → Type 0
IsRecordRefused file at parts counts body fault =
    (((rec : Rec) → IsRecord rec → body ≢ record_bytes rec) × (fault ≡ Malformed file at))
    ⊎ ((rec : Rec) × IsRecord rec × (body ≡ record_bytes rec) × (record_fault file at parts counts rec ≡ Some fault))

-- the body spells no head
abbrev pub SpellsNoHead : List ℕ → Type 0
SpellsNoHead body = (head : Head) → IsHead head → body ≢ head_bytes head

-- What is wrong with the head of this log, from left to right: the log's number, which its frame has, is too great, the number of its first record is too great
-- or 0, or a number of changes is too great.
abbrev pub head_fault : FileId → Head → Option Fault
head_fault file head =
    if nat_lt file.number (2 ^ 62)
    then (if nat_lt head.first (2 ^ 62)
    then (if head.first == 0 then Some (Malformed file 0) else numbers_fault file 0 head.before)
    else Some (too_great file 0 head.first))
    else Some (too_great file 0 file.number)

-- a body that spells no head is malformed, and else the head has this fault
abbrev pub IsHeadRefused : FileId → List ℕ → Fault → Type 0
IsHeadRefused file body fault = (SpellsNoHead body × (fault ≡ Malformed file 0)) ⊎ ((head : Head) × IsHead head × (body ≡ head_bytes head) × (head_fault file head ≡ Some fault))

-- the newest head's body spells no head and is malformed, or it counts more partitions than are asked for, whatever else is wrong with it
abbrev pub IsNewestHeadRefused : FileId → ℕ → List ℕ → Fault → Type 0
IsNewestHeadRefused file parts body fault =
    (SpellsNoHead body × (fault ≡ Malformed file 0)) ⊎ ((head : Head) × IsHead head × (body ≡ head_bytes head) × (parts < parts_of head) × (fault ≡ FewerParts parts (parts_of head)))

-- the body spells a head that counts at most so many partitions
abbrev pub IsNewestHeadFine : ℕ → List ℕ → Type 0
IsNewestHeadFine parts body = (head : Head) × IsHead head × (body ≡ head_bytes head) × (parts_of head ≤ parts)
