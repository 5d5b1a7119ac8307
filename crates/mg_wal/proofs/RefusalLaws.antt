-- What the format refuses is a fault that names the log.
use Rattle.std.proofs.Common.{◌≡◌, ℕ, ◌<◌, ◌≤◌, ◌^◌, ◌+◌, ◌⊎◌, inl, inr, Bool, true, false, List, [], ◌∷◌, Option, None, Some, ◌==◌, nat_lt, if◌then◌else◌, refl, sym, subst, arith}
use Rattle.std.proofs.lemmas.Bool.{ltb-false}
use Rattle.mg_types.specs.declared.faults.Fault.{Fault}
use Rattle.mg_types.specs.declared.faults.Fault.TheVariants.{BadLine, BadSettings, BadWords, Damaged, FewerParts, Gap, Malformed, Missing, NoMemory, ReadFault, TooLong, Worn, WriteFault}
use Rattle.mg_types.specs.declared.names.FileId.{FileId}
use Rattle.mg_wal_format.specs.declared.head.Head.{Head}
use Rattle.mg_wal_format.specs.declared.record.Rec.{Rec}
use Rattle.mg_wal_format.specs.Faults.{head_fault, mark_fault, numbers_fault, record_fault, too_great, IsHeadRefused, IsNewestHeadRefused, IsRecordRefused}
use Rattle.mg_wal_format.specs.Judging.{IsLogRefused}
use Rattle.mg_wal_format.specs.Logs.{counts_after}
use Rattle.mg_wal_format.specs.Records.{mark_of, Counts}
use Rattle.mg_wal_format.specs.Recovery.{log_file}
use Rattle.mg_wal.specs.declared.known.KnownLog.{KnownLog}
use Rattle.mg_wal.specs.Findings.{IsLogFault, IsRefusalBy}
use Rattle.mg_wal.specs.Streams.{HasWorn, IsJoinFault}

-- the file is a log
abbrev IsLog : FileId → Type 0
IsLog file = file ≡ log_file file.number

pub named_log : (file : FileId) (number : ℕ) → file ≡ log_file number → file ≡ log_file file.number
named_log file number is = subst (λ (f : FileId). f ≡ log_file f.number) (sym is) refl

-- ---- choices between faults

refused_some : (fault other : Fault) → IsLogFault fault → Some fault ≡ Some other → IsLogFault other
refused_some fault other refusal is = subst IsLogFault (let same : fault ≡ other = cc in same) refusal

refused_if : (test : Bool) (one other : Option Fault) (fault : Fault) → ((f : Fault) → one ≡ Some f → IsLogFault f) → ((f : Fault) → other ≡ Some f → IsLogFault f)
    → (if test then one else other) ≡ Some fault → IsLogFault fault
refused_if true one other fault ones others is = ones fault is
refused_if false one other fault ones others is = others fault is

-- a number that is too great, or else another fault
refused_unless : (number : ℕ) (other : Option Fault) (file : FileId) (at : ℕ) (fault : Fault) → IsLog file → ((f : Fault) → other ≡ Some f → IsLogFault f)
    → (if nat_lt number (2 ^ 62) then other else Some (too_great file at number)) ≡ Some fault → IsLogFault fault
refused_unless number other file at fault named others is = by_test (nat_lt number (2 ^ 62)) refl is
  where
    by_test : (fits : Bool) → nat_lt number (2 ^ 62) ≡ fits → (if fits then other else Some (too_great file at number)) ≡ Some fault → IsLogFault fault
    by_test true tells is = others fault is
    by_test false tells is = refused_some (too_great file at number) fault (named, inr (ltb-false _ _ tells, refl)) is

-- ---- heads

numbers_refused : (file : FileId) (at : ℕ) (ns : List ℕ) (fault : Fault) → IsLog file → numbers_fault file at ns ≡ Some fault → IsLogFault fault
numbers_refused file at [] fault named is = absurd cc
numbers_refused file at (n ∷ ns) fault named is = refused_unless n (numbers_fault file at ns) file at fault named (λ f. numbers_refused file at ns f named) is

head_refused : (file : FileId) (head : Head) (fault : Fault) → IsLog file → head_fault file head ≡ Some fault → IsLogFault fault
head_refused file head fault named is =
    refused_unless file.number _ file 0 fault named
    (λ f. refused_unless head.first _ file 0 f named (λ g. refused_if (head.first == 0) _ _ g (λ h. refused_some (Malformed file 0) h named) (λ h. numbers_refused file 0 head.before h named))) is

pub refusal_of_head : (file : FileId) (body : List ℕ) (fault : Fault) → file ≡ log_file file.number → IsHeadRefused file body fault → IsLogFault fault
refusal_of_head file body fault named (inl (none, is)) = subst IsLogFault (sym is) named
refusal_of_head file body fault named (inr (head, fits, spelled, is)) = head_refused file head fault named is

pub refusal_of_newest : (file : FileId) (parts : ℕ) (body : List ℕ) (fault : Fault) → file ≡ log_file file.number → IsNewestHeadRefused file parts body fault → IsRefusalBy parts fault
refusal_of_newest file parts body fault named (inl (none, is)) = subst (IsRefusalBy parts) (sym is) named
refusal_of_newest file parts body fault named (inr (head, fits, spelled, fewer, is)) = subst (IsRefusalBy parts) (sym is) (refl, fewer, fits.parts)

-- ---- records

mark_refused : (file : FileId) (at : ℕ) (mark : Option ℕ) (fault : Fault) → IsLog file → mark_fault file at mark ≡ Some fault → IsLogFault fault
mark_refused file at None fault named is = absurd cc
mark_refused file at (Some mark) fault named is = refused_unless mark None file at fault named (λ f none. absurd cc) is

record_refused : (file : FileId) (at parts : ℕ) (counts : Counts) (rec : Rec) (fault : Fault) → IsLog file → record_fault file at parts counts rec ≡ Some fault → IsLogFault fault
record_refused file at parts counts rec fault named is =
    refused_if (nat_lt rec.part parts) _ _ fault
    (λ f. refused_unless rec.change _ file at f named
    (λ g. refused_if (rec.change == counts rec.part + 1) _ _ g (λ h. mark_refused file at (mark_of rec.what) h named) (λ h. refused_some (Malformed file at) h named)))
    (λ f. refused_some (Malformed file at) f named) is

refusal_of_record : (file : FileId) (at parts : ℕ) (counts : Counts) (body : List ℕ) (fault : Fault) → IsLog file → IsRecordRefused file at parts counts body fault → IsLogFault fault
refusal_of_record file at parts counts body fault named (inl (none, is)) = subst IsLogFault (sym is) named
refusal_of_record file at parts counts body fault named (inr (rec, fits, spelled, is)) = record_refused file at parts counts rec fault named is

-- a log is refused for what stands in it
pub kinds_of : (file : FileId) (base parts : ℕ) (counts : Counts) (number limit : ℕ) (bytes : List ℕ) (at : ℕ) (fault : Fault) → file ≡ log_file file.number
    → (fault ≡ NoMemory) ⊎ IsLogRefused file base parts counts number limit bytes at fault → (fault ≡ NoMemory) ⊎ (fault ≡ ReadFault) ⊎ IsLogFault fault
kinds_of file base parts counts number limit bytes at fault named (inl none) = inl none
kinds_of file base parts counts number limit bytes at fault named (inr refused) =
    let r = refused.refused in inr (inr (refusal_of_record file (base + refused.stop) parts (counts_after counts refused.recs) r.body fault named r.why))

-- ---- several logs

-- a frame of the number 2^62
pub refusal_of_worn : (number at : ℕ) (file : FileId) (bytes : List ℕ) (fault : Fault) → file ≡ log_file number → HasWorn file at bytes fault → IsLogFault fault
refusal_of_worn number at file bytes fault is worn = subst IsLogFault (sym worn.named) (named_log file number is, inr (omega arith, refl))

-- a log that the next does not follow
pub refusal_of_join : (log next : KnownLog) (len : ℕ) (recs : List Rec) (counts : List ℕ) (fault : Fault) → 1 ≤ log.head.first → next.head.first < 2 ^ 62 → IsJoinFault log next len recs counts fault → IsLogFault fault
refusal_of_join log next len recs counts fault first kept (inl (below, is)) = subst IsLogFault (sym is) (refl, inl (omega (arith, first, below), omega (arith, kept, below)))
refusal_of_join log next len recs counts fault first kept (inr (reaches, differs, is)) = subst IsLogFault (sym is) refl

-- ---- for so many partitions

-- a fault that names a log is a refusal
pub refusal_by : (parts : ℕ) (fault : Fault) → IsLogFault fault → IsRefusalBy parts fault
refusal_by parts NoMemory is = is
refusal_by parts ReadFault is = is
refusal_by parts WriteFault is = is
refusal_by parts (Damaged file at kept found) is = is
refusal_by parts (Missing file) is = is
refusal_by parts (Gap part applied low high) is = is
refusal_by parts (BadLine line why) is = is
refusal_by parts (TooLong limit) is = is
refusal_by parts BadWords is = is
refusal_by parts (BadSettings at) is = is
refusal_by parts (FewerParts asked kept) is = absurd is
refusal_by parts (Malformed file at) is = is
refusal_by parts (Worn kept) is = is

pub kinds_by : (parts : ℕ) (fault : Fault) → (fault ≡ NoMemory) ⊎ (fault ≡ ReadFault) ⊎ IsLogFault fault → (fault ≡ NoMemory) ⊎ (fault ≡ ReadFault) ⊎ IsRefusalBy parts fault
kinds_by parts fault (inl none) = inl none
kinds_by parts fault (inr (inl failed)) = inr (inl failed)
kinds_by parts fault (inr (inr is)) = inr (inr (refusal_by parts fault is))

-- of a call that answers no other refusals, each names a log
pub names_log : (parts : ℕ) (fault : Fault) → (fault ≡ NoMemory) ⊎ (fault ≡ ReadFault) ⊎ IsLogFault fault → IsRefusalBy parts fault → IsLogFault fault
names_log parts fault (inl none) refusal = absurd (subst (IsRefusalBy parts) none refusal)
names_log parts fault (inr (inl failed)) refusal = absurd (subst (IsRefusalBy parts) failed refusal)
names_log parts fault (inr (inr is)) refusal = is
