-- An image opens in one way or is refused.
use Rattle.std.proofs.Common.{◌≡◌, ℕ, ◌+◌, ◌<◌, ◌≤◌, ◌^◌, ◌⊎◌, inl, inr, Bool, false, suc, List, [], ◌∷◌, ◌++◌, length, map, Option, Some, None, IfSome, ◌==◌, nat_lt, if◌then◌else◌, refl, sym, ap, subst, ◌∙◌, arith}
use Rattle.std.proofs.lemmas.Bool.{cond_below, eq-eqb, ne_eqb}
use Rattle.std.specs.List.{AllByRecursion}
use Rattle.mg_disk.specs.Images.{Image}
use Rattle.mg_frame.specs.Frame.{frame, NoFrame}
use Rattle.mg_frame.specs.Frames.{frames}
use Rattle.mg_frame.proofs.FramesLaws.{same_frame}
use Rattle.mg_types.specs.declared.faults.Fault.{Fault}
use Rattle.mg_types.specs.declared.faults.Fault.TheVariants.{Malformed}
use Rattle.mg_types.specs.declared.names.FileId.{FileId}
use Rattle.mg_wal_format.specs.declared.head.Head.{Head}
use Rattle.mg_wal_format.specs.declared.record.Rec.{Rec}
use Rattle.mg_wal_format.specs.Faults.{head_fault, mark_fault, numbers_fault, record_fault, too_great, IsHeadRefused, IsNewestHeadRefused, IsRecordRefused}
use Rattle.mg_wal_format.specs.Heads.{head_bytes, parts_of, IsSoundHead}
use Rattle.mg_wal_format.specs.Logs.{counts_after, entry_of, one_more, BeginsWith, Continues, Gives, HeadsRise, InOrder, Log}
use Rattle.mg_wal_format.specs.Opening.{EndIsKeptLaw, NeverRefusedLaw, OneOpeningLaw, StraysOpenLaw, StraysRefusedLaw}
use Rattle.mg_wal_format.specs.Records.{mark_of, record_bytes, Counts, IsNext}
use Rattle.mg_wal_format.specs.Recovery.{
  end_of,
  first_of,
  found_of,
  log_file,
  low_of,
  offset_behind,
  AreRefused,
  Falls,
  Found,
  HasHeads,
  HasRoom,
  IsHeadFault,
  IsHeadsFault,
  IsNewestRefused,
  IsRecordFault,
  IsSoundLog,
  IsStreamFault,
  Opens,
}
use Rattle.mg_wal_format.proofs.ChainLaws.{first_read, frames_first, frames_none, none_begins, one_log, OneList}
use Rattle.mg_wal_format.proofs.FoundLaws.{found_as, logs_found, sound_at, AreLogs-less, OneLogs}
use Rattle.mg_wal_format.proofs.OrderLaws.{AllInOrder}
use Rattle.mg_wal_format.proofs.PartsLaws.{MoreParts}
use Rattle.mg_wal_format.proofs.ReadingLaws.{none_is_not_found, numbered}
use Rattle.mg_wal_format.proofs.SpellingLaws.{one_head, one_record}
use Rattle.mg_wal_format.proofs.TornLaws.{body_fits, entry_fits, InOrder-number}

-- ---- what is sound has no fault

numbers_sound : (file : FileId) (at : ℕ) (ns : List ℕ) → AllByRecursion (λ n. n < 2 ^ 62) ns → numbers_fault file at ns ≡ None
numbers_sound file at [] kept = refl
numbers_sound file at (n ∷ ns) kept = sym (cond_below n (2 ^ 62) (numbers_fault file at ns) (Some (too_great file at n)) kept.0) ∙ numbers_sound file at ns kept.1

not_zero : (n : ℕ) → 1 ≤ n → (n == 0) ≡ false
not_zero n some = ne_eqb n 0 (λ (none : n ≡ 0). omega (arith, some, none))

head_fine : (file : FileId) (head : Head) → file.number < 2 ^ 62 → IsSoundHead head → head_fault file head ≡ None
head_fine file head named sound =
    let counts = if head.first == 0 then Some (Malformed file 0) else numbers_fault file 0 head.before in
    let fields = if nat_lt head.first (2 ^ 62) then counts else Some (too_great file 0 head.first) in
    sym (cond_below file.number (2 ^ 62) fields (Some (too_great file 0 file.number)) named) ∙ sym (cond_below head.first (2 ^ 62) counts (Some (too_great file 0 head.first)) sound.first_is_kept)
    ∙ ap (λ (b : Bool). if b then Some (Malformed file 0) else numbers_fault file 0 head.before) (not_zero head.first sound.first) ∙ numbers_sound file 0 head.before sound.before_are_kept

mark_fine : (file : FileId) (at : ℕ) (mark : Option ℕ) → IfSome mark (λ m. m < 2 ^ 62) → mark_fault file at mark ≡ None
mark_fine file at None kept = refl
mark_fine file at (Some mark) kept = sym (cond_below mark (2 ^ 62) None (Some (too_great file at mark)) kept)

next_fine : (file : FileId) (at parts : ℕ) (counts : Counts) (rec : Rec) → IsNext parts counts rec → record_fault file at parts counts rec ≡ None
next_fine file at parts counts rec next =
    let mark = mark_fault file at (mark_of rec.what) in
    let counted = if rec.change == counts rec.part + 1 then mark else Some (Malformed file at) in
    let change = if nat_lt rec.change (2 ^ 62) then counted else Some (too_great file at rec.change) in
    sym (cond_below rec.part parts change (Some (Malformed file at)) next.part) ∙ sym (cond_below rec.change (2 ^ 62) counted (Some (too_great file at rec.change)) next.change_is_kept)
    ∙ ap (λ (b : Bool). if b then mark else Some (Malformed file at)) (eq-eqb rec.change (counts rec.part + 1) next.change) ∙ mark_fine file at (mark_of rec.what) next.mark_is_kept

-- the body of a head that a log may have is not refused
pub head_taken : (file : FileId) (head : Head) (fault : Fault) → file.number < 2 ^ 62 → IsSoundHead head → IsHeadRefused file (head_bytes head) fault → ⊥
head_taken file head fault named sound (inl (none, why)) = none head sound.fits refl
head_taken file head fault named sound (inr (other, fits, is, why)) =
    let one : head ≡ other = one_head head other sound.fits fits is in
    none_is_not_found (head_fault file head) (head_fine file head named sound) fault (ap (head_fault file) one ∙ why)

-- nor is the body of the next record
record_taken : (file : FileId) (at parts : ℕ) (counts : Counts) (rec : Rec) (fault : Fault) → IsNext parts counts rec → IsRecordRefused file at parts counts (record_bytes rec) fault → ⊥
record_taken file at parts counts rec fault next (inl (none, why)) = none rec next.fits refl
record_taken file at parts counts rec fault next (inr (other, fits, is, why)) =
    let one : rec ≡ numbered rec.number other =
    one_record rec (numbered rec.number other) next.fits (record { part = fits.part; change = fits.change; what = fits.what }) refl is in
    none_is_not_found (record_fault file at parts counts rec) (next_fine file at parts counts rec next) fault (ap (record_fault file at parts counts) one ∙ why)

-- ---- heads

newest_taken : (file : FileId) (parts : ℕ) (head : Head) (fault : Fault) → IsSoundHead head → parts_of head ≤ parts → IsNewestHeadRefused file parts (head_bytes head) fault → ⊥
newest_taken file parts head fault sound room (inl (none, why)) = none head sound.fits refl
newest_taken file parts head fault sound room (inr (other, fits, is, fewer, why)) =
    let one : head ≡ other = one_head head other sound.fits fits is in
    omega (arith, room, fewer, ap parts_of one)

none_found : (logs : List Log) → [] ≡ map found_of logs → logs ≡ []
none_found [] is = refl
none_found (log ∷ logs) is = absurd cc

pub newest_fine : (parts : ℕ) (logs : List Log) (fault : Fault) → HasHeads logs → HasRoom parts logs → IsNewestRefused parts (map found_of logs) fault → ⊥
newest_fine parts logs fault heads room (older, newest, is, why) =
    let found = found_as logs older newest [] is in
    let last : logs ≡ found.before ++ found.log ∷ [] = found.split ∙ ap (λ (ls : List Log). found.before ++ found.log ∷ ls) (none_found found.behind found.newer_is) in
    let sound = sound_at found.before found.log found.behind (subst (AllByRecursion IsSoundLog) found.split heads.0) in
    newest_taken (log_file newest.number) parts found.log.head fault sound.1.1 (room found.before found.log last)
    (subst (λ (f : Found). IsNewestHeadRefused (log_file newest.number) parts f.body fault) found.found_is why)

-- a head that follows another does not fall
rise_at : (older : List Log) (last log : Log) (behind : List Log) → HeadsRise ((older ++ last ∷ []) ++ log ∷ behind) → (last.head.first ≤ log.head.first) × (parts_of last.head ≤ parts_of log.head)
rise_at [] last log behind rise = (rise.0, rise.1)
rise_at (first ∷ []) last log behind rise = rise_at [] last log behind rise.2
rise_at (first ∷ next ∷ older) last log behind rise = rise_at (next ∷ older) last log behind rise.2

not_less : (a b c d : ℕ) → (a < b) ⊎ (c < d) → b ≤ a → d ≤ c → ⊥
not_less a b c d (inl less) above above' = omega (arith, less, above)
not_less a b c d (inr less) above above' = omega (arith, less, above')

falls_not : (before : List Log) (log : Log) (behind : List Log) → HeadsRise (before ++ log ∷ behind) → Falls before log.head → ⊥
falls_not before log behind rise (older, last, is, falls) =
    let above = rise_at older last log behind (subst (λ (ls : List Log). HeadsRise (ls ++ log ∷ behind)) is rise) in
    not_less log.head.first last.head.first (parts_of log.head) (parts_of last.head) falls above.0 above.1

wrong_head : (before : List Log) (log : Log) (behind : List Log) (fault : Fault) → IsSoundLog log → HeadsRise (before ++ log ∷ behind) → IsHeadFault before (found_of log) fault → ⊥
wrong_head before log behind fault sound rise (inl refused) = head_taken (log_file log.number) log.head fault sound.0 sound.1 refused
wrong_head before log behind fault sound rise (inr (head, named, sound', is, falls, why)) =
    falls_not before log behind rise (subst (Falls before) (sym (one_head log.head head sound.1.fits sound'.fits is)) falls)

pub heads_fine : (logs : List Log) (fault : Fault) → HasHeads logs → IsHeadsFault (map found_of logs) fault → ⊥
heads_fine logs fault heads wrong =
    let found = found_as logs (map found_of wrong.before) wrong.bad wrong.behind wrong.split in
    let sound = sound_at found.before found.log found.behind (subst (AllByRecursion IsSoundLog) found.split heads.0) in
    let before : wrong.before ≡ found.before = logs_found wrong.before found.before wrong.fine.0 sound.0 found.older_is in
    wrong_head found.before found.log found.behind fault sound.1 (subst HeadsRise found.split heads.1)
    (subst (λ (f : Found). IsHeadFault found.before f fault) found.found_is (subst (λ (ls : List Log). IsHeadFault ls wrong.bad fault) before wrong.why))

-- ---- what stands behind the heads

-- no record may have this number, or this body
abbrev Unfit : FileId → ℕ → ℕ → Counts → ℕ → List ℕ → Fault → Type 0
Unfit file at parts counts number body fault = (2 ^ 62 ≤ number) ⊎ IsRecordRefused file at parts counts body fault

unfit_first : (file : FileId) (at parts : ℕ) (counts : Counts) (rec : Rec) (recs : List Rec) (number : ℕ) (body : List ℕ) (rest tail : List ℕ) (fault : Fault) → InOrder parts counts number (rec ∷ recs)
    → frames (map entry_of (rec ∷ recs)) ++ rest ≡ frame (number + 0) body ++ tail → length body < 2 ^ 32 → Unfit file at parts counts (number + 0) body fault → ⊥
unfolding entry_of
unfit_first file at parts counts rec recs number body rest tail fault ordered same fits (inl great) = omega (arith, great, ordered.1)
unfit_first file at parts counts rec recs number body rest tail fault ordered same fits (inr refused) =
    let entry : ℕ × List ℕ = (number + 0, body) in
    let split = same_frame (entry_of rec) entry (frames (map entry_of recs) ++ rest) tail (entry_fits parts counts rec (omega (arith, ordered.0, ordered.1)) ordered.2)
    (record { number_fits = omega (arith, ordered.1); body_fits = fits }) (sym (frames_first rec recs rest) ∙ same) in
    record_taken file at parts counts rec fault ordered.2 (subst (λ (b : List ℕ). IsRecordRefused file at parts counts b fault) (sym split.body) refused)

begins_not : (number : ℕ) (bytes body tail : List ℕ) → NoFrame number bytes → length body < 2 ^ 32 → bytes ≡ frame number body ++ tail → ⊥
unfolding NoFrame
begins_not number bytes body tail none fits is = none body tail fits is

stops_later : (number count other : ℕ) (rest : List ℕ) → NoFrame (number + suc count) rest ⊎ (suc other < suc count) → NoFrame (number + 1 + count) rest ⊎ (other < count)
stops_later number count other rest (inl none) = inl (subst (λ (n : ℕ). NoFrame n rest) (omega arith) none)
stops_later number count other rest (inr less) = inr (omega (arith, less))

-- where one reading has good records and then no next one, another has no bad one behind as many or fewer
refused_not : (file : FileId) (at parts : ℕ) (counts : Counts) (number : ℕ) (recs bad : List Rec) (rest body tail : List ℕ) (fault : Fault) → InOrder parts counts number recs → InOrder parts counts number bad
    → frames (map entry_of recs) ++ rest ≡ frames (map entry_of bad) ++ (frame (number + length bad) body ++ tail) → NoFrame (number + length recs) rest ⊎ (length bad < length recs) → length body < 2 ^ 32
    → Unfit file at parts (counts_after counts bad) (number + length bad) body fault → ⊥
refused_not file at parts counts number [] [] rest body tail fault ordered ordered' same (inl none) fits unfit = begins_not (number + 0) rest body tail none fits (sym (frames_none rest) ∙ same ∙ frames_none (frame (number + 0) body ++ tail))
refused_not file at parts counts number [] [] rest body tail fault ordered ordered' same (inr less) fits unfit = omega (arith, less)
refused_not file at parts counts number [] (other ∷ bad) rest body tail fault ordered ordered' same (inl none) fits unfit =
    let behind = frame (number + length (other ∷ bad)) body ++ tail in
    none_begins (number + 0) rest other (frames (map entry_of bad) ++ behind) none (omega (arith, ordered'.0)) (body_fits parts counts other ordered'.2) (sym (frames_none rest) ∙ same ∙ frames_first other bad behind)
refused_not file at parts counts number [] (other ∷ bad) rest body tail fault ordered ordered' same (inr less) fits unfit = omega (arith, less)
refused_not file at parts counts number (rec ∷ recs) [] rest body tail fault ordered ordered' same stop fits unfit =
    unfit_first file at parts counts rec recs number body rest tail fault ordered (same ∙ frames_none (frame (number + 0) body ++ tail)) fits unfit
refused_not file at parts counts number (rec ∷ recs) (other ∷ bad) rest body tail fault ordered ordered' same stop fits unfit =
    let step : number + length (other ∷ bad) ≡ number + 1 + length bad = omega arith in
    let first = first_read parts counts number rec other recs bad rest (frame (number + length (other ∷ bad)) body ++ tail) ordered ordered' same in
    refused_not file at parts (one_more counts rec.part) (number + 1) recs bad rest body tail fault ordered.3 first.1
    (subst (λ (n : ℕ). frames (map entry_of recs) ++ rest ≡ frames (map entry_of bad) ++ (frame n body ++ tail)) step first.2) (stops_later number (length recs) (length bad) rest stop) fits
    (subst (λ (r : Rec). Unfit file at parts (counts_after (one_more counts r.part) bad) (number + 1 + length bad) body fault) (sym first.0)
    (subst (λ (n : ℕ). Unfit file at parts (counts_after counts (other ∷ bad)) n body fault) step unfit))

-- where a reading goes on, another does not end for want of a next frame
pub early_not : (parts : ℕ) (counts : Counts) (number : ℕ) (recs others : List Rec) (rest rest' : List ℕ) → InOrder parts counts number recs → InOrder parts counts number others
    → frames (map entry_of recs) ++ rest ≡ frames (map entry_of others) ++ rest' → NoFrame (number + length others) rest' → length others < length recs → ⊥
early_not parts counts number [] others rest rest' ordered ordered' same none less = omega (arith, less)
early_not parts counts number (rec ∷ recs) [] rest rest' ordered ordered' same none less =
    none_begins (number + 0) rest' rec (frames (map entry_of recs) ++ rest) none (omega (arith, ordered.0)) (body_fits parts counts rec ordered.2) (sym (frames_none rest') ∙ sym same ∙ frames_first rec recs rest)
early_not parts counts number (rec ∷ recs) (other ∷ others) rest rest' ordered ordered' same none less =
    let first = first_read parts counts number rec other recs others rest rest' ordered ordered' same in
    early_not parts (one_more counts rec.part) (number + 1) recs others rest rest' ordered.3 first.1 first.2 (subst (λ (n : ℕ). NoFrame n rest') (omega arith) none) (omega (arith, less))

told : {A B C D : Type 0} → (A × B) ⊎ (C × D) → A ⊎ D
told (inl both) = inl both.0
told (inr both) = inr both.1

unfit : (parts : ℕ) (log : Log) (counts : Counts) (number : ℕ) (limit : Option ℕ) (fault : Fault) (wrong : IsRecordFault parts log counts number limit fault)
    → Unfit (log_file log.number) (offset_behind log wrong.recs) parts (counts_after counts wrong.recs) (number + length wrong.recs) wrong.body fault
unfit parts log counts number limit fault wrong = told wrong.why

pub record_fine : (parts : ℕ) (log : Log) (counts : Counts) (number : ℕ) (limit : Option ℕ) (fault : Fault) (recs : List Rec) (rest : List ℕ) → BeginsWith parts counts number log.rest recs rest
    → (wrong : IsRecordFault parts log counts number limit fault) → NoFrame (number + length recs) rest ⊎ (length wrong.recs < length recs) → ⊥
record_fine parts log counts number limit fault recs rest begins wrong stop =
    refused_not (log_file log.number) (offset_behind log wrong.recs) parts counts number recs wrong.recs rest wrong.body wrong.rest fault begins.in_order wrong.begins.in_order
    (sym begins.spelled ∙ wrong.begins.spelled) stop wrong.body_fits (unfit parts log counts number limit fault wrong)

-- two readings of a log up to the same number are one
pub same_mine : (parts : ℕ) (counts : Counts) (number : ℕ) (bytes : List ℕ) (recs others : List Rec) (rest rest' : List ℕ) → BeginsWith parts counts number bytes recs rest → BeginsWith parts counts number bytes others rest'
    → length recs ≡ length others → recs ≡ others
same_mine parts counts number bytes recs others rest rest' begins begins' len =
    one_log parts counts number recs others rest rest' begins.in_order begins'.in_order (sym begins.spelled ∙ begins'.spelled) (inl len)

stream_fine : (parts : ℕ) (counts : Counts) (number : ℕ) (logs : List Log) (recs : List Rec) (fault : Fault) → Gives parts counts number logs recs → IsStreamFault parts counts number logs fault → ⊥
stream_fine parts counts number [] recs fault gives wrong = wrong
stream_fine parts counts number (log ∷ []) recs fault gives wrong = record_fine parts log counts number None fault recs gives.0 gives.1 wrong (inl gives.2)
stream_fine parts counts number (log ∷ next ∷ logs) recs fault gives (inl wrong) =
    record_fine parts log counts number (Some next.head.first) fault gives.0 gives.2 gives.4 wrong (inr (omega (arith, wrong.below, gives.5)))
stream_fine parts counts number (log ∷ next ∷ logs) recs fault gives (inr (inl early)) =
    early_not parts counts number gives.0 early.recs gives.2 early.rest gives.4.in_order early.begins.in_order (sym gives.4.spelled ∙ early.begins.spelled) early.ends (omega (arith, early.early, gives.5))
stream_fine parts counts number (log ∷ next ∷ logs) recs fault gives (inr (inr (inl wrong))) =
    wrong.other (subst (λ (rs : List Rec). Continues (counts_after counts rs) next.head)
    (same_mine parts counts number log.rest gives.0 wrong.recs gives.2 wrong.rest gives.4 wrong.begins (omega (arith, gives.5, wrong.reaches))) gives.6)
stream_fine parts counts number (log ∷ next ∷ logs) recs fault gives (inr (inr (inr (mine, rest, begins, reaches, continues, wrong)))) =
    stream_fine parts (counts_after counts gives.0) (number + length gives.0) (next ∷ logs) gives.1 fault gives.7
    (subst (λ (rs : List Rec). IsStreamFault parts (counts_after counts rs) (number + length rs) (next ∷ logs) fault)
    (same_mine parts counts number log.rest mine gives.0 rest gives.2 begins gives.4 (omega (arith, gives.5, reaches))) wrong)

-- ---- an image

never : (parts : ℕ) (image : Image) (logs : List Log) (recs : List Rec) (fault : Fault) → Opens parts image logs recs → AreRefused parts (map found_of logs) fault → ⊥
never parts image logs recs fault opens (inl newest) = newest_fine parts logs fault opens.heads opens.room newest
never parts image logs recs fault opens (inr (inl (fine, wrong))) = heads_fine logs fault opens.heads wrong
never parts image logs recs fault opens (inr (inr (others, is, heads, room, wrong))) =
    let same : others ≡ logs = logs_found others logs heads.0 opens.heads.0 (sym is) in
    stream_fine parts (low_of logs) (first_of logs) logs recs fault opens.gives (subst (λ (ls : List Log). IsStreamFault parts (low_of ls) (first_of ls) ls fault) same wrong)

pub NeverRefused : NeverRefusedLaw
NeverRefused parts image logs recs fault opens (found, are, wrong) =
    never parts image logs recs fault opens (subst (λ (fs : List Found). AreRefused parts fs fault) (OneLogs image found (map found_of logs) are opens.found) wrong)

pub OneOpening : OneOpeningLaw
OneOpening parts others image logs logs' recs recs' opens opens' =
    let same : logs ≡ logs' = logs_found logs logs' opens.heads.0 opens'.heads.0 (OneLogs image (map found_of logs) (map found_of logs') opens.found opens'.found) in
    let one = MoreParts parts (parts + others) image logs recs (omega arith) opens in
    let other = MoreParts others (parts + others) image logs' recs' (omega arith) opens' in
    (same, OneList (parts + others) (low_of logs) (first_of logs) logs recs recs' one.gives (subst (λ (ls : List Log). Gives (parts + others) (low_of ls) (first_of ls) ls recs') (sym same) other.gives))

pub StraysOpen : StraysOpenLaw
StraysOpen parts old new logs recs less opens = record { found = AreLogs-less old new (map found_of logs) less opens.found; heads = opens.heads; room = opens.room; gives = opens.gives }

pub StraysRefused : StraysRefusedLaw
StraysRefused parts old new fault less (found, are, wrong) = (found, AreLogs-less old new found less are, wrong)

first_kept : (logs : List Log) → AllByRecursion IsSoundLog logs → first_of logs < 2 ^ 62
first_kept [] sound = omega arith
first_kept (log ∷ logs) sound = sound.0.1.first_is_kept

end_below : (logs : List Log) (recs : List Rec) → first_of logs + length recs ≤ 2 ^ 62 → end_of logs recs ≤ 2 ^ 62
end_below [] recs below = omega arith
end_below (log ∷ logs) recs below = below

pub EndIsKept : EndIsKeptLaw
EndIsKept parts image logs recs opens =
    end_below logs recs (InOrder-number parts (low_of logs) (first_of logs) recs (first_kept logs opens.heads.0) (AllInOrder parts (low_of logs) (first_of logs) logs recs opens.gives))
