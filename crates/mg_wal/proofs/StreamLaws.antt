-- What one log after another gives, and for what they are refused.
use Rattle.std.proofs.Common.{◌≡◌, IsSome, Result, Err, ℕ, ◌+◌, ◌-◌, ◌*◌, ◌<◌, ◌≤◌, ◌^◌, ◌⊎◌, inl, inr, List, [], ◌∷◌, ◌++◌, length, map, drop, get_or, Option, None, Some, refl, sym, ap, subst, ◌∙◌, arith, append_assoc}
use Rattle.std.proofs.lemmas.List.{append-nil, drop_at, length-append, take-append-drop}
use Rattle.std.specs.Prelude.{IfSome, slice_get}
use Rattle.std.specs.Result.{IsErrOf}
use Rattle.mg_disk.specs.Images.{Image, Stays, View}
use Rattle.mg_faults.specs.Causes.{HasCause}
use Rattle.mg_frame.specs.Frame.{frame, NoFrame}
use Rattle.mg_frame.specs.Frames.{frames}
use Rattle.mg_frame.proofs.FrameLaws.{length-frame}
use Rattle.mg_types.specs.declared.faults.Fault.{Fault}
use Rattle.mg_types.specs.declared.faults.Fault.TheVariants.{Damaged, Malformed, NoMemory, ReadFault}
use Rattle.mg_types.specs.declared.names.FileId.{FileId}
use Rattle.mg_wal_format.specs.declared.record.Rec.{Rec}
use Rattle.mg_wal_format.specs.Faults.{too_great, IsRecordRefused}
use Rattle.mg_wal_format.specs.Heads.{head_bytes, parts_of, IsSoundHead}
use Rattle.mg_wal_format.specs.Judging.{GivesUpTo, HasRecords, IsLogRefused}
use Rattle.mg_wal_format.specs.Logs.{counts_after, entry_of, BeginsWith, Continues, Gives, InOrder, Log}
use Rattle.mg_wal_format.specs.Records.{counts_in, Counts}
use Rattle.mg_wal_format.specs.Recovery.{first_of, found_of, log_bytes, log_file, log_name, low_of, offset_behind, CountsOther, EndsEarly, HasHeads, IsRecordFault, IsStreamFault}
use Rattle.mg_wal_format.proofs.LogLaws.{counts_after-append, IsRecordRefused-same}
use Rattle.mg_wal_format.proofs.OrderLaws.{InOrder-append}
use Rattle.mg_wal_format.proofs.SpellingLaws.{length-head_bytes}
use Rattle.mg_wal.specs.declared.known.KnownLog.{KnownLog}
use Rattle.mg_wal.specs.Findings.{AreKnown, AreReady, IsLogFault, StandIn}
use Rattle.mg_wal.specs.Openings.{log_known}
use Rattle.mg_wal.specs.Streams.{head_end, AreSound, BeginAt, GoesOn, HasWorn, IsJoinFault, IsWindow, StandsAs}
use Rattle.mg_wal.proofs.CountLaws.{counts_after-same, BeginsWith-same, Gives-same, InOrder-same, Same}
use Rattle.mg_wal.proofs.ReadLaws.{cause_behind}

-- ---- counts that are alike

IsRecordFault-same : (parts : ℕ) (log : Log) (counts others : Counts) (number : ℕ) (limit : Option ℕ) (fault : Fault) → Same counts others → IsRecordFault parts log counts number limit fault
    → IsRecordFault parts log others number limit fault
IsRecordFault-same parts log counts others number limit fault same is =
    record {
      recs = is.recs;
      body = is.body;
      rest = is.rest;
      begins = BeginsWith-same parts counts others number log.rest is.recs (frame (number + length is.recs) is.body ++ is.rest) same is.begins;
      below = is.below;
      body_fits = is.body_fits;
      why = elim is.why [
        | inl worn ↦ inl worn
        | inr refused ↦ inr (
          refused.0,
          IsRecordRefused-same (log_file log.number) (offset_behind log is.recs) parts (counts_after counts is.recs) (counts_after others is.recs) is.body fault (counts_after-same counts others is.recs same) refused.1,
        )
      ];
    }

EndsEarly-same : (parts : ℕ) (log : Log) (counts others : Counts) (number first : ℕ) (fault : Fault) → Same counts others → EndsEarly parts log counts number first fault → EndsEarly parts log others number first fault
EndsEarly-same parts log counts others number first fault same is =
    record { recs = is.recs; rest = is.rest; begins = BeginsWith-same parts counts others number log.rest is.recs is.rest same is.begins; ends = is.ends; early = is.early; named = is.named }

CountsOther-same : (parts : ℕ) (log next : Log) (counts others : Counts) (number : ℕ) (fault : Fault) → Same counts others → CountsOther parts log next counts number fault → CountsOther parts log next others number fault
CountsOther-same parts log next counts others number fault same is =
    record {
      recs = is.recs;
      rest = is.rest;
      begins = BeginsWith-same parts counts others number log.rest is.recs is.rest same is.begins;
      reaches = is.reaches;
      other = λ continues. is.other (λ part. continues part ∙ sym (counts_after-same counts others is.recs same part));
      named = is.named;
    }

pub IsStreamFault-same : (parts : ℕ) (counts others : Counts) (number : ℕ) (logs : List Log) (fault : Fault) → Same counts others → IsStreamFault parts counts number logs fault → IsStreamFault parts others number logs fault
IsStreamFault-same parts counts others number [] fault same is = is
IsStreamFault-same parts counts others number (log ∷ []) fault same is = IsRecordFault-same parts log counts others number None fault same is
IsStreamFault-same parts counts others number (log ∷ next ∷ logs) fault same (inl is) = inl (IsRecordFault-same parts log counts others number (Some next.head.first) fault same is)
IsStreamFault-same parts counts others number (log ∷ next ∷ logs) fault same (inr (inl is)) = inr (inl (EndsEarly-same parts log counts others number next.head.first fault same is))
IsStreamFault-same parts counts others number (log ∷ next ∷ logs) fault same (inr (inr (inl is))) = inr (inr (inl (CountsOther-same parts log next counts others number fault same is)))
IsStreamFault-same parts counts others number (log ∷ next ∷ logs) fault same (inr (inr (inr (recs, rest, begins, reaches, continues, is)))) =
    let after : Same (counts_after counts recs) (counts_after others recs) = counts_after-same counts others recs same in
    inr (inr (inr (
      recs,
      rest,
      BeginsWith-same parts counts others number log.rest recs rest same begins,
      reaches,
      (λ part. continues part ∙ after part),
      IsStreamFault-same parts (counts_after counts recs) (counts_after others recs) (number + length recs) (next ∷ logs) fault after is,
    )))

-- ---- going on

pub goes_none : (parts : ℕ) (counts : Counts) (number : ℕ) (logs : List Log) → GoesOn parts counts number logs [] logs
goes_none parts counts number logs =
    let same : number + 0 ≡ number = omega arith in
    record {
      gives = λ more gives. subst (λ (n : ℕ). Gives parts counts n logs more) same gives;
      refused = λ fault is. subst (λ (n : ℕ). IsStreamFault parts counts n logs fault) same is;
    }

pub goes_same : (parts : ℕ) (counts others : Counts) (number : ℕ) (logs : List Log) (recs : List Rec) (behind : List Log) → Same counts others → GoesOn parts counts number logs recs behind → GoesOn parts others number logs recs behind
goes_same parts counts others number logs recs behind same goes =
    let after : Same (counts_after others recs) (counts_after counts recs) = λ part. sym (counts_after-same counts others recs same part) in
    record {
      gives = λ more gives. Gives-same parts counts others number logs (recs ++ more) same (goes.gives more (Gives-same parts (counts_after others recs) (counts_after counts recs) (number + length recs) behind more after gives));
      refused = λ fault is. IsStreamFault-same parts counts others number logs fault same
          (goes.refused fault (IsStreamFault-same parts (counts_after others recs) (counts_after counts recs) (number + length recs) behind fault after is));
    }

-- one log more was read
pub goes_more : (parts : ℕ) (counts : Counts) (number : ℕ) (logs : List Log) (recs : List Rec) (middle : List Log) (mine : List Rec) (behind : List Log) → GoesOn parts counts number logs recs middle
    → GoesOn parts (counts_after counts recs) (number + length recs) middle mine behind → GoesOn parts counts number logs (recs ++ mine) behind
goes_more parts counts number logs recs middle mine behind before goes =
    let after : counts_after counts (recs ++ mine) ≡ counts_after (counts_after counts recs) mine = counts_after-append recs mine counts in
    let reached : number + length (recs ++ mine) ≡ number + length recs + length mine = omega (arith, length-append recs mine) in
    record {
      gives = λ more gives. subst (λ (l : List Rec). Gives parts counts number logs l) (sym (append_assoc recs mine more))
          (before.gives (mine ++ more) (goes.gives more
          (subst (λ (n : ℕ). Gives parts (counts_after (counts_after counts recs) mine) n behind more) reached
          (subst (λ (c : Counts). Gives parts c (number + length (recs ++ mine)) behind more) after gives))));
      refused = λ fault is. before.refused fault (goes.refused fault
          (subst (λ (n : ℕ). IsStreamFault parts (counts_after (counts_after counts recs) mine) n behind fault) reached
          (subst (λ (c : Counts). IsStreamFault parts c (number + length (recs ++ mine)) behind fault) after is)));
    }

-- what all logs give, when each was read
pub goes_all : (parts : ℕ) (counts : Counts) (number : ℕ) (logs : List Log) (recs : List Rec) → GoesOn parts counts number logs recs [] → Gives parts counts number logs recs
goes_all parts counts number logs recs goes = subst (λ (l : List Rec). Gives parts counts number logs l) (append-nil recs) (goes.gives [] refl)

-- ---- one log

-- the bytes are those of this log
pub record AreOf (bytes : List ℕ) (known : KnownLog) (log : Log) : Type 0 where
  pub known_as : log_known log ≡ known
  pub spelled : bytes ≡ log_bytes (found_of log)

-- those of a log that stands in an image
pub are_of : (image : Image) (known : KnownLog) (log : Log) → StandsAs image known log → AreOf (log_bytes (found_of log)) known log
are_of image known log stands = record { known_as = stands.0; spelled = refl }

pub end_exact : (known : KnownLog) (len : ℕ) → 31 + 8 * parts_of known.head ≤ len → head_end known len ≡ 31 + 8 * parts_of known.head
end_exact known len enough = omega (arith, enough)

-- the bytes at this offset are those behind the log's head
record IsBehind (bytes : List ℕ) (at : ℕ) (log : Log) : Type 0 where
  at_is : at ≡ length (frame log.number (head_bytes log.head))
  rest_is : drop at bytes ≡ log.rest

behind_head : (bytes : List ℕ) (known : KnownLog) (log : Log) (at : ℕ) → AreOf bytes known log → (31 + 8 * parts_of known.head ≤ length bytes → at ≡ 31 + 8 * parts_of known.head) → IsBehind bytes at log
behind_head bytes known log at are exact =
    let head = frame log.number (head_bytes log.head) in
    let same : parts_of log.head ≡ parts_of known.head = ap (λ (k : KnownLog). parts_of k.head) are.known_as in
    let len : length head ≡ 31 + 8 * parts_of known.head = omega (arith, length-frame log.number (head_bytes log.head), length-head_bytes log.head, same) in
    let whole : length bytes ≡ length head + length log.rest = ap length are.spelled ∙ length-append head log.rest in
    let at_is : at ≡ length head = exact (omega (arith, len, whole)) ∙ sym len in
    record { at_is = at_is; rest_is = ap (drop at) are.spelled ∙ drop_at head log.rest at (sym at_is) }

begins_at : (parts : ℕ) (counts : Counts) (number : ℕ) (bytes : List ℕ) (at : ℕ) (log : Log) (recs : List Rec) (stop : ℕ) → IsBehind bytes at log → HasRecords parts counts number bytes at recs stop
    → BeginsWith parts counts number log.rest recs (drop stop bytes)
begins_at parts counts number bytes at log recs stop behind has = subst (λ (l : List ℕ). BeginsWith parts counts number l recs (drop stop bytes)) behind.rest_is has.begins

offset_is : (parts : ℕ) (counts : Counts) (number : ℕ) (bytes : List ℕ) (at : ℕ) (log : Log) (recs : List Rec) (stop : ℕ) → IsBehind bytes at log → HasRecords parts counts number bytes at recs stop
    → stop ≡ offset_behind log recs
offset_is parts counts number bytes at log recs stop behind has = has.behind ∙ ap (λ (n : ℕ). n + length (frames (map entry_of recs))) behind.at_is

file_is : (bytes : List ℕ) (known : KnownLog) (log : Log) (file : FileId) → AreOf bytes known log → file ≡ log_file known.number → file ≡ log_file log.number
file_is bytes known log file are is = is ∙ ap (λ (k : KnownLog). log_file k.number) (sym are.known_as)

below_limit : (limit : Option ℕ) (number most : ℕ) → IfSome limit (λ (first : ℕ). first ≡ most) → number < most → IfSome limit (λ (first : ℕ). number < first)
below_limit None number most is below = tt
below_limit (Some first) number most is below = omega (arith, is, below)

-- a whole frame whose body is no next record
record_refused : (parts : ℕ) (counts : Counts) (number most : ℕ) (bytes : List ℕ) (at : ℕ) (log : Log) (file : FileId) (limit : Option ℕ) (fault : Fault) → IsBehind bytes at log → file ≡ log_file log.number
    → most ≤ 2 ^ 62 → IfSome limit (λ (first : ℕ). first ≡ most) → IsLogRefused file 0 parts counts number most bytes at fault → IsRecordFault parts log counts number limit fault
record_refused parts counts number most bytes at log file limit fault behind named kept is refused =
    let r = refused.refused in
    let begins = begins_at parts counts number bytes at log refused.recs refused.stop behind refused.records in
    let none_more : 0 + refused.stop ≡ refused.stop = omega arith in
    record {
      recs = refused.recs;
      body = r.body;
      rest = r.rest;
      begins = subst (λ (l : List ℕ). BeginsWith parts counts number log.rest refused.recs l) r.spelled begins;
      below = below_limit limit (number + length refused.recs) most is refused.below;
      body_fits = r.body_fits;
      why = inr (
        omega (arith, kept, refused.below),
        subst (λ (n : ℕ). IsRecordRefused (log_file log.number) n parts (counts_after counts refused.recs) r.body fault) (offset_is parts counts number bytes at log refused.recs refused.stop behind refused.records)
            (subst (λ (f : FileId). IsRecordRefused f refused.stop parts (counts_after counts refused.recs) r.body fault) named
            (subst (λ (n : ℕ). IsRecordRefused file n parts (counts_after counts refused.recs) r.body fault) none_more r.why)),
      );
    }

-- want of memory is no refusal
pub if_refused : (fault : Fault) (A B : Type 0) → (fault ≡ NoMemory) ⊎ A → (A → B) → IsLogFault fault → B
if_refused fault A B (inl none) step is = absurd (subst IsLogFault none is)
if_refused fault A B (inr a) step is = step a

-- the records of the newest log are refused
pub last_refused : (parts : ℕ) (counts : Counts) (number : ℕ) (bytes : List ℕ) (at : ℕ) (known : KnownLog) (log : Log) (file : FileId) (fault : Fault) → AreOf bytes known log
    → (31 + 8 * parts_of known.head ≤ length bytes → at ≡ 31 + 8 * parts_of known.head) → file ≡ log_file known.number → IsLogRefused file 0 parts counts number (2 ^ 62) bytes at fault
    → IsStreamFault parts counts number (log ∷ []) fault
last_refused parts counts number bytes at known log file fault are exact named refused =
    record_refused parts counts number (2 ^ 62) bytes at log file None fault (behind_head bytes known log at are exact) (file_is bytes known log file are named) (omega arith) tt refused

-- behind all records that a file may keep stands one more
pub last_worn : (parts : ℕ) (counts : Counts) (number : ℕ) (bytes : List ℕ) (at : ℕ) (known : KnownLog) (log : Log) (file : FileId) (recs : List Rec) (stop : ℕ) (window : List ℕ) (fault : Fault) → AreOf bytes known log
    → (31 + 8 * parts_of known.head ≤ length bytes → at ≡ 31 + 8 * parts_of known.head) → file ≡ log_file known.number → HasRecords parts counts number bytes at recs stop → number + length recs ≡ 2 ^ 62
    → IsWindow bytes stop (2 ^ 62) window → HasWorn file stop window fault → IsStreamFault parts counts number (log ∷ []) fault
last_worn parts counts number bytes at known log file recs stop window fault are exact named has reached w worn =
    let behind = behind_head bytes known log at are exact in
    let tail = drop w.count (drop stop bytes) in
    let spelled : drop stop bytes ≡ frame (number + length recs) worn.body ++ (worn.rest ++ tail) = sym (take-append-drop w.count (drop stop bytes)) ∙ ap (λ (l : List ℕ). l ++ tail) (sym w.front ∙ worn.spelled)
    ∙ append_assoc (frame (2 ^ 62) worn.body) worn.rest tail ∙ ap (λ (n : ℕ). frame n worn.body ++ (worn.rest ++ tail)) (sym reached) in
    let fault_is : fault ≡ too_great (log_file log.number) (offset_behind log recs) (number + length recs) =
    worn.named ∙ ap (λ (f : FileId). too_great f stop (2 ^ 62)) (file_is bytes known log file are named)
    ∙ ap (λ (n : ℕ). too_great (log_file log.number) n (2 ^ 62)) (offset_is parts counts number bytes at log recs stop behind has)
    ∙ ap (λ (n : ℕ). too_great (log_file log.number) (offset_behind log recs) n) (sym reached) in
    record {
      recs = recs;
      body = worn.body;
      rest = worn.rest ++ tail;
      begins = subst (λ (l : List ℕ). BeginsWith parts counts number log.rest recs l) spelled (begins_at parts counts number bytes at log recs stop behind has);
      below = tt;
      body_fits = worn.body_fits;
      why = inl (omega (arith, reached), fault_is);
    }

-- the newest log ends before the number 2^62, or no frame of that number stands there
pub last_ends : (reached : ℕ) (rest : List ℕ) → (reached ≡ 2 ^ 62) ⊎ NoFrame reached rest → (reached ≡ 2 ^ 62 → ⊥) → NoFrame reached rest
last_ends reached rest (inl is) differs = absurd (differs is)
last_ends reached rest (inr none) differs = none

-- the newest log ends where no frame of the next number begins
pub last_goes : (parts : ℕ) (counts : Counts) (number : ℕ) (bytes : List ℕ) (at : ℕ) (known : KnownLog) (log : Log) (recs : List Rec) (stop : ℕ) → AreOf bytes known log
    → (31 + 8 * parts_of known.head ≤ length bytes → at ≡ 31 + 8 * parts_of known.head) → HasRecords parts counts number bytes at recs stop → NoFrame (number + length recs) (drop stop bytes)
    → GoesOn parts counts number (log ∷ []) recs []
last_goes parts counts number bytes at known log recs stop are exact has ends =
    let begins = begins_at parts counts number bytes at log recs stop (behind_head bytes known log at are exact) has in
    record {
      gives = λ more is. subst (λ (l : List Rec). Gives parts counts number (log ∷ []) l) (sym (append-nil recs) ∙ ap (λ (l : List Rec). recs ++ l) (sym is)) (drop stop bytes, begins, ends);
      refused = λ fault is. absurd is;
    }

-- the records of a log before the newest are refused
pub before_refused : (parts : ℕ) (counts : Counts) (number : ℕ) (bytes : List ℕ) (at : ℕ) (known next : KnownLog) (log follower : Log) (others : List Log) (file : FileId) (fault : Fault) → AreOf bytes known log
    → log_known follower ≡ next → (31 + 8 * parts_of known.head ≤ length bytes → at ≡ 31 + 8 * parts_of known.head) → file ≡ log_file known.number → next.head.first < 2 ^ 62
    → IsLogRefused file 0 parts counts number next.head.first bytes at fault → IsStreamFault parts counts number (log ∷ follower ∷ others) fault
before_refused parts counts number bytes at known next log follower others file fault are follows exact named kept refused =
    inl (record_refused parts counts number next.head.first bytes at log file (Some follower.head.first) fault (behind_head bytes known log at are exact) (file_is bytes known log file are named) (omega (arith, kept))
    (ap (λ (k : KnownLog). k.head.first) follows) refused)

not_reached : (reached first : ℕ) (P : Type 0) → reached < first → (reached ≡ first) ⊎ P → P
not_reached reached first P below (inl is) = absurd (omega (arith, below, is))
not_reached reached first P below (inr p) = p

-- the next log does not follow
pub before_breaks : (parts : ℕ) (counts : Counts) (number : ℕ) (bytes : List ℕ) (at : ℕ) (known next : KnownLog) (log follower : Log) (others : List Log) (recs : List Rec) (stop : ℕ) (behind : List ℕ) (fault : Fault)
    → AreOf bytes known log → log_known follower ≡ next → (31 + 8 * parts_of known.head ≤ length bytes → at ≡ 31 + 8 * parts_of known.head) → number ≡ known.head.first
    → GivesUpTo parts counts number next.head.first bytes at recs stop → ((part : ℕ) → get_or behind part 0 ≡ counts_after counts recs part) → IsJoinFault known next (length bytes) recs behind fault
    → IsStreamFault parts counts number (log ∷ follower ∷ others) fault
before_breaks parts counts number bytes at known next log follower others recs stop behind fault are follows exact begun gives counted (inl (below, named)) =
    let first_is : follower.head.first ≡ next.head.first = ap (λ (k : KnownLog). k.head.first) follows in
    let reached : number + length recs < next.head.first = omega (arith, begun, below) in
    inr (inl (record {
      recs = recs;
      rest = drop stop bytes;
      begins = begins_at parts counts number bytes at log recs stop (behind_head bytes known log at are exact) gives.records;
      ends = not_reached (number + length recs) next.head.first (NoFrame (number + length recs) (drop stop bytes)) reached gives.ends;
      early = omega (arith, reached, first_is);
      named = named
          ∙ ap (λ (f : FileId). Damaged f (length bytes) (next.head.first - 1) (known.head.first + length recs - 1)) (file_is bytes known log (log_file known.number) are refl)
          ∙ ap (λ (n : ℕ). Damaged (log_file log.number) n (next.head.first - 1) (known.head.first + length recs - 1)) (ap length are.spelled)
          ∙ ap (λ (n : ℕ). Damaged (log_file log.number) (length (log_bytes (found_of log))) (n - 1) (known.head.first + length recs - 1)) (sym first_is)
          ∙ ap (λ (n : ℕ). Damaged (log_file log.number) (length (log_bytes (found_of log))) (follower.head.first - 1) (n + length recs - 1)) (sym begun);
    }))
before_breaks parts counts number bytes at known next log follower others recs stop behind fault are follows exact begun gives counted (inr (reaches, differs, named)) =
    let first_is : follower.head.first ≡ next.head.first = ap (λ (k : KnownLog). k.head.first) follows in
    inr (inr (inl (record {
      recs = recs;
      rest = drop stop bytes;
      begins = begins_at parts counts number bytes at log recs stop (behind_head bytes known log at are exact) gives.records;
      reaches = omega (arith, begun, reaches, first_is);
      other = λ continues. differs (λ part. ap (λ (k : KnownLog). get_or k.head.before part 0) (sym follows) ∙ continues part ∙ sym (counted part));
      named = named ∙ ap (λ (k : KnownLog). Malformed (log_file k.number) 0) (sym follows);
    })))

-- the next log follows
pub before_goes : (parts : ℕ) (counts : Counts) (number : ℕ) (bytes : List ℕ) (at : ℕ) (known next : KnownLog) (log follower : Log) (others : List Log) (recs : List Rec) (stop : ℕ) (behind : List ℕ) → AreOf bytes known log
    → log_known follower ≡ next → (31 + 8 * parts_of known.head ≤ length bytes → at ≡ 31 + 8 * parts_of known.head) → HasRecords parts counts number bytes at recs stop
    → number + length recs ≡ next.head.first → ((part : ℕ) → get_or behind part 0 ≡ counts_after counts recs part) → ((part : ℕ) → get_or next.head.before part 0 ≡ get_or behind part 0)
    → GoesOn parts counts number (log ∷ follower ∷ others) recs (follower ∷ others)
before_goes parts counts number bytes at known next log follower others recs stop behind are follows exact has reaches counted same =
    let begins = begins_at parts counts number bytes at log recs stop (behind_head bytes known log at are exact) has in
    let reached : number + length recs ≡ follower.head.first = reaches ∙ ap (λ (k : KnownLog). k.head.first) (sym follows) in
    let continues : Continues (counts_after counts recs) follower.head = λ part. ap (λ (k : KnownLog). get_or k.head.before part 0) follows ∙ same part ∙ counted part in
    record {
      gives = λ more gives. (recs, more, drop stop bytes, refl, begins, reached, continues, gives);
      refused = λ fault is. inr (inr (inr (recs, drop stop bytes, begins, reached, continues, is)));
    }

-- ---- known logs

-- the first of the logs that follow
follower_of : (others : List KnownLog) (next : KnownLog) (behind : List Log) → Some next ≡ slice_get others 0 → AreKnown others behind → (follower : Log) × (rest : List Log) × (behind ≡ follower ∷ rest) × (log_known follower ≡ next)
follower_of [] next behind is are = absurd (cc)
follower_of (first ∷ others) next [] is are = absurd (cc)
follower_of (first ∷ others) next (follower ∷ rest) is are = (follower, rest, refl, cc)

no_follower : (others : List KnownLog) (behind : List Log) → None ≡ slice_get others 0 → AreKnown others behind → behind ≡ []
no_follower [] [] is are = refl
no_follower [] (log ∷ logs) is are = absurd (cc)
no_follower (first ∷ others) behind is are = absurd (cc)

-- the logs that are known as these begin with one that is known as the first
pub first_known : (known : KnownLog) (others : List KnownLog) (logs : List Log) → AreKnown (known ∷ others) logs → (log : Log) × (behind : List Log) × (logs ≡ log ∷ behind) × (log_known log ≡ known) × AreKnown others behind
first_known known others [] are = absurd (cc)
first_known known others (log ∷ behind) are = (log, behind, refl, cc, cc)

heads_split : (log : Log) (logs : List Log) → HasHeads (log ∷ logs) → IsSoundHead log.head × HasHeads logs
heads_split log [] heads = (heads.0.0.1, (tt, tt))
heads_split log (next ∷ logs) heads = (heads.0.0.1, (heads.0.1, heads.1.2))

pub sound_first : (known : KnownLog) (others : List KnownLog) → AreSound (known ∷ others) → IsSoundHead known.head
sound_first known others (logs, are, heads) =
    let f = first_known known others logs are in
    subst (λ (k : KnownLog). IsSoundHead k.head) f.3 (heads_split f.0 f.1 (subst HasHeads f.2 heads)).0

pub sound_behind : (known : KnownLog) (others : List KnownLog) → AreSound (known ∷ others) → AreSound others
sound_behind known others (logs, are, heads) =
    let f = first_known known others logs are in
    (f.1, f.4, (heads_split f.0 f.1 (subst HasHeads f.2 heads)).1)

heads_next : (log next : Log) (logs : List Log) → HasHeads (log ∷ next ∷ logs) → (log.head.first ≤ next.head.first) × (next.head.first < 2 ^ 62)
heads_next log next logs heads = (heads.1.0, heads.0.1.0.1.first_is_kept)

pub sound_next : (known : KnownLog) (others : List KnownLog) (next : KnownLog) → Some next ≡ slice_get others 0 → AreSound (known ∷ others) → (known.head.first ≤ next.head.first) × (next.head.first < 2 ^ 62)
sound_next known others next is (logs, are, heads) =
    let f = first_known known others logs are in
    let n = follower_of others next f.1 is f.4 in
    let two : logs ≡ f.0 ∷ n.0 ∷ n.1 = f.2 ∙ ap (λ (ls : List Log). f.0 ∷ ls) n.2 in
    let fits = heads_next f.0 n.0 n.1 (subst HasHeads two heads) in
    let first_is = ap (λ (k : KnownLog). k.head.first) f.3 in
    let next_is = ap (λ (k : KnownLog). k.head.first) n.3 in (omega (arith, fits.0, first_is, next_is), omega (arith, fits.1, next_is))

-- what holds of the logs that begin with any that follow
pub with_follower : (P : List Log → Type 0) (others : List KnownLog) (next : KnownLog) (behind : List Log) → Some next ≡ slice_get others 0 → AreKnown others behind
    → ((follower : Log) (rest : List Log) → log_known follower ≡ next → P (follower ∷ rest)) → P behind
with_follower P others next behind is are all = let n = follower_of others next behind is are in subst P (sym n.2) (all n.0 n.1 n.3)

-- and of none
pub without_follower : (P : List Log → Type 0) (others : List KnownLog) (behind : List Log) → None ≡ slice_get others 0 → AreKnown others behind → P [] → P behind
without_follower P others behind is are none = subst P (sym (no_follower others behind is are)) none

-- ---- the logs that were read so far

-- nothing changed
pub stays_self : (view : View) → Stays view view
stays_self view =
    record { time = record { later = omega arith; nothing_else = λ t image at left. inl left; keeps = λ t image at left. left }; contents = refl; written = refl; images = λ image left. left }

-- no record was read yet
pub begins_first : (known : List KnownLog) (logs : List Log) (recs : List Rec) → recs ≡ [] → AreKnown known logs → BeginAt (first_of logs + length recs) known
begins_first [] logs recs none are = tt
begins_first (first ∷ others) logs recs none are =
    let f = first_known first others logs are in
    let is : first_of logs ≡ first.head.first = ap first_of f.2 ∙ ap (λ (k : KnownLog). k.head.first) f.3 in omega (arith, is, ap length none)

-- counts of the partitions are those behind these records
abbrev pub AreBehind : List ℕ → List ℕ → List Rec → Type 0
AreBehind low counts recs = (part : ℕ) → get_or counts part 0 ≡ counts_after (counts_in low) recs part

pub counts_more : (low counts now : List ℕ) (recs mine : List Rec) → AreBehind low counts recs → AreBehind counts now mine → AreBehind low now (recs ++ mine)
counts_more low counts now recs mine are more part =
    more part ∙ counts_after-same (counts_in counts) (counts_after (counts_in low) recs) mine are part ∙ ap (λ (c : Counts). c part) (sym (counts_after-append recs mine (counts_in low)))

pub order_more : (low counts : List ℕ) (first at : ℕ) (recs mine : List Rec) → AreBehind low counts recs → length counts ≡ length low → first + length recs ≡ at → InOrder (length low) (counts_in low) first recs
    → InOrder (length counts) (counts_in counts) at mine → InOrder (length low) (counts_in low) first (recs ++ mine)
order_more low counts first at recs mine are parts reached ordered more =
    InOrder-append (length low) (counts_in low) first recs mine ordered
    (InOrder-same (length low) (counts_in counts) (counts_after (counts_in low) recs) (first + length recs) mine are
    (subst (λ (n : ℕ). InOrder (length low) (counts_in counts) n mine) (sym reached)
    (subst (λ (n : ℕ). InOrder n (counts_in counts) at mine) parts more)))

pub goes_read : (low counts : List ℕ) (first at : ℕ) (logs : List Log) (recs : List Rec) (middle : List Log) (mine : List Rec) (behind : List Log) → AreBehind low counts recs → length counts ≡ length low
    → first + length recs ≡ at → GoesOn (length low) (counts_in low) first logs recs middle → GoesOn (length counts) (counts_in counts) at middle mine behind
    → GoesOn (length low) (counts_in low) first logs (recs ++ mine) behind
goes_read low counts first at logs recs middle mine behind are parts reached before goes =
    goes_more (length low) (counts_in low) first logs recs middle mine behind before
    (goes_same (length low) (counts_in counts) (counts_after (counts_in low) recs) (first + length recs) middle mine behind are
    (subst (λ (n : ℕ). GoesOn (length low) (counts_in counts) n middle mine behind) (sym reached)
    (subst (λ (n : ℕ). GoesOn n (counts_in counts) at middle mine behind) parts goes)))

-- a fault of the logs that are left is one of all
pub fault_read : (low counts : List ℕ) (first at : ℕ) (logs : List Log) (recs : List Rec) (middle : List Log) (fault : Fault) → AreBehind low counts recs → length counts ≡ length low → first + length recs ≡ at
    → GoesOn (length low) (counts_in low) first logs recs middle → IsStreamFault (length counts) (counts_in counts) at middle fault → IsStreamFault (length low) (counts_in low) first logs fault
fault_read low counts first at logs recs middle fault are parts reached before is =
    before.refused fault
    (IsStreamFault-same (length low) (counts_in counts) (counts_after (counts_in low) recs) (first + length recs) middle fault are
    (subst (λ (n : ℕ). IsStreamFault (length low) (counts_in counts) n middle fault) (sym reached)
    (subst (λ (n : ℕ). IsStreamFault n (counts_in counts) at middle fault) parts is)))

pub begins_more : (first at : ℕ) (recs mine : List Rec) (others : List KnownLog) → first + length recs ≡ at → BeginAt (at + length mine) others → BeginAt (first + length (recs ++ mine)) others
begins_more first at recs mine others reached begins =
    let is : at + length mine ≡ first + length (recs ++ mine) = omega (arith, reached, length-append recs mine) in subst (λ (n : ℕ). BeginAt n others) is begins

-- the logs that are left begin with this one
pub record Leads (image : Image) (known : KnownLog) (others : List KnownLog) (behind : List Log) : Type 0 where
  pub log : Log
  pub rest : List Log
  pub split : behind ≡ log ∷ rest
  pub known_as : log_known log ≡ known
  pub bytes : image (log_name known.number) ≡ Some (log_bytes (found_of log))
  pub others_are : AreKnown others rest
  pub stand : StandIn image rest

pub leads : (image : Image) (known : KnownLog) (others left : List KnownLog) (behind : List Log) → left ≡ known ∷ others → AreKnown left behind → StandIn image behind → Leads image known others behind
leads image known others left behind is are stand =
    let f = first_known known others behind (subst (λ (l : List KnownLog). AreKnown l behind) is are) in
    let all : StandIn image (f.0 ∷ f.1) = subst (StandIn image) f.2 stand in
    record {
      log = f.0;
      rest = f.1;
      split = f.2;
      known_as = f.3;
      bytes = ap (λ (k : KnownLog). image (log_name k.number)) (sym f.3) ∙ all.0;
      others_are = f.4;
      stand = all.1;
    }

-- it stands there
pub leads_stands : (image : Image) (known : KnownLog) (others : List KnownLog) (behind : List Log) (l : Leads image known others behind) → StandsAs image known l.log
leads_stands image known others behind l = (l.known_as, l.bytes)

is_some : {X : Type 0} (found : Option X) (x : X) → found ≡ Some x → IsSome found
is_some found x is = subst IsSome (sym is) refl

pub leads_there : (old now : Image) (known : KnownLog) (others : List KnownLog) (behind : List Log) → now ≡ old → Leads old known others behind → IsSome (now (log_name known.number))
leads_there old now known others behind same l =
    is_some (now (log_name known.number)) (log_bytes (found_of l.log)) (ap (λ (image : Image). image (log_name known.number)) same ∙ l.bytes)

-- the counts before the oldest log are told by what is known of it
low_known : (known : List KnownLog) (logs others : List Log) (part : ℕ) → AreKnown known logs → AreKnown known others → low_of logs part ≡ low_of others part
low_known known [] [] part are same = refl
low_known known [] (other ∷ others) part are same = absurd (cc)
low_known known (log ∷ logs) [] part are same = absurd (cc)
low_known known (log ∷ logs) (other ∷ others) part are same =
    let first : log_known log ≡ log_known other = first_same (log_known log) (log_known other) (map log_known logs) (map log_known others) (are ∙ sym same) in
    ap (λ (k : KnownLog). get_or k.head.before part 0) first
  where
    first_same : (k j : KnownLog) (ks js : List KnownLog) → k ∷ ks ≡ j ∷ js → k ≡ j
    first_same k j ks js is = cc

pub low_is : (known : List KnownLog) (low : List ℕ) → AreReady known low → (logs : List Log) → AreKnown known logs → Same (counts_in low) (low_of logs)
low_is known low ready logs are part = ready.low_is part ∙ low_known known ready.logs logs part ready.are are

-- no log is left
pub none_left : (left : List KnownLog) (behind : List Log) → length left ≡ 0 → AreKnown left behind → behind ≡ []
none_left [] [] none are = refl
none_left [] (log ∷ logs) none are = absurd (cc)
none_left (known ∷ left) behind none are = absurd (omega (arith, none))

pub stream_gives : (known : List KnownLog) (low : List ℕ) (logs : List Log) (recs : List Rec) (left : List KnownLog) (behind : List Log) → AreReady known low → AreKnown known logs → length left ≡ 0 → AreKnown left behind
    → GoesOn (length low) (counts_in low) (first_of logs) logs recs behind → Gives (length low) (low_of logs) (first_of logs) logs recs
stream_gives known low logs recs left behind ready are none rest goes =
    Gives-same (length low) (counts_in low) (low_of logs) (first_of logs) logs recs (low_is known low ready logs are)
    (goes_all (length low) (counts_in low) (first_of logs) logs recs (subst (GoesOn (length low) (counts_in low) (first_of logs) logs recs) (none_left left behind none rest) goes))

pub stream_refused : (known : List KnownLog) (low : List ℕ) (logs : List Log) (fault : Fault) → AreReady known low → AreKnown known logs → IsStreamFault (length low) (counts_in low) (first_of logs) logs fault
    → IsStreamFault (length low) (low_of logs) (first_of logs) logs fault
stream_refused known low logs fault ready are is = IsStreamFault-same (length low) (counts_in low) (low_of logs) (first_of logs) logs fault (low_is known low ready logs are) is

-- ---- causes

err_same : {T : Type 0} (fault failure : Fault) → IsErrOf {T = T} (Err fault) failure → fault ≡ failure
err_same fault failure is = cc

-- the cause of a call whose fault is handed on
pub cause_handed : {S T : Type 0} (before middle now : ℕ) (one : Result S Fault) (other : Result T Fault) (fault : Fault) → before ≤ middle → one ≡ Err fault → other ≡ Err fault → HasCause ReadFault middle now one
    → HasCause ReadFault before now other
cause_handed {S} {T} before middle now one other fault later is is' cause =
    cause_behind ReadFault before middle now other later
    (subst (HasCause ReadFault middle now) (sym is') (handed (subst (HasCause ReadFault middle now) is cause)))
  where
    handed : HasCause {T = S} ReadFault middle now (Err fault) → HasCause {T = T} ReadFault middle now (Err fault)
    handed c = record { later = c.later; failed = λ f. c.failed (subst (λ (e : Fault). IsErrOf {T = S} (Err fault) e) (err_same fault ReadFault f) refl) }

no_memory : NoMemory ≡ ReadFault → ⊥
no_memory is = cc

-- a fault that is none of reading needs no cause
pub no_read_fault : {T : Type 0} (before now : ℕ) (other : Result T Fault) (fault : Fault) → before ≤ now → other ≡ Err fault → (fault ≡ NoMemory) ⊎ IsLogFault fault → HasCause ReadFault before now other
no_read_fault {T} before now other fault later is kind = subst (HasCause ReadFault before now) (sym is) (record { later = later; failed = λ f. absurd (differs fault kind f) })
  where
    differs : (f : Fault) → (f ≡ NoMemory) ⊎ IsLogFault f → IsErrOf {T = T} (Err f) ReadFault → ⊥
    differs f (inl none) failed = absurd (no_memory (sym none ∙ err_same f ReadFault failed))
    differs f (inr refusal) failed = absurd (subst IsLogFault (err_same f ReadFault failed) refusal)
