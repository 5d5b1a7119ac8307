-- Records of a log, read one after another.
use Rattle.std.proofs.Common.{◌≡◌, ◌≢◌, ℕ, ◌+◌, ◌<◌, ◌≤◌, ◌^◌, ◌⊎◌, inl, inr, eqb, Bool, true, false, if◌then◌else◌, List, [], ◌∷◌, ◌++◌, length, map, drop, get_or, set, refl, sym, ap, subst, ◌∙◌, arith, append_assoc}
use Rattle.std.proofs.lemmas.Bool.Decides.{eqb_tells}
use Rattle.std.proofs.lemmas.List.{append-nil, length-append, length-drop, map-append, get_or-set_same, get_or-set_other}
use Rattle.std.specs.List.{slice_range}
use Rattle.mg_frame.specs.Frame.{frame, IsFrameAt}
use Rattle.mg_frame.specs.Frames.{frames}
use Rattle.mg_frame.proofs.FramesLaws.{frames-append}
use Rattle.mg_types.specs.declared.faults.Fault.{Fault}
use Rattle.mg_types.specs.declared.names.FileId.{FileId}
use Rattle.mg_wal_format.specs.declared.record.Rec.{Rec}
use Rattle.mg_wal_format.specs.Faults.{record_fault, IsRecordRefused}
use Rattle.mg_wal_format.specs.Judging.{HasNextAt, HasRecords, HasRefusedAt, IsLogRefused}
use Rattle.mg_wal_format.specs.Logs.{counts_after, entry_of, one_more, InOrder}
use Rattle.mg_wal_format.specs.Records.{Counts, counts_in, record_bytes, IsNext}

-- ---- counts

pub counts_after-append : (recs more : List Rec) (counts : Counts) → counts_after counts (recs ++ more) ≡ counts_after (counts_after counts recs) more
counts_after-append [] more counts = refl
counts_after-append (rec ∷ recs) more counts = counts_after-append recs more (one_more counts rec.part)

-- the count of one partition is raised
one_raised : (i part : ℕ) (xs : List ℕ) (n : ℕ) → ((eqb i part ≡ true) × (i ≡ part)) ⊎ ((eqb i part ≡ false) × (i ≢ part)) → part < length xs → n ≡ get_or xs part 0 + 1
    → get_or (set xs part n) i 0 ≡ (if eqb i part then get_or xs i 0 + 1 else get_or xs i 0)
one_raised i part xs n (inl (is_same, same)) within is =
    subst (λ (t : Bool). get_or (set xs part n) i 0 ≡ (if t then get_or xs i 0 + 1 else get_or xs i 0)) (sym is_same)
    (subst (λ (j : ℕ). get_or (set xs part n) j 0 ≡ get_or xs j 0 + 1) (sym same) (get_or-set_same xs part n 0 within ∙ is))
one_raised i part xs n (inr (differs, other)) within is =
    subst (λ (t : Bool). get_or (set xs part n) i 0 ≡ (if t then get_or xs i 0 + 1 else get_or xs i 0)) (sym differs) (get_or-set_other xs part i n 0 other)

-- counts that stand for those behind some records stand for those behind one more
pub counts-push : (xs : List ℕ) (counts : Counts) (recs : List Rec) (rec : Rec) → ((part : ℕ) → get_or xs part 0 ≡ counts_after counts recs part) → IsNext (length xs) (counts_in xs) rec
    → (part : ℕ) → get_or (set xs rec.part rec.change) part 0 ≡ counts_after counts (recs ++ rec ∷ []) part
counts-push xs counts recs rec are next part =
    one_raised part rec.part xs rec.change (eqb_tells part rec.part) next.part next.change
    ∙ ap (λ (n : ℕ). if eqb part rec.part then n + 1 else n) (are part)
    ∙ ap (λ (c : Counts). c part) (sym (counts_after-append recs (rec ∷ []) counts))

pub IsNext-same : (parts : ℕ) (counts others : Counts) (rec : Rec) → ((part : ℕ) → counts part ≡ others part) → IsNext parts counts rec → IsNext parts others rec
IsNext-same parts counts others rec same next =
    record { fits = next.fits; part = next.part; change = next.change ∙ ap (λ (n : ℕ). n + 1) (same rec.part); change_is_kept = next.change_is_kept; mark_is_kept = next.mark_is_kept }

record_fault-same : (file : FileId) (at parts : ℕ) (counts others : Counts) (rec : Rec) → counts rec.part ≡ others rec.part → record_fault file at parts counts rec ≡ record_fault file at parts others rec
record_fault-same file at parts counts others rec same = ap (λ (n : ℕ). record_fault file at parts (λ _. n) rec) same

pub IsRecordRefused-same : (file : FileId) (at parts : ℕ) (counts others : Counts) (body : List ℕ) (fault : Fault) → ((part : ℕ) → counts part ≡ others part)
    → IsRecordRefused file at parts counts body fault → IsRecordRefused file at parts others body fault
IsRecordRefused-same file at parts counts others body fault same (inl none) = inl none
IsRecordRefused-same file at parts counts others body fault same (inr (rec, fits, is, why)) =
    inr (rec, fits, is, sym (record_fault-same file at parts counts others rec (same rec.part)) ∙ why)

pub HasRefusedAt-same : (file : FileId) (base parts : ℕ) (counts others : Counts) (bytes : List ℕ) (at number : ℕ) (fault : Fault) → ((part : ℕ) → counts part ≡ others part)
    → HasRefusedAt file base parts counts bytes at number fault → HasRefusedAt file base parts others bytes at number fault
HasRefusedAt-same file base parts counts others bytes at number fault same has =
    record { body = has.body; rest = has.rest; body_fits = has.body_fits; spelled = has.spelled; why = IsRecordRefused-same file (base + at) parts counts others has.body fault same has.why }

-- ---- one record more

InOrder-push : (parts : ℕ) (counts : Counts) (number : ℕ) (recs : List Rec) (rec : Rec) → InOrder parts counts number recs → rec.number ≡ number + length recs
    → number + length recs < 2 ^ 62 → IsNext parts (counts_after counts recs) rec → InOrder parts counts number (recs ++ rec ∷ [])
InOrder-push parts counts number [] rec ordered numbered kept next = (omega (arith, numbered), omega (arith, kept), next, tt)
InOrder-push parts counts number (first ∷ recs) rec ordered numbered kept next =
    (ordered.0, ordered.1, ordered.2, InOrder-push parts (one_more counts first.part) (number + 1) recs rec ordered.3 (omega (arith, numbered)) (omega (arith, kept)) next)

pub frames-last : (recs : List Rec) (rec : Rec) → frames (map entry_of (recs ++ rec ∷ [])) ≡ frames (map entry_of recs) ++ frame rec.number (record_bytes rec)
unfolding frames entry_of
frames-last recs rec =
    ap frames (map-append entry_of recs (rec ∷ [])) ∙ frames-append (map entry_of recs) (entry_of rec ∷ [])
    ∙ ap (λ (l : List ℕ). frames (map entry_of recs) ++ l) (append-nil (frame rec.number (record_bytes rec)))

pub HasRecords-none : (parts : ℕ) (counts : Counts) (number : ℕ) (bytes : List ℕ) (at : ℕ) → at ≤ length bytes → HasRecords parts counts number bytes at [] at
unfolding frames
HasRecords-none parts counts number bytes at within = record { begins = record { in_order = tt; spelled = refl }; behind = omega arith; within = within }

pub HasRecords-push : (parts : ℕ) (counts : Counts) (number : ℕ) (bytes : List ℕ) (at stop : ℕ) (recs : List Rec) (rec : Rec) (next : ℕ) → HasRecords parts counts number bytes at recs stop
    → number + length recs < 2 ^ 62 → HasNextAt parts (counts_after counts recs) bytes stop (number + length recs) rec next → HasRecords parts counts number bytes at (recs ++ rec ∷ []) next
HasRecords-push parts counts number bytes at stop recs rec next has kept one =
    let one_frame : frame (number + length recs) (record_bytes rec) ≡ frame rec.number (record_bytes rec) = ap (λ (n : ℕ). frame n (record_bytes rec)) (sym one.numbered) in
    record {
      begins = record {
        in_order = InOrder-push parts counts number recs rec has.begins.in_order one.numbered kept one.is_next;
        spelled = has.begins.spelled ∙ ap (λ (l : List ℕ). frames (map entry_of recs) ++ l) (one.spelled ∙ ap (λ (l : List ℕ). l ++ drop next bytes) one_frame)
            ∙ sym (append_assoc (frames (map entry_of recs)) (frame rec.number (record_bytes rec)) (drop next bytes)) ∙ ap (λ (l : List ℕ). l ++ drop next bytes) (sym (frames-last recs rec));
      };
      behind = omega (arith, has.behind, one.behind, ap length one_frame, ap length (frames-last recs rec), length-append (frames (map entry_of recs)) (frame rec.number (record_bytes rec)));
      within = one.within;
    }

-- the same with counts that are alike
pub HasNextAt-same : (parts : ℕ) (counts others : Counts) (bytes : List ℕ) (at number : ℕ) (rec : Rec) (next : ℕ) → ((part : ℕ) → counts part ≡ others part)
    → HasNextAt parts counts bytes at number rec next → HasNextAt parts others bytes at number rec next
HasNextAt-same parts counts others bytes at number rec next same has =
    record { numbered = has.numbered; is_next = IsNext-same parts counts others rec same has.is_next; spelled = has.spelled; behind = has.behind; within = has.within }

-- a whole frame whose body is that of the next record
pub next_stands : (parts : ℕ) (counts : Counts) (bytes : List ℕ) (at number start end next : ℕ) (rec : Rec) → at ≤ length bytes → IsFrameAt bytes at number start end next
    → rec.number ≡ number → IsNext parts counts rec → slice_range bytes start end ≡ record_bytes rec → HasNextAt parts counts bytes at number rec next
next_stands parts counts bytes at number start end next rec within f numbered is_next is =
    let spelled : drop at bytes ≡ frame number (record_bytes rec) ++ drop next bytes = f.spelled ∙ ap (λ (b : List ℕ). frame number b ++ drop next bytes) is in
    record {
      numbered = numbered;
      is_next = is_next;
      spelled = spelled;
      behind = omega (arith, ap length spelled, length-append (frame number (record_bytes rec)) (drop next bytes), length-drop at bytes, length-drop next bytes, f.within, within);
      within = f.within;
    }

-- the next record behind records that were read and counted
pub read_more : (counts now : List ℕ) (first number : ℕ) (bytes : List ℕ) (at stop : ℕ) (recs : List Rec) (rec : Rec) (next : ℕ) → HasRecords (length counts) (counts_in counts) first bytes at recs stop
    → ((part : ℕ) → get_or now part 0 ≡ counts_after (counts_in counts) recs part) → length now ≡ length counts → first + length recs ≡ number → number < 2 ^ 62
    → HasNextAt (length now) (counts_in now) bytes stop number rec next → HasRecords (length counts) (counts_in counts) first bytes at (recs ++ rec ∷ []) next
read_more counts now first number bytes at stop recs rec next has are parts numbers kept one =
    HasRecords-push (length counts) (counts_in counts) first bytes at stop recs rec next has (omega (arith, numbers, kept))
    (HasNextAt-same (length counts) (counts_in now) (counts_after (counts_in counts) recs) bytes stop (first + length recs) rec next are
    (subst (λ (n : ℕ). HasNextAt (length counts) (counts_in now) bytes stop n rec next) (sym numbers)
    (subst (λ (n : ℕ). HasNextAt n (counts_in now) bytes stop number rec next) parts one)))

-- a refusal behind records that were read and counted
pub refused_behind : (file : FileId) (base : ℕ) (counts now : List ℕ) (first number limit : ℕ) (bytes : List ℕ) (at stop : ℕ) (recs : List Rec) (fault : Fault)
    → HasRecords (length counts) (counts_in counts) first bytes at recs stop → ((part : ℕ) → get_or now part 0 ≡ counts_after (counts_in counts) recs part) → length now ≡ length counts
    → first + length recs ≡ number → number < limit → HasRefusedAt file base (length now) (counts_in now) bytes stop number fault → IsLogRefused file base (length counts) (counts_in counts) first limit bytes at fault
refused_behind file base counts now first number limit bytes at stop recs fault has are parts numbers below one =
    record {
      recs = recs;
      stop = stop;
      records = has;
      below = omega (arith, numbers, below);
      refused = HasRefusedAt-same file base (length counts) (counts_in now) (counts_after (counts_in counts) recs) bytes stop (first + length recs) fault are
          (subst (λ (n : ℕ). HasRefusedAt file base (length counts) (counts_in now) bytes stop n fault) (sym numbers)
          (subst (λ (n : ℕ). HasRefusedAt file base n (counts_in now) bytes stop number fault) parts one));
    }
