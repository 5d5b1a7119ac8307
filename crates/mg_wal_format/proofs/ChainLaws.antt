-- Logs one after another give one list of records.
use Rattle.std.proofs.Common.{◌≡◌, ℕ, suc, ◌+◌, ◌<◌, ◌^◌, ◌⊎◌, inl, inr, List, [], ◌∷◌, ◌++◌, length, map, refl, sym, ap, subst, ◌∙◌, arith, append_assoc}
use Rattle.mg_frame.specs.Frame.{frame, NoFrame}
use Rattle.mg_frame.specs.Frames.{frames}
use Rattle.mg_frame.proofs.FramesLaws.{same_frame}
use Rattle.mg_wal_format.specs.declared.record.Rec.{Rec}
use Rattle.mg_wal_format.specs.Logs.{counts_after, entry_of, one_more, Gives, InOrder}
use Rattle.mg_wal_format.specs.Records.{record_bytes, Counts}
use Rattle.mg_wal_format.specs.Opening.{OneListLaw}
use Rattle.mg_wal_format.proofs.SpellingLaws.{one_record}
use Rattle.mg_wal_format.proofs.TornLaws.{body_fits, entry_fits}

pub none_begins : (number : ℕ) (bytes : List ℕ) (rec : Rec) (tail : List ℕ) → NoFrame number bytes → rec.number ≡ number → length (record_bytes rec) < 2 ^ 32
    → bytes ≡ frame rec.number (record_bytes rec) ++ tail → ⊥
unfolding NoFrame
none_begins number bytes rec tail none numbered fits is = none (record_bytes rec) tail fits (is ∙ ap (λ (n : ℕ). frame n (record_bytes rec) ++ tail) numbered)

pub frames_first : (rec : Rec) (recs : List Rec) (rest : List ℕ) → frames (map entry_of (rec ∷ recs)) ++ rest ≡ frame rec.number (record_bytes rec) ++ (frames (map entry_of recs) ++ rest)
unfolding frames entry_of
frames_first rec recs rest = append_assoc (frame rec.number (record_bytes rec)) (frames (map entry_of recs)) rest

pub frames_none : (rest : List ℕ) → frames (map entry_of []) ++ rest ≡ rest
unfolding frames
frames_none rest = refl

-- two readings stop alike: behind as many records, or each where no frame of the next number begins
abbrev StopAlike : ℕ → ℕ → ℕ → List ℕ → List ℕ → Type 0
StopAlike number count other rest rest' = (count ≡ other) ⊎ (NoFrame (number + count) rest × NoFrame (number + other) rest')

stop_later : (number count other : ℕ) (rest rest' : List ℕ) → StopAlike number (suc count) (suc other) rest rest' → StopAlike (number + 1) count other rest rest'
stop_later number count other rest rest' (inl len) = inl (omega (arith, len))
stop_later number count other rest rest' (inr (none, none')) =
    inr (subst (λ (n : ℕ). NoFrame n rest) (omega arith) none, subst (λ (n : ℕ). NoFrame n rest') (omega arith) none')

-- two readings of the same bytes begin alike, and go on in the same bytes
pub first_read : (parts : ℕ) (counts : Counts) (number : ℕ) (rec other : Rec) (recs others : List Rec) (rest rest' : List ℕ) → InOrder parts counts number (rec ∷ recs) → InOrder parts counts number (other ∷ others)
    → frames (map entry_of (rec ∷ recs)) ++ rest ≡ frames (map entry_of (other ∷ others)) ++ rest'
    → (rec ≡ other) × InOrder parts (one_more counts rec.part) (number + 1) others × (frames (map entry_of recs) ++ rest ≡ frames (map entry_of others) ++ rest')
unfolding entry_of
first_read parts counts number rec other recs others rest rest' ordered ordered' same =
    let split = same_frame (entry_of rec) (entry_of other) (frames (map entry_of recs) ++ rest) (frames (map entry_of others) ++ rest')
    (entry_fits parts counts rec (omega (arith, ordered.0, ordered.1)) ordered.2) (entry_fits parts counts other (omega (arith, ordered'.0, ordered'.1)) ordered'.2)
    (sym (frames_first rec recs rest) ∙ same ∙ frames_first other others rest') in
    let first : rec ≡ other = one_record rec other ordered.2.fits ordered'.2.fits (ordered.0 ∙ sym ordered'.0) split.body in
    (first, subst (λ (r : Rec). InOrder parts (one_more counts r.part) (number + 1) others) (sym first) ordered'.3, split.after)

pub one_log : (parts : ℕ) (counts : Counts) (number : ℕ) (recs others : List Rec) (rest rest' : List ℕ) → InOrder parts counts number recs → InOrder parts counts number others
    → frames (map entry_of recs) ++ rest ≡ frames (map entry_of others) ++ rest' → StopAlike number (length recs) (length others) rest rest' → recs ≡ others
one_log parts counts number [] [] rest rest' ordered ordered' same stop = refl
one_log parts counts number [] (rec ∷ others) rest rest' ordered ordered' same (inl len) = absurd (omega (arith, len))
one_log parts counts number [] (rec ∷ others) rest rest' ordered ordered' same (inr (none, none')) =
    absurd (none_begins (number + 0) rest rec (frames (map entry_of others) ++ rest') none (omega (arith, ordered'.0)) (body_fits parts counts rec ordered'.2)
    (sym (frames_none rest) ∙ same ∙ frames_first rec others rest'))
one_log parts counts number (rec ∷ recs) [] rest rest' ordered ordered' same (inl len) = absurd (omega (arith, len))
one_log parts counts number (rec ∷ recs) [] rest rest' ordered ordered' same (inr (none, none')) =
    absurd (none_begins (number + 0) rest' rec (frames (map entry_of recs) ++ rest) none' (omega (arith, ordered.0)) (body_fits parts counts rec ordered.2)
    (sym (frames_none rest') ∙ sym same ∙ frames_first rec recs rest))
one_log parts counts number (rec ∷ recs) (other ∷ others) rest rest' ordered ordered' same stop =
    let first = first_read parts counts number rec other recs others rest rest' ordered ordered' same in
    let behind : recs ≡ others = one_log parts (one_more counts rec.part) (number + 1) recs others rest rest' ordered.3 first.1 first.2 (stop_later number (length recs) (length others) rest rest' stop) in
    ap (λ (r : Rec). r ∷ recs) first.0 ∙ ap (λ (rs : List Rec). other ∷ rs) behind

pub OneList : OneListLaw
OneList parts counts number [] recs others gives gives' = gives ∙ sym gives'
OneList parts counts number (log ∷ []) recs others gives gives' =
    one_log parts counts number recs others gives.0 gives'.0 gives.1.in_order gives'.1.in_order (sym gives.1.spelled ∙ gives'.1.spelled) (inr (gives.2, gives'.2))
OneList parts counts number (log ∷ next ∷ logs) recs others gives gives' =
    let mine : gives.0 ≡ gives'.0 = one_log parts counts number gives.0 gives'.0 gives.2 gives'.2 gives.4.in_order gives'.4.in_order (sym gives.4.spelled ∙ gives'.4.spelled)
    (inl (omega (arith, gives.5, gives'.5))) in
    let behind : gives.1 ≡ gives'.1 = OneList parts (counts_after counts gives.0) (number + length gives.0) (next ∷ logs) gives.1 gives'.1 gives.7
    (subst (λ (rs : List Rec). Gives parts (counts_after counts rs) (number + length rs) (next ∷ logs) gives'.1) (sym mine) gives'.7) in
    gives.3 ∙ ap (λ (rs : List Rec). rs ++ gives.1) mine ∙ ap (λ (rs : List Rec). gives'.0 ++ rs) behind ∙ sym gives'.3
