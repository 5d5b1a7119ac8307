-- One record more, whose change is made of its partition.
use Rattle.std.proofs.Common.{◌≡◌, ◌≢◌, ℕ, ◌<◌, ◌⊎◌, inl, inr, Bool, true, false, cond, eqb, List, [], ◌∷◌, ◌++◌, length, map, set, refl, sym, ap, subst, ◌∙◌}
use Rattle.std.specs.List.{filter}
use Rattle.std.proofs.lemmas.Bool.Decides.{eqb_tells}
use Rattle.std.proofs.lemmas.List.{append-nil, map-append, get_or-set_same, get_or-set_other}
use Rattle.std.proofs.lemmas.List.Elements.{filter-append}
use Rattle.mg_model.specs.declared.calls.Change.{Change}
use Rattle.mg_model.specs.History.{after_change, after_changes}
use Rattle.mg_model.specs.Placed.{changes_at}
use Rattle.mg_model.specs.State.{new_state, State}
use Rattle.mg_wal_format.specs.declared.record.Rec.{Rec}
use Rattle.mg_recover.specs.declared.partition.Partition.{Partition}
use Rattle.mg_recover.specs.Made.{entries_of, states_after, AllMade, AreMade, MayMake}
use Rattle.mg_recover.specs.Replays.{replayed, AreReplayed}
use Rattle.mg_recover.specs.Stores.{new_partition, part_at}
use Rattle.mg_wal.specs.Book.{Entry}

changes_at-append : (xs ys : List Entry) (part : ℕ) → changes_at (xs ++ ys) part ≡ changes_at xs part ++ changes_at ys part
changes_at-append xs ys part =
    ap (map (λ (e : Entry). e.1)) (filter-append (λ (e : Entry). eqb e.0 part) xs ys)
    ∙ map-append (λ (e : Entry). e.1) (filter (λ (e : Entry). eqb e.0 part) xs) (filter (λ (e : Entry). eqb e.0 part) ys)

-- the change of a record, if it is of this partition
changes_push : (recs : List Rec) (rec : Rec) (part : ℕ) (own : Bool) → eqb rec.part part ≡ own
    → changes_at (entries_of (recs ++ rec ∷ [])) part ≡ changes_at (entries_of recs) part ++ cond own (rec.what ∷ []) []
changes_push recs rec part own is =
    ap (λ (es : List Entry). changes_at es part) (map-append (λ (r : Rec). (r.part, r.what)) recs (rec ∷ []))
    ∙ changes_at-append (entries_of recs) ((rec.part, rec.what) ∷ []) part
    ∙ ap (λ (b : Bool). changes_at (entries_of recs) part ++ map (λ (e : Entry). e.1) (cond b ((rec.part, rec.what) ∷ []) [])) is
    ∙ ap (λ (l : List Change). changes_at (entries_of recs) part ++ l) (one own)
  where
    one : (b : Bool) → map (λ (e : Entry). e.1) (cond b ((rec.part, rec.what) ∷ []) []) ≡ cond b (rec.what ∷ []) []
    one true = refl
    one false = refl

changes_own : (recs : List Rec) (rec : Rec) (part : ℕ) → eqb rec.part part ≡ true → changes_at (entries_of (recs ++ rec ∷ [])) part ≡ changes_at (entries_of recs) part ++ rec.what ∷ []
changes_own recs rec part own = changes_push recs rec part true own

changes_other : (recs : List Rec) (rec : Rec) (part : ℕ) → eqb rec.part part ≡ false → changes_at (entries_of (recs ++ rec ∷ [])) part ≡ changes_at (entries_of recs) part
changes_other recs rec part other = changes_push recs rec part false other ∙ append-nil (changes_at (entries_of recs) part)

AllMade-push : (s : State) (changes : List Change) (change : Change) → AllMade s changes → MayMake (after_changes s changes) change → AllMade s (changes ++ change ∷ [])
AllMade-push s [] change all may = (may, tt)
AllMade-push s (first ∷ changes) change all may = (all.0, AllMade-push (after_change s first) changes change all.1 may)

after_changes-push : (s : State) (changes : List Change) (change : Change) → after_changes s (changes ++ change ∷ []) ≡ after_change (after_changes s changes) change
after_changes-push s [] change = refl
after_changes-push s (first ∷ changes) change = after_changes-push (after_change s first) changes change

-- what may be made where records lead may be made behind them
pub made_push : (recs : List Rec) (rec : Rec) → AreMade (entries_of recs) → MayMake (states_after (entries_of recs) rec.part) rec.what → AreMade (entries_of (recs ++ rec ∷ []))
made_push recs rec made may part = by_part (eqb_tells rec.part part)
  where
    by_part : ((eqb rec.part part ≡ true) × (rec.part ≡ part)) ⊎ ((eqb rec.part part ≡ false) × (rec.part ≢ part)) → AllMade new_state (changes_at (entries_of (recs ++ rec ∷ [])) part)
    by_part (inl (own, same)) =
        subst (AllMade new_state) (sym (changes_own recs rec part own))
        (AllMade-push new_state (changes_at (entries_of recs) part) rec.what (made part) (subst (λ (p : ℕ). MayMake (states_after (entries_of recs) p) rec.what) same may))
    by_part (inr (other, differs)) = subst (AllMade new_state) (sym (changes_other recs rec part other)) (made part)

states_own : (recs : List Rec) (rec : Rec) (part : ℕ) → eqb rec.part part ≡ true → states_after (entries_of (recs ++ rec ∷ [])) part ≡ after_change (states_after (entries_of recs) part) rec.what
states_own recs rec part own = ap (after_changes new_state) (changes_own recs rec part own) ∙ after_changes-push new_state (changes_at (entries_of recs) part) rec.what

states_other : (recs : List Rec) (rec : Rec) (part : ℕ) → eqb rec.part part ≡ false → states_after (entries_of (recs ++ rec ∷ [])) part ≡ states_after (entries_of recs) part
states_other recs rec part other = ap (after_changes new_state) (changes_other recs rec part other)

-- the record's partition goes on, and each other stands where it stood
pub replayed_push : (parts : ℕ) (recs : List Rec) (rec : Rec) (partitions : List Partition) (new : Partition) → rec.part < length partitions → AreReplayed parts recs partitions
    → new ≡ replayed (recs ++ rec ∷ []) rec.part → AreReplayed parts (recs ++ rec ∷ []) (set partitions rec.part new)
replayed_push parts recs rec partitions new within are is part below = by_part (eqb_tells rec.part part)
  where
    by_part : ((eqb rec.part part ≡ true) × (rec.part ≡ part)) ⊎ ((eqb rec.part part ≡ false) × (rec.part ≢ part)) → part_at (set partitions rec.part new) part ≡ replayed (recs ++ rec ∷ []) part
    by_part (inl (own, same)) =
        subst (λ (p : ℕ). part_at (set partitions rec.part new) p ≡ replayed (recs ++ rec ∷ []) p) same (get_or-set_same partitions rec.part new new_partition within ∙ is)
    by_part (inr (other, differs)) =
        get_or-set_other partitions rec.part part new new_partition (λ (e : part ≡ rec.part). differs (sym e))
        ∙ are part below
        ∙ ap (λ (s : State). let p : Partition = record { plain = s; places = 0 } in p) (sym (states_other recs rec part other))

-- the record's partition, once its change is made of what these records led to
pub replayed_own : (recs : List Rec) (rec : Rec) (old new : Partition) → old ≡ replayed recs rec.part → new ≡ record { plain = after_change old.plain rec.what; places = old.places } → new ≡ replayed (recs ++ rec ∷ []) rec.part
replayed_own recs rec old new was is =
    is
    ∙ ap (λ (p : Partition). let q : Partition = record { plain = after_change p.plain rec.what; places = p.places } in q) was
    ∙ ap (λ (s : State). let p : Partition = record { plain = s; places = 0 } in p) (sym (states_own recs rec rec.part (same_part rec.part)))
  where
    same_part : (n : ℕ) → eqb n n ≡ true
    same_part n = by_tells (eqb_tells n n)
      where
        by_tells : ((eqb n n ≡ true) × (n ≡ n)) ⊎ ((eqb n n ≡ false) × (n ≢ n)) → eqb n n ≡ true
        by_tells (inl (yes_is, same)) = yes_is
        by_tells (inr (no_is, differs)) = absurd (differs refl)
