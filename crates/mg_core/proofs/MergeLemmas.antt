-- A layout whose neighbouring runs were merged.
use Rattle.std.proofs.Common.{◌≡◌, ◌≢◌, inl, inr, ℕ, ◌+◌, ◌<◌, ◌≤◌, List, [], ◌∷◌, ◌++◌, length, map, true, not, refl, ap, subst, ◌∙◌, sym, arith}
use Rattle.std.specs.Cmp.Lexicographic.{slice_cmp}
use Rattle.std.specs.List.{AllByRecursion, filter}
use Rattle.std.specs.List.Sorted.{IsStrictlySortedBy}
use Rattle.std.specs.Ordering.{nat_cmp}
use Rattle.std.proofs.lemmas.Bool.{both_ways, cases_eq, eq-eqb, not-true}
use Rattle.std.proofs.lemmas.Grind.{flat_map-append}
use Rattle.mg_types.specs.declared.items.Dead.{Dead}
use Rattle.mg_types.specs.declared.items.Entry.{Entry}
use Rattle.mg_types.specs.declared.items.Item.{Item}
use Rattle.mg_model.specs.Mutations.{Mutations, items_of, live, newest}
use Rattle.mg_core.specs.Lists.{Has, RisesBy, SameMembers, Within, newest_by, times}
use Rattle.mg_core.specs.Layouts.{Agree, IsRun, Layout, Run, Spans, Stands, dead_of, entries_of, entry_of, records_of}
use Rattle.mg_core.specs.Results.{IsMerge, is_kept, with_merge}
use Rattle.mg_core.proofs.ListLemmas.{all_join, all_left, all_right, has_left, has_right, from_append, has_map, from_map, has_filter, from_filter, times_append, times_once, times_same, times_split, has_times, from_times, newest_upper, newest_least}
use Rattle.mg_core.proofs.ItemLemmas.{one_item, newest_of, at_most_newest}
use Rattle.mg_core.proofs.EntryLemmas.{mutation_of, once_by_key, one_entry}

-- the newest mutation of a key is the newest among any entries that have its own
pub live_is_kept : (es : List Entry) (m : Mutations) (i : Item) → Within es (map entry_of (items_of m)) → Has (live m) i → Has es (entry_of i) → is_kept es (entry_of i) ≡ true
live_is_kept es m i w h k =
    let above = newest_upper (λ (e : Entry). e.key) (λ (e : Entry). e.seq) es (entry_of i) i.key k refl in
    let below = newest_least (λ (e : Entry). e.key) (λ (e : Entry). e.seq) es i.key i.seq at_most in
    eq-eqb (newest_by (λ (e : Entry). e.key) (λ (e : Entry). e.seq) es i.key) i.seq (omega (arith, above, below))
  where
    at_most : (e : Entry) → Has es e → e.key ≡ i.key → e.seq ≤ i.seq
    at_most e q s =
        let j = mutation_of es m e w q in
        let key : j.0.key ≡ i.key = ap (λ (f : Entry). f.key) j.2 ∙ s in
        omega (arith, at_most_newest m j.0 j.1, ap (newest m) key, (newest_of m i h).1, ap (λ (f : Entry). f.seq) j.2)

pub agree_merged : (ns is os new : List Entry) (rs : List Item) (ds dead : List Dead) (m : Mutations) → Agree (ns ++ (is ++ os)) rs ds m
    → IsStrictlySortedBy (slice_cmp nat_cmp) (map (λ (e : Entry). e.key) new) → SameMembers new (filter (is_kept is) is)
    → RisesBy (λ (d : Dead). d.seq) dead → SameMembers dead (map dead_of (filter (λ (e : Entry). not (is_kept is e)) is))
    → Agree (ns ++ (new ++ os)) rs (dead ++ ds) m
agree_merged ns is os new rs ds dead m a keys same rise gone = record {
  entered = λ e h. a.entered e (old_of e h);
  newest = λ e h. let i = from_map entry_of (live m) e h in subst (Has (ns ++ (new ++ os))) i.2 (newest_there i.0 i.1);
  rising = a.rising;
  bound = a.bound;
  recorded = λ r e h k s. a.recorded r e h (old_of e k) s;
  numbers = λ n. omega (arith, a.numbers n, old_times n, new_times n, times_append (λ (d : Dead). d.seq) n dead ds, times_split (λ (e : Entry). e.seq) n (is_kept is) is, kept_numbers n, dead_numbers n);
  replaced = λ i d h k s. elim (from_append dead ds d k) [ inl b ↦ dead_replaced i d h b s | inr b ↦ a.replaced i d h b s ];
  sizes = λ d k. elim (from_append dead ds d k) [ inl b ↦ dead_size d b | inr b ↦ a.sizes d b ];
}
  where
    kept : List Entry
    kept = filter (is_kept is) is

    others : List Entry
    others = filter (λ (e : Entry). not (is_kept is e)) is

    among : (e : Entry) → Has is e → Has (ns ++ (is ++ os)) e
    among e h = has_right ns (is ++ os) e (has_left is os e h)

    old_of : (e : Entry) → Has (ns ++ (new ++ os)) e → Has (ns ++ (is ++ os)) e
    old_of e h = elim (from_append ns (new ++ os) e h) [
      | inl b ↦ has_left ns (is ++ os) e b
      | inr b ↦ elim (from_append new os e b) [
        | inl c ↦ among e (from_filter (is_kept is) is e (same.there e c)).0
        | inr c ↦ has_right ns (is ++ os) e (has_right is os e c)
      ]
    ]

    inputs_within : Within is (map entry_of (items_of m))
    inputs_within e h = a.entered e (among e h)

    newest_there : (i : Item) → Has (live m) i → Has (ns ++ (new ++ os)) (entry_of i)
    newest_there i h = elim (from_append ns (is ++ os) (entry_of i) (a.newest (entry_of i) (has_map entry_of (live m) i h))) [
      | inl b ↦ has_left ns (new ++ os) (entry_of i) b
      | inr b ↦ elim (from_append is os (entry_of i) b) [
        | inl c ↦ has_right ns (new ++ os) (entry_of i) (has_left new os (entry_of i) (same.back (entry_of i) (has_filter (is_kept is) is (entry_of i) c (live_is_kept is m i inputs_within h c))))
        | inr c ↦ has_right ns (new ++ os) (entry_of i) (has_right new os (entry_of i) c)
      ]
    ]

    old_times : (n : ℕ) → times (λ (e : Entry). e.seq) n (ns ++ (is ++ os)) ≡ times (λ (e : Entry). e.seq) n ns + (times (λ (e : Entry). e.seq) n is + times (λ (e : Entry). e.seq) n os)
    old_times n = omega (arith, times_append (λ (e : Entry). e.seq) n ns (is ++ os), times_append (λ (e : Entry). e.seq) n is os)

    new_times : (n : ℕ) → times (λ (e : Entry). e.seq) n (ns ++ (new ++ os)) ≡ times (λ (e : Entry). e.seq) n ns + (times (λ (e : Entry). e.seq) n new + times (λ (e : Entry). e.seq) n os)
    new_times n = omega (arith, times_append (λ (e : Entry). e.seq) n ns (new ++ os), times_append (λ (e : Entry). e.seq) n new os)

    inputs_once : (n : ℕ) → times (λ (e : Entry). e.seq) n is ≤ 1
    inputs_once n = omega (arith, a.numbers n, old_times n, times_once (λ (r : Item). r.seq) n rs a.rising)

    kept_numbers : (n : ℕ) → times (λ (e : Entry). e.seq) n kept ≡ times (λ (e : Entry). e.seq) n new
    kept_numbers n = times_same (λ (e : Entry). e.seq) (λ (e : Entry). e.seq) n kept new
        (omega (arith, inputs_once n, times_split (λ (e : Entry). e.seq) n (is_kept is) is))
        (once_by_key new n keys (λ e f h k s. one_entry new m e f (λ g q. a.entered g (among g (from_filter (is_kept is) is g (same.there g q)).0)) h k s))
        (λ e h s. (e, same.back e h, s)) (λ e h s. (e, same.there e h, s))

    dead_numbers : (n : ℕ) → times (λ (e : Entry). e.seq) n others ≡ times (λ (d : Dead). d.seq) n dead
    dead_numbers n = times_same (λ (e : Entry). e.seq) (λ (d : Dead). d.seq) n others dead
        (omega (arith, inputs_once n, times_split (λ (e : Entry). e.seq) n (is_kept is) is))
        (times_once (λ (d : Dead). d.seq) n dead rise)
        (λ e h s. (dead_of e, gone.back (dead_of e) (has_map dead_of others e h), s))
        (λ d h s. let e = from_map dead_of others d (gone.there d h) in (e.0, e.1, ap (λ (d : Dead). d.seq) e.2 ∙ s))

    dead_replaced : (i : Item) (d : Dead) → Has (live m) i → Has dead d → i.seq ≡ d.seq → ⊥
    dead_replaced i d h b s =
        let e = from_map dead_of others d (gone.there d b) in
        let f = from_filter (λ (e : Entry). not (is_kept is e)) is e.0 e.1 in
        let one = one_entry (ns ++ (is ++ os)) m (entry_of i) e.0 a.entered (a.newest (entry_of i) (has_map entry_of (live m) i h)) (among e.0 f.0) (s ∙ sym (ap (λ (d : Dead). d.seq) e.2)) in
        let there = subst (Has is) (sym one) f.0 in
        both_ways (is_kept is e.0) (not-true (is_kept is e.0) f.1) (subst (λ (g : Entry). is_kept is g ≡ true) one (live_is_kept is m i inputs_within h there))

    dead_size : (d : Dead) → Has dead d → Has (map (λ (r : Item). dead_of (entry_of r)) rs) d
    dead_size d b =
        let e = from_map dead_of others d (gone.there d b) in
        let old = among e.0 (from_filter (λ (e : Entry). not (is_kept is e)) is e.0 e.1).0 in
        let r = from_times (λ (r : Item). r.seq) e.0.seq rs (omega (arith, a.numbers e.0.seq, has_times (λ (e : Entry). e.seq) e.0.seq (ns ++ (is ++ os)) e.0 old refl)) in
        let j = mutation_of (ns ++ (is ++ os)) m e.0 a.entered old in
        let one = one_item m r.0 j.0 (a.recorded r.0 e.0 r.1 old r.2) j.1 (r.2 ∙ sym (ap (λ (f : Entry). f.seq) j.2)) in
        subst (Has (map (λ (r : Item). dead_of (entry_of r)) rs)) (ap (λ (i : Item). dead_of (entry_of i)) one ∙ (ap dead_of j.2 ∙ e.2)) (has_map (λ (r : Item). dead_of (entry_of r)) rs r.0 r.1)

-- intervals

pub spans_split : (hi lo : ℕ) (xs ys : List Run) → Spans hi lo (xs ++ ys) → (mid : ℕ) × Spans hi mid xs × Spans mid lo ys
spans_split hi lo [] ys s = (hi, refl, s)
spans_split hi lo (x ∷ xs) ys s = let r = spans_split x.lo lo xs ys s.2 in (r.0, (s.0, s.1, r.1), r.2)

pub spans_join : (hi mid lo : ℕ) (xs ys : List Run) → Spans hi mid xs → Spans mid lo ys → Spans hi lo (xs ++ ys)
spans_join hi mid lo [] ys s t = subst (λ (k : ℕ). Spans k lo ys) (sym s) t
spans_join hi mid lo (x ∷ xs) ys s t = (s.0, s.1, spans_join x.lo mid lo xs ys s.2 t)

spans_low : (hi lo low : ℕ) (xs : List Run) → Spans hi lo xs → Spans hi low xs → lo ≡ low
spans_low hi lo low [] s t = sym s ∙ t
spans_low hi lo low (x ∷ xs) s t = spans_low x.lo lo low xs s.2 t.2

pub spans_fall : (hi lo : ℕ) (xs : List Run) → Spans hi lo xs → lo ≤ hi
spans_fall hi lo [] s = omega (arith, s)
spans_fall hi lo (x ∷ xs) s = omega (arith, s.0, s.1, spans_fall x.lo lo xs s.2)

-- runs that are there have one interval, and it is not empty
pub spans_one : (hi lo high low : ℕ) (xs : List Run) → xs ≢ [] → Spans hi lo xs → Spans high low xs → (hi ≡ high) × (lo ≡ low) × (lo < hi)
spans_one hi lo high low [] some s t = absurd (some refl)
spans_one hi lo high low (x ∷ xs) some s t = (sym s.0 ∙ t.0, spans_low x.lo lo low xs s.2 t.2, omega (arith, s.0, s.1, spans_fall x.lo lo xs s.2))

-- Runs that are neighbours and are all among those of a layout that stands are neighbours there: the interval behind each begins one
-- that no other run has.

span_within : (hi lo : ℕ) (runs : List Run) (r : Run) → Spans hi lo runs → Has runs r → r.hi ≤ hi
span_within hi lo [] r s h = absurd h
span_within hi lo (x ∷ xs) r s (inl e) = omega (arith, ap (λ (r : Run). r.hi) e, s.0)
span_within hi lo (x ∷ xs) r s (inr h) = omega (arith, span_within x.lo lo xs r s.2 h, s.0, s.1)

front_runs : (hi lo : ℕ) (runs inputs : List Run) → Spans hi 0 runs → Spans hi lo inputs → Within inputs runs → (older : List Run) × (runs ≡ inputs ++ older)
front_runs hi lo runs [] s t w = (runs, refl)
front_runs hi lo [] (x ∷ xs) s t w = absurd (w x (inl refl))
front_runs hi lo (r ∷ rs) (x ∷ xs) s t w =
    let rest = front_runs r.lo lo rs xs s.2 (subst (λ (k : ℕ). Spans k lo xs) (sym (ap (λ (r : Run). r.lo) first)) t.2) behind in
    (rest.0, ap (λ (z : Run). z ∷ rs) first ∙ ap (λ (zs : List Run). x ∷ zs) rest.1)
  where
    first : r ≡ x
    first = elim (w x (inl refl)) [ inl e ↦ e | inr h ↦ absurd (omega (arith, span_within r.lo 0 rs x s.2 h, s.0, s.1, t.0)) ]

    behind : Within xs rs
    behind y h = elim (w y (inr h)) [
      | inl e ↦ absurd (omega (arith, ap (λ (r : Run). r.hi) e, span_within x.lo lo xs y t.2 h, s.0, t.0, t.1))
      | inr k ↦ k
    ]

pub inputs_are_neighbours : (top hi lo : ℕ) (runs inputs : List Run) → Spans top 0 runs → inputs ≢ [] → Spans hi lo inputs → Within inputs runs
    → (newer : List Run) × (older : List Run) × (runs ≡ newer ++ (inputs ++ older))
inputs_are_neighbours top hi lo runs [] s some t w = absurd (some refl)
inputs_are_neighbours top hi lo [] (x ∷ xs) s some t w = absurd (w x (inl refl))
inputs_are_neighbours top hi lo (r ∷ rs) (x ∷ xs) s some t w = elim (cases_eq r.hi hi) [
  | inl e ↦ let front = front_runs hi lo (r ∷ rs) (x ∷ xs) (e, s.1, s.2) t w in ([], front.0, front.1)
  | inr ne ↦ let rest = inputs_are_neighbours r.lo hi lo rs (x ∷ xs) s.2 some t (behind ne) in (r ∷ rest.0, rest.1, ap (λ (zs : List Run). r ∷ zs) rest.2)
]
  where
    below : (r.hi ≡ hi → ⊥) → hi ≤ r.lo
    below ne = elim (w x (inl refl)) [ inl e ↦ absurd (ne (ap (λ (r : Run). r.hi) e ∙ t.0)) | inr h ↦ omega (arith, span_within r.lo 0 rs x s.2 h, t.0) ]

    behind : (r.hi ≡ hi → ⊥) → Within (x ∷ xs) rs
    behind ne y h = elim (w y h) [
      | inl e ↦ absurd (omega (arith, ap (λ (r : Run). r.hi) e, span_within hi lo (x ∷ xs) y t h, below ne, s.1))
      | inr k ↦ k
    ]

pub entries_joined : (xs ys : List Run) → entries_of (xs ++ ys) ≡ entries_of xs ++ entries_of ys
entries_joined xs ys = flat_map-append (λ (r : Run). r.entries) xs ys

pub merge_stands : (l : Layout) (m : Mutations) (newer inputs older : List Run) (run : Run) (dead : List Dead) → Stands l m → l.runs ≡ newer ++ (inputs ++ older)
    → IsMerge inputs run dead → Stands (with_merge l newer run older dead) m
merge_stands l m newer inputs older run dead s e f =
    let runs = subst (AllByRecursion IsRun) e s.runs in
    let top = spans_split (length m) 0 newer (inputs ++ older) (subst (Spans (length m) 0) e s.intervals) in
    let rest = spans_split top.0 0 inputs older top.2 in
    let ends = spans_one run.hi run.lo top.0 rest.0 inputs f.some f.interval rest.1 in
    record {
      runs = all_join IsRun newer (run ∷ older) (all_left IsRun newer (inputs ++ older) runs) (f.is_run, all_right IsRun inputs older (all_right IsRun newer (inputs ++ older) runs));
      intervals = spans_join (length m) top.0 0 newer (run ∷ older) top.1 (ends.0, ends.2, subst (λ (k : ℕ). Spans k 0 older) (sym ends.1) rest.2);
      agree = subst (λ (es : List Entry). Agree es (records_of l.segments) (dead ++ l.deletes) m) (sym (entries_joined newer (run ∷ older)))
          (agree_merged (entries_of newer) (entries_of inputs) (entries_of older) run.entries (records_of l.segments) l.deletes dead m
          (subst (λ (es : List Entry). Agree es (records_of l.segments) l.deletes m) (ap entries_of e ∙ (entries_joined newer (inputs ++ older) ∙ ap (λ (es : List Entry). entries_of newer ++ es) (entries_joined inputs older))) s.agree)
          f.is_run.keys f.entries f.rising f.deletes);
    }
