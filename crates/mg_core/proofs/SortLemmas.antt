-- Each flush, merge and cleaning has a result: what it keeps can be put in order.
use Rattle.std.proofs.Common.{◌≡◌, ◌≢◌, ◌⊎◌, inl, inr, ℕ, ◌<◌, ◌≤◌, List, [], ◌∷◌, ◌++◌, length, take, map, not, Some, refl, ap, subst, ◌∙◌, sym, arith}
use Rattle.std.specs.Cmp.Lexicographic.{slice_cmp}
use Rattle.std.specs.List.{AllByRecursion, filter}
use Rattle.std.specs.List.Sorted.{IsStrictlySortedBy}
use Rattle.std.specs.Ordering.{is_eq, nat_cmp, ordering_reverse}
use Rattle.std.specs.declared.cmp.Ordering.{Ordering}
use Rattle.std.specs.declared.cmp.Ordering.TheVariants.{Less, Equal, Greater}
use Rattle.std.proofs.lemmas.Bool.{cases_order}
use Rattle.std.proofs.lemmas.Cmp.{nat_list_cmp_total}
use Rattle.std.proofs.lemmas.List.{length-take}
use Rattle.std.proofs.lemmas.Map.Text.{is_eq-slice_cmp}
use Rattle.mg_types.specs.declared.items.Dead.{Dead}
use Rattle.mg_types.specs.declared.items.Entry.{Entry}
use Rattle.mg_types.specs.declared.items.Item.{Item}
use Rattle.mg_model.specs.Mutations.{Mutations, newest}
use Rattle.mg_core.specs.Lists.{Has, RisesBy, SameMembers, occurs, times}
use Rattle.mg_core.specs.Layouts.{IsRun, Layout, Run, Spans, Stands, dead_of, entries_of, entry_of, records_of}
use Rattle.mg_core.specs.Reads.{found}
use Rattle.mg_core.specs.Results.{Divides, IsClean, IsFlushOf, IsMerge, MayBeChosen, MayBeFlushed, MayBeMerged, fresh, is_kept}
use Rattle.mg_core.proofs.ListLemmas.{Ordered, all_left, all_right, from_filter, from_map, has_all, one_of_times, rises_cons, rises_left, rises_right, same_bytes, some_same, times_append, times_once, times_split}
use Rattle.mg_core.proofs.ItemLemmas.{item_within, late_of, newest_of, one_item}
use Rattle.mg_core.proofs.MergeLemmas.{entries_joined, spans_split}
use Rattle.mg_core.proofs.CleanLemmas.{records_joined}
use Rattle.mg_core.proofs.ReadLemmas.{kept_is_found, run_above, run_below}

-- one more member, at its place
inserted : {X : Type 0} (R : X → X → Type 0) → ((x y z : X) → R x y → R y z → R x z) → (x : X) (ys : List X) → ((y : X) → Has ys y → R x y ⊎ ((x ≡ y) ⊎ R y x)) → Ordered R ys
    → (zs : List X) × Ordered R zs × SameMembers zs (x ∷ ys)
inserted R trans x [] cases o = (x ∷ [], (λ y h. absurd h, tt), record { there = λ y h. h; back = λ y h. h })
inserted {X = X} R trans x (y ∷ ys) cases o = by_case (cases y (inl refl)) (inserted R trans x ys (λ z h. cases z (inr h)) o.1)
  where
    all_less : R x y → (z : X) → (y ≡ z) ⊎ Has ys z → R x z
    all_less r z (inl e) = subst (R x) e r
    all_less r z (inr h) = trans x y z r (o.0 z h)

    all_more : R y x → (z : X) → (x ≡ z) ⊎ Has ys z → R y z
    all_more r z (inl e) = subst (R y) e r
    all_more r z (inr h) = o.0 z h

    second : (z : X) → (x ≡ z) ⊎ Has ys z → (x ≡ z) ⊎ ((y ≡ z) ⊎ Has ys z)
    second z (inl e) = inl e
    second z (inr h) = inr (inr h)

    by_case : R x y ⊎ ((x ≡ y) ⊎ R y x) → (zs : List X) × Ordered R zs × SameMembers zs (x ∷ ys) → (zs : List X) × Ordered R zs × SameMembers zs (x ∷ y ∷ ys)
    by_case (inl r) rest = (x ∷ y ∷ ys, (all_less r, o), record { there = λ z h. h; back = λ z h. h })
    by_case (inr (inl e)) rest = (y ∷ ys, o, record { there = λ z h. inr h; back = λ z h. elim h [ inl k ↦ inl (sym e ∙ k) | inr k ↦ k ] })
    by_case (inr (inr r)) rest = (
      y ∷ rest.0,
      (λ z h. all_more r z (rest.2.there z h), rest.1),
      record {
        there = λ z h. elim h [ inl k ↦ inr (inl k) | inr k ↦ second z (rest.2.there z k) ];
        back = λ z h. elim h [ inl k ↦ inr (rest.2.back z (inl k)) | inr k ↦ elim k [ inl i ↦ inl i | inr i ↦ inr (rest.2.back z (inr i)) ] ];
      },
    )

-- the members of a list in order
in_order : {X : Type 0} (R : X → X → Type 0) → ((x y z : X) → R x y → R y z → R x z) → (xs : List X) → ((x y : X) → Has xs x → Has xs y → R x y ⊎ ((x ≡ y) ⊎ R y x))
    → (ys : List X) × Ordered R ys × SameMembers ys xs
in_order R trans [] cases = ([], tt, record { there = λ y h. h; back = λ y h. h })
in_order {X = X} R trans (x ∷ xs) cases =
    let rest = in_order R trans xs (λ y z h k. cases y z (inr h) (inr k)) in
    let more = inserted R trans x rest.0 (λ y h. cases x y (inl refl) (inr (rest.2.there y h))) rest.1 in (
      more.0,
      more.1,
      record {
        there = λ y h. elim (more.2.there y h) [ inl e ↦ inl e | inr k ↦ inr (rest.2.there y k) ];
        back = λ y h. more.2.back y (elim h [ inl e ↦ inl e | inr k ↦ inr (rest.2.back y k) ]);
      },
    )

-- entries by their keys

key_cases : (a b : List ℕ) → (slice_cmp nat_cmp a b ≡ Less) ⊎ ((a ≡ b) ⊎ (slice_cmp nat_cmp b a ≡ Less))
key_cases a b = by_order (slice_cmp nat_cmp a b) refl
  where
    by_order : (o : Ordering) → slice_cmp nat_cmp a b ≡ o → (slice_cmp nat_cmp a b ≡ Less) ⊎ ((a ≡ b) ⊎ (slice_cmp nat_cmp b a ≡ Less))
    by_order Less e = inl e
    by_order Equal e = inr (inl (same_bytes a b (sym (is_eq-slice_cmp a b) ∙ ap is_eq e)))
    by_order Greater e = inr (inr (nat_list_cmp_total.antisymm b a ∙ ap ordering_reverse e))

sorted_from_ordered : (es : List Entry) → Ordered (λ (e f : Entry). slice_cmp nat_cmp e.key f.key ≡ Less) es → IsStrictlySortedBy (slice_cmp nat_cmp) (map (λ (e : Entry). e.key) es)
unfolding IsStrictlySortedBy
sorted_from_ordered [] o = tt
sorted_from_ordered (e ∷ es) o = (
  has_all (λ (k : List ℕ). slice_cmp nat_cmp e.key k ≡ Less) (map (λ (e : Entry). e.key) es) (λ k h. let f = from_map (λ (e : Entry). e.key) es k h in subst (λ (k : List ℕ). slice_cmp nat_cmp e.key k ≡ Less) f.2 (o.0 f.0 f.1)),
  sorted_from_ordered es o.1,
)

by_keys : (es : List Entry) → ((e f : Entry) → Has es e → Has es f → e.key ≡ f.key → e ≡ f)
    → (fs : List Entry) × IsStrictlySortedBy (slice_cmp nat_cmp) (map (λ (e : Entry). e.key) fs) × SameMembers fs es
by_keys es one =
    let r = in_order (λ (e f : Entry). slice_cmp nat_cmp e.key f.key ≡ Less) (λ e f g. nat_list_cmp_total.trans e.key f.key g.key) es
    (λ e f h k. elim (key_cases e.key f.key) [ inl l ↦ inl l | inr q ↦ elim q [ inl s ↦ inr (inl (one e f h k s)) | inr l ↦ inr (inr l) ] ]) in
    (r.0, sorted_from_ordered r.0 r.1, r.2)

-- delete entries by their numbers

rises_from_ordered : (ds : List Dead) → Ordered (λ (d e : Dead). d.seq < e.seq) ds → RisesBy (λ (d : Dead). d.seq) ds
rises_from_ordered [] o = tt
rises_from_ordered (d ∷ ds) o = rises_cons (λ (d : Dead). d.seq) d ds o.0 (rises_from_ordered ds o.1)

by_numbers : (ds : List Dead) → ((d e : Dead) → Has ds d → Has ds e → d.seq ≡ e.seq → d ≡ e) → (es : List Dead) × RisesBy (λ (d : Dead). d.seq) es × SameMembers es ds
by_numbers ds one =
    let r = in_order (λ (d e : Dead). d.seq < e.seq) (λ d e f a b. omega (arith, a, b)) ds
    (λ d e h k. elim (cases_order d.seq e.seq) [ inl s ↦ inr (inl (one d e h k s)) | inr q ↦ elim q [ inl l ↦ inl l | inr l ↦ inr (inr l) ] ]) in
    (r.0, rises_from_ordered r.0 r.1, r.2)

-- results

pub flush_there : (items : List Item) (lo hi : ℕ) → MayBeFlushed items lo hi → (run : Run) × (segment : List Item) × IsFlushOf items lo hi run segment
flush_there items lo hi may =
    let es = by_keys (map entry_of items) one in (
      record { lo = lo; hi = hi; entries = es.0 },
      items,
      record {
        begins = refl;
        ends = refl;
        is_run = record { keys = es.1; within = λ e h. inside e (es.2.there e h) };
        entries = es.2;
        kept = refl;
      },
    )
  where
    one : (e f : Entry) → Has (map entry_of items) e → Has (map entry_of items) f → e.key ≡ f.key → e ≡ f
    one e f h k s =
        let i = from_map entry_of items e h in
        let j = from_map entry_of items f k in
        let key : i.0.key ≡ j.0.key = ap (λ (e : Entry). e.key) i.2 ∙ (s ∙ sym (ap (λ (e : Entry). e.key) j.2)) in
        sym i.2 ∙ (ap entry_of (may.keys i.0 j.0 i.1 j.1 key) ∙ j.2)

    inside : (e : Entry) → Has (map entry_of items) e → (lo < e.seq) × (e.seq ≤ hi)
    inside e h =
        let i = from_map entry_of items e h in
        let q = may.within i.0 i.1 in
        let s = ap (λ (e : Entry). e.seq) i.2 in
        (omega (arith, q.0, s), omega (arith, q.1, s))

pub merge_there : (inputs : List Run) (hi lo : ℕ) → MayBeMerged inputs hi lo → (run : Run) × (dead : List Dead) × IsMerge inputs run dead
merge_there inputs hi lo may =
    let kept = by_keys (filter (is_kept es) es) one_kept in
    let dead = by_numbers (map dead_of others) one_dead in (
      record { lo = lo; hi = hi; entries = kept.0 },
      dead.0,
      record {
        some = may.some;
        interval = may.interval;
        is_run = record { keys = kept.1; within = λ f h. let k = (from_filter (is_kept es) es f (kept.2.there f h)).0 in (run_above hi lo inputs f may.interval may.runs k, run_below hi lo inputs f may.interval may.runs k) };
        entries = kept.2;
        rising = dead.1;
        deletes = dead.2;
      },
    )
  where
    es : List Entry
    es = entries_of inputs

    others : List Entry
    others = filter (λ (e : Entry). not (is_kept es e)) es

    first : (f : Entry) → Has (filter (is_kept es) es) f → found inputs f.key ≡ Some f
    first f h = let q = from_filter (is_kept es) es f h in (kept_is_found hi lo inputs f may.interval may.runs q.0).0 q.1

    one_kept : (f g : Entry) → Has (filter (is_kept es) es) f → Has (filter (is_kept es) es) g → f.key ≡ g.key → f ≡ g
    one_kept f g h k key = some_same f g (sym (first f h) ∙ (ap (found inputs) key ∙ first g k))

    one_dead : (c d : Dead) → Has (map dead_of others) c → Has (map dead_of others) d → c.seq ≡ d.seq → c ≡ d
    one_dead c d h k n =
        let f = from_map dead_of others c h in
        let g = from_map dead_of others d k in
        let number : f.0.seq ≡ g.0.seq = ap (λ (d : Dead). d.seq) f.2 ∙ (n ∙ sym (ap (λ (d : Dead). d.seq) g.2)) in
        sym f.2 ∙ (ap dead_of (one_of_times (λ (e : Entry). e.seq) others f.0 g.0 (may.once f.0.seq) f.1 g.1 number) ∙ g.2)

pub clean_there : (records : List Item) (chosen : List Dead) → MayBeChosen chosen → (segment : List Item) × (rest : List Dead) × IsClean records chosen segment rest
clean_there records chosen once =
    let rest = by_numbers others one in
    (filter (λ (r : Item). not (occurs (λ (d : Dead). d.seq) chosen r.seq)) records, rest.0, record { kept = refl; rising = rest.1; deletes = rest.2 })
  where
    others : List Dead
    others = filter (λ (d : Dead). not (occurs (λ (r : Item). r.seq) records d.seq)) chosen

    among : (d : Dead) → Has others d → Has chosen d
    among d h = (from_filter (λ (d : Dead). not (occurs (λ (r : Item). r.seq) records d.seq)) chosen d h).0

    one : (c d : Dead) → Has others c → Has others d → c.seq ≡ d.seq → c ≡ d
    one c d h k n = one_of_times (λ (d : Dead). d.seq) chosen c d (once c.seq) (among c h) (among d k) n

-- what holds of the inputs over a layout that stands

pub fresh_may_flush : (m : Mutations) (lo hi : ℕ) → MayBeFlushed (fresh m lo hi) lo hi
fresh_may_flush m lo hi = record {
  within = λ i h. let q = late_of lo (take hi m) i h in (q.1, omega (arith, (item_within (take hi m) i (newest_of (take hi m) i q.0).0).1, length-take hi m));
  keys = λ i j h k s.
      let a = newest_of (take hi m) i (late_of lo (take hi m) i h).0 in
      let b = newest_of (take hi m) j (late_of lo (take hi m) j k).0 in
      one_item (take hi m) i j a.0 b.0 (sym a.1 ∙ (ap (newest (take hi m)) s ∙ b.1));
}

pub inputs_may_merge : (l : Layout) (m : Mutations) (newer inputs older : List Run) → Stands l m → l.runs ≡ newer ++ (inputs ++ older) → inputs ≢ [] → (hi : ℕ) × (lo : ℕ) × MayBeMerged inputs hi lo
inputs_may_merge l m newer inputs older s e some =
    let top = spans_split (length m) 0 newer (inputs ++ older) (subst (Spans (length m) 0) e s.intervals) in
    let mid = spans_split top.0 0 inputs older top.2 in
    (top.0, mid.0, record { some = some; runs = all_left IsRun inputs older (all_right IsRun newer (inputs ++ older) (subst (AllByRecursion IsRun) e s.runs)); interval = mid.1; once = once })
  where
    es : List Entry
    es = entries_of inputs

    parts : entries_of l.runs ≡ entries_of newer ++ (es ++ entries_of older)
    parts = ap entries_of e ∙ (entries_joined newer (inputs ++ older) ∙ ap (λ (gs : List Entry). entries_of newer ++ gs) (entries_joined inputs older))

    once : (n : ℕ) → times (λ (f : Entry). f.seq) n (filter (λ (f : Entry). not (is_kept es f)) es) ≤ 1
    once n =
        omega (
          arith,
          times_split (λ (f : Entry). f.seq) n (is_kept es) es,
          ap (times (λ (f : Entry). f.seq) n) parts,
          times_append (λ (f : Entry). f.seq) n (entries_of newer) (es ++ entries_of older),
          times_append (λ (f : Entry). f.seq) n es (entries_of older),
          s.agree.numbers n,
          times_once (λ (r : Item). r.seq) n (records_of l.segments) s.agree.rising,
        )

pub deletes_may_be_chosen : (l : Layout) (m : Mutations) (chosen others : List Dead) → Stands l m → Divides l.deletes chosen others → MayBeChosen chosen
deletes_may_be_chosen l m chosen others s parts n =
    omega (arith, parts.numbers n, times_append (λ (d : Dead). d.seq) n chosen others, s.agree.numbers n, times_once (λ (r : Item). r.seq) n (records_of l.segments) s.agree.rising)

pub inputs_rise : (l : Layout) (m : Mutations) (older inputs newer : List (List Item)) → Stands l m → l.segments ≡ older ++ (inputs ++ newer) → RisesBy (λ (r : Item). r.seq) (records_of inputs)
inputs_rise l m older inputs newer s e =
    rises_left (λ (r : Item). r.seq) (records_of inputs) (records_of newer)
    (rises_right (λ (r : Item). r.seq) (records_of older) (records_of inputs ++ records_of newer)
    (subst (RisesBy (λ (r : Item). r.seq)) (ap records_of e ∙ (records_joined older (inputs ++ newer) ∙ ap (λ (rs : List Item). records_of older ++ rs) (records_joined inputs newer))) s.agree.rising))
