-- The layouts that a partition keeps, under changes and jobs.
use Rattle.std.proofs.Common.{◌≡◌, inl, inr, ℕ, ◌+◌, ◌<◌, ◌≤◌, List, [], ◌∷◌, ◌++◌, take, map, Bool, true, false, not, ◌==◌, nat_le, Some, refl, ap, subst, sym, arith}
use Rattle.std.specs.Bool.{if◌then◌else◌}
use Rattle.std.specs.List.{filter}
use Rattle.std.proofs.lemmas.Bool.{cases_lt, le-leb, leb-true}
use Rattle.std.proofs.lemmas.List.{length-take-le, length_push, take-append-le, take-take}
use Rattle.mg_types.specs.declared.items.Dead.{Dead}
use Rattle.mg_types.specs.declared.items.Item.{Item}
use Rattle.mg_model.specs.declared.mutations.Mutation.{Mutation}
use Rattle.mg_model.specs.State.{State, after_back, after_clear, after_forget, after_mark, after_write, is_mark, length_of, marks_of, new_state}
use Rattle.mg_core.specs.Lists.{Has, Within}
use Rattle.mg_core.specs.Layouts.{Layout, Run, Stands, empty_layout, records_of}
use Rattle.mg_core.specs.Keeping.{Holds, Keeps}
use Rattle.mg_core.specs.Results.{Divides, IsClean, IsFlush, IsMerge, with_clean, with_flush, with_merge}
use Rattle.mg_core.proofs.ListLemmas.{above_first, from_append, from_filter, from_map, has_filter, has_left, has_map, has_right, rises_cons, rises_filter, rises_join}
use Rattle.mg_core.proofs.FlushLemmas.{flush_stands}
use Rattle.mg_core.proofs.MergeLemmas.{merge_stands}
use Rattle.mg_core.proofs.CleanLemmas.{clean_stands}
use Rattle.mg_core.proofs.ResultLemmas.{empty_stands}

-- a list with the same first places, up to those that are in files
keeps_front : (l : Layout) (kept : List (ℕ × Layout)) (flushed : ℕ) (s t : State) → Keeps l kept flushed s → flushed ≤ length_of t
    → ((c : ℕ) → c ≤ flushed → take c t.mutations ≡ take c s.mutations) → ((mark : ℕ) → Has (marks_of t) mark → mark ≤ flushed → Has (map (λ (k : ℕ × Layout). k.0) kept) mark)
    → Keeps l kept flushed t
keeps_front l kept flushed s t h long same whole = record {
  within = long;
  present = subst (Stands l) (sym (same flushed (omega arith))) h.present;
  low = h.low;
  marked = λ k b. subst (Stands k.1) (sym (same k.0 (h.low k b))) (h.marked k b);
  whole = whole;
}

-- changes

pub keeps_write : (l : Layout) (kept : List (ℕ × Layout)) (flushed : ℕ) (s : State) (x : Mutation) → Keeps l kept flushed s → Keeps l kept flushed (after_write s x)
keeps_write l kept flushed s x h =
    keeps_front l kept flushed s (after_write s x) h (omega (arith, h.within, length_push s.mutations (Some x)))
    (λ c b. take-append-le c s.mutations (Some x ∷ []) (omega (arith, b, h.within))) h.whole

pub keeps_mark : (l : Layout) (kept : List (ℕ × Layout)) (flushed : ℕ) (s : State) → Keeps l kept flushed s → (length_of s ≤ flushed → Has (map (λ (k : ℕ × Layout). k.0) kept) (length_of s))
    → Keeps l kept flushed (after_mark s)
keeps_mark l kept flushed s h own = by_test (is_mark s (length_of s))
  where
    more : (mark : ℕ) → Has (marks_of s ++ length_of s ∷ []) mark → mark ≤ flushed → Has (map (λ (k : ℕ × Layout). k.0) kept) mark
    more mark b c = elim (from_append (marks_of s) (length_of s ∷ []) mark b) [
      | inl d ↦ h.whole mark d c
      | inr d ↦ elim d [ inl e ↦ subst (Has (map (λ (k : ℕ × Layout). k.0) kept)) e (own (omega (arith, c, e))) | inr f ↦ absurd f ]
    ]

    by_test : (b : Bool) → Keeps l kept flushed (if b then s else record s { marks = marks_of s ++ length_of s ∷ [] })
    by_test true = h
    by_test false = record { within = h.within; present = h.present; low = h.low; marked = h.marked; whole = more }

pub keeps_forget : (l : Layout) (kept : List (ℕ × Layout)) (flushed : ℕ) (s : State) (place : ℕ) → Keeps l kept flushed s → Keeps l kept flushed (after_forget s place)
keeps_forget l kept flushed s place h = record {
  within = h.within;
  present = h.present;
  low = h.low;
  marked = h.marked;
  whole = λ mark b c. h.whole mark (from_filter (λ mark. not (mark == place)) (marks_of s) mark b).0 c;
}

pub keeps_back_above : (l : Layout) (kept : List (ℕ × Layout)) (flushed : ℕ) (s : State) (place : ℕ) → Keeps l kept flushed s → flushed ≤ place → place ≤ length_of s → Keeps l kept flushed (after_back s place)
keeps_back_above l kept flushed s place h above inside =
    keeps_front l kept flushed s (after_back s place) h (omega (arith, length-take-le place s.mutations inside, above)) (λ c b. take-take c place s.mutations (omega (arith, b, above)))
    (λ mark b c. h.whole mark (from_filter (λ mark. nat_le mark place) (marks_of s) mark b).0 c)

pub keeps_back : (l below : Layout) (kept : List (ℕ × Layout)) (flushed : ℕ) (s : State) (place : ℕ) → Keeps l kept flushed s → Has kept (place, below)
    → Keeps below (filter (λ (k : ℕ × Layout). nat_le k.0 place) kept) place (after_back s place)
keeps_back l below kept flushed s place h here = record {
  within = omega (arith, length-take-le place s.mutations (omega (arith, h.low (place, below) here, h.within)));
  present = subst (Stands below) (sym (take-take place place s.mutations (omega arith))) (h.marked (place, below) here);
  low = λ k b. leb-true k.0 place (of_kept k b).1;
  marked = λ k b. subst (Stands k.1) (sym (take-take k.0 place s.mutations (leb-true k.0 place (of_kept k b).1))) (h.marked k (of_kept k b).0);
  whole = λ mark b c. stays mark c (from_map (λ (k : ℕ × Layout). k.0) kept mark (h.whole mark (from_filter (λ mark. nat_le mark place) (marks_of s) mark b).0 (omega (arith, c, h.low (place, below) here))));
}
  where
    of_kept : (k : ℕ × Layout) → Has (filter (λ (k : ℕ × Layout). nat_le k.0 place) kept) k → Has kept k × (nat_le k.0 place ≡ true)
    of_kept k b = from_filter (λ (k : ℕ × Layout). nat_le k.0 place) kept k b

    stays : (mark : ℕ) → mark ≤ place → (k : ℕ × Layout) × Has kept k × (k.0 ≡ mark) → Has (map (λ (k : ℕ × Layout). k.0) (filter (λ (k : ℕ × Layout). nat_le k.0 place) kept)) mark
    stays mark c k =
        let low = filter (λ (k : ℕ × Layout). nat_le k.0 place) kept in
        subst (Has (map (λ (k : ℕ × Layout). k.0) low)) k.2
        (has_map (λ (k : ℕ × Layout). k.0) low k.0 (has_filter (λ (k : ℕ × Layout). nat_le k.0 place) kept k.0 k.1 (le-leb k.0.0 place (omega (arith, c, k.2)))))

keeps_nothing : (epoch : ℕ) → Keeps empty_layout [] 0 (record { mutations = []; marks = []; epoch = epoch })
keeps_nothing epoch = record { within = omega arith; present = empty_stands; low = λ k b. absurd b; marked = λ k b. absurd b; whole = λ mark b c. absurd b }

pub keeps_new : Keeps empty_layout [] 0 new_state
keeps_new = keeps_nothing 0

pub keeps_clear : (s : State) → Keeps empty_layout [] 0 (after_clear s)
keeps_clear s = keeps_nothing (s.epoch + 1)

-- kept layouts that come and go

pub keeps_joined : (l : Layout) (kept : List (ℕ × Layout)) (flushed : ℕ) (s : State) → Keeps l kept flushed s → Keeps l (kept ++ (flushed, l) ∷ []) flushed s
keeps_joined l kept flushed s h = record {
  within = h.within;
  present = h.present;
  low = λ k b. elim (from_append kept ((flushed, l) ∷ []) k b) [ inl c ↦ h.low k c | inr c ↦ omega (arith, ap (λ (q : ℕ × Layout). q.0) (only k c)) ];
  marked = λ k b. elim (from_append kept ((flushed, l) ∷ []) k b) [
    | inl c ↦ h.marked k c
    | inr c ↦ subst (λ (q : ℕ × Layout). Stands q.1 (take q.0 s.mutations)) (only k c) h.present
  ];
  whole = λ mark b c. more mark (from_map (λ (k : ℕ × Layout). k.0) kept mark (h.whole mark b c));
}
  where
    only : (k : ℕ × Layout) → Has ((flushed, l) ∷ []) k → (flushed, l) ≡ k
    only k c = elim c [ inl e ↦ e | inr f ↦ absurd f ]

    more : (mark : ℕ) → (k : ℕ × Layout) × Has kept k × (k.0 ≡ mark) → Has (map (λ (k : ℕ × Layout). k.0) (kept ++ (flushed, l) ∷ [])) mark
    more mark k =
        subst (Has (map (λ (k : ℕ × Layout). k.0) (kept ++ (flushed, l) ∷ []))) k.2
        (has_map (λ (k : ℕ × Layout). k.0) (kept ++ (flushed, l) ∷ []) k.0 (has_left kept ((flushed, l) ∷ []) k.0 k.1))

pub keeps_fewer : (l : Layout) (kept fewer : List (ℕ × Layout)) (flushed : ℕ) (s : State) → Keeps l kept flushed s → Within fewer kept
    → ((mark : ℕ) → Has (marks_of s) mark → mark ≤ flushed → Has (map (λ (k : ℕ × Layout). k.0) fewer) mark) → Keeps l fewer flushed s
keeps_fewer l kept fewer flushed s h among whole = record {
  within = h.within;
  present = h.present;
  low = λ k b. h.low k (among k b);
  marked = λ k b. h.marked k (among k b);
  whole = whole;
}

-- jobs

keeps_other : (l other : Layout) (kept : List (ℕ × Layout)) (flushed : ℕ) (s : State) → Keeps l kept flushed s → Stands other (take flushed s.mutations) → Keeps other kept flushed s
keeps_other l other kept flushed s h there = record { within = h.within; present = there; low = h.low; marked = h.marked; whole = h.whole }

pub keeps_merge : (l : Layout) (kept : List (ℕ × Layout)) (flushed : ℕ) (s : State) (newer inputs older : List Run) (run : Run) (dead : List Dead) → Keeps l kept flushed s
    → l.runs ≡ newer ++ (inputs ++ older) → IsMerge inputs run dead → Keeps (with_merge l newer run older dead) kept flushed s
keeps_merge l kept flushed s newer inputs older run dead h e f =
    keeps_other l (with_merge l newer run older dead) kept flushed s h (merge_stands l (take flushed s.mutations) newer inputs older run dead h.present e f)

pub keeps_clean : (l : Layout) (kept : List (ℕ × Layout)) (flushed : ℕ) (s : State) (older inputs newer : List (List Item)) (chosen others rest : List Dead) (segment : List Item)
    → Keeps l kept flushed s → l.segments ≡ older ++ (inputs ++ newer) → Divides l.deletes chosen others → IsClean (records_of inputs) chosen segment rest
    → Keeps (with_clean l older segment newer rest others) kept flushed s
keeps_clean l kept flushed s older inputs newer chosen others rest segment h e parts f =
    keeps_other l (with_clean l older segment newer rest others) kept flushed s h
    (clean_stands l (take flushed s.mutations) older inputs newer chosen others rest segment h.present e parts f)

pub keeps_flush : (l : Layout) (kept : List (ℕ × Layout)) (flushed hi : ℕ) (s : State) (run : Run) (segment : List Item) → Keeps l kept flushed s → flushed < hi → hi ≤ length_of s
    → IsFlush s.mutations flushed hi run segment → ((mark : ℕ) → Has (marks_of s) mark → flushed < mark → mark ≤ hi → ⊥) → Keeps (with_flush l run segment) kept hi s
keeps_flush l kept flushed hi s run segment h above inside f none = record {
  within = inside;
  present = flush_stands l s.mutations flushed hi run segment h.present above inside f;
  low = λ k b. omega (arith, h.low k b, above);
  marked = h.marked;
  whole = λ mark b c. elim (cases_lt flushed mark) [ inl d ↦ absurd (none mark b d c) | inr d ↦ h.whole mark b d ];
}

pub keeps_flush_at_mark : (l : Layout) (kept : List (ℕ × Layout)) (flushed hi : ℕ) (s : State) (run : Run) (segment : List Item) → Keeps l kept flushed s → flushed < hi → hi ≤ length_of s
    → IsFlush s.mutations flushed hi run segment → ((mark : ℕ) → Has (marks_of s) mark → flushed < mark → mark ≤ hi → mark ≡ hi)
    → Keeps (with_flush l run segment) (kept ++ (hi, with_flush l run segment) ∷ []) hi s
keeps_flush_at_mark l kept flushed hi s run segment h above inside f last = record {
  within = inside;
  present = joined.present;
  low = joined.low;
  marked = joined.marked;
  whole = λ mark b c. elim (cases_lt flushed mark) [
    | inl d ↦ subst (Has (map (λ (k : ℕ × Layout). k.0) (kept ++ (hi, new) ∷ []))) (sym (last mark b d c))
        (has_map (λ (k : ℕ × Layout). k.0) (kept ++ (hi, new) ∷ []) (hi, new) (has_right kept ((hi, new) ∷ []) (hi, new) (inl refl)))
    | inr d ↦ joined.whole mark (has_filter (λ mark. nat_le mark flushed) (marks_of s) mark b (le-leb mark flushed d)) c
  ];
}
  where
    new : Layout
    new = with_flush l run segment

    -- the state without the marks above
    below : State
    below = record s { marks = filter (λ mark. nat_le mark flushed) (marks_of s) }

    of_below : (mark : ℕ) → Has (marks_of below) mark → Has (marks_of s) mark × (nat_le mark flushed ≡ true)
    of_below mark b = from_filter (λ mark. nat_le mark flushed) (marks_of s) mark b

    keeps_below : Keeps l kept flushed below
    keeps_below = record { within = h.within; present = h.present; low = h.low; marked = h.marked; whole = λ mark b c. h.whole mark (of_below mark b).0 c }

    joined : Keeps new (kept ++ (hi, new) ∷ []) hi below
    joined = keeps_joined new kept hi below (keeps_flush l kept flushed hi below run segment keeps_below above inside f (λ mark b c d. omega (arith, leb-true mark flushed (of_below mark b).1, c)))

-- with memtables

pub holds_nothing : (s : State) → Holds empty_layout [] 0 [] (after_clear s)
holds_nothing s = record { keeps = keeps_clear s; rising = (tt, tt); inside = λ hi b. absurd b; above = λ mark b c. absurd b }

pub holds_new : Holds empty_layout [] 0 [] new_state
holds_new = record { keeps = keeps_new; rising = (tt, tt); inside = λ hi b. absurd b; above = λ mark b c. absurd b }

pub holds_write : (l : Layout) (kept : List (ℕ × Layout)) (flushed : ℕ) (ends : List ℕ) (s : State) (x : Mutation) → Holds l kept flushed ends s → Holds l kept flushed ends (after_write s x)
holds_write l kept flushed ends s x h = record {
  keeps = keeps_write l kept flushed s x h.keeps;
  rising = h.rising;
  inside = λ hi b. omega (arith, h.inside hi b, length_push s.mutations (Some x));
  above = h.above;
}

pub holds_frozen : (l : Layout) (kept : List (ℕ × Layout)) (flushed : ℕ) (ends : List ℕ) (s : State) → Holds l kept flushed ends s → ((hi : ℕ) → Has (flushed ∷ ends) hi → hi < length_of s)
    → Holds l kept flushed (ends ++ length_of s ∷ []) s
holds_frozen l kept flushed ends s h some = record {
  keeps = h.keeps;
  rising = rises_join (λ (n : ℕ). n) (flushed ∷ ends) (length_of s ∷ []) h.rising (tt, tt) (λ a b c d. elim d [ inl e ↦ omega (arith, some a c, e) | inr f ↦ absurd f ]);
  inside = λ hi b. elim (from_append ends (length_of s ∷ []) hi b) [ inl c ↦ h.inside hi c | inr c ↦ elim c [ inl e ↦ omega (arith, e) | inr f ↦ absurd f ] ];
  above = λ mark b c. has_left ends (length_of s ∷ []) mark (h.above mark b c);
}

pub holds_mark : (l : Layout) (kept : List (ℕ × Layout)) (flushed : ℕ) (ends : List ℕ) (s : State) → Holds l kept flushed ends s
    → (length_of s ≤ flushed → Has (map (λ (k : ℕ × Layout). k.0) kept) (length_of s)) → (flushed < length_of s → Has ends (length_of s)) → Holds l kept flushed ends (after_mark s)
holds_mark l kept flushed ends s h low high = by_test (is_mark s (length_of s)) (keeps_mark l kept flushed s h.keeps low)
  where
    more : (mark : ℕ) → Has (marks_of s ++ length_of s ∷ []) mark → flushed < mark → Has ends mark
    more mark b c = elim (from_append (marks_of s) (length_of s ∷ []) mark b) [
      | inl d ↦ h.above mark d c
      | inr d ↦ elim d [ inl e ↦ subst (Has ends) e (high (omega (arith, c, e))) | inr f ↦ absurd f ]
    ]

    by_test : (b : Bool) → Keeps l kept flushed (if b then s else record s { marks = marks_of s ++ length_of s ∷ [] }) → Holds l kept flushed ends (if b then s else record s { marks = marks_of s ++ length_of s ∷ [] })
    by_test true k = h
    by_test false k = record { keeps = k; rising = h.rising; inside = h.inside; above = more }

pub holds_forget : (l : Layout) (kept : List (ℕ × Layout)) (flushed : ℕ) (ends : List ℕ) (s : State) (place : ℕ) → Holds l kept flushed ends s → Holds l kept flushed ends (after_forget s place)
holds_forget l kept flushed ends s place h = record {
  keeps = keeps_forget l kept flushed s place h.keeps;
  rising = h.rising;
  inside = h.inside;
  above = λ mark b c. h.above mark (from_filter (λ mark. not (mark == place)) (marks_of s) mark b).0 c;
}

pub holds_back : (l below : Layout) (kept : List (ℕ × Layout)) (flushed : ℕ) (ends : List ℕ) (s : State) (place : ℕ) → Holds l kept flushed ends s → Has kept (place, below)
    → Holds below (filter (λ (k : ℕ × Layout). nat_le k.0 place) kept) place [] (after_back s place)
holds_back l below kept flushed ends s place h here = record {
  keeps = keeps_back l below kept flushed s place h.keeps here;
  rising = (tt, tt);
  inside = λ hi b. absurd b;
  above = λ mark b c. absurd (omega (arith, leb-true mark place (from_filter (λ mark. nat_le mark place) (marks_of s) mark b).1, c));
}

pub holds_back_above : (l : Layout) (kept : List (ℕ × Layout)) (flushed : ℕ) (ends : List ℕ) (s : State) (place : ℕ) → Holds l kept flushed ends s → Has (marks_of s) place → flushed < place
    → Holds l kept flushed (filter (λ hi. nat_le hi place) ends) (after_back s place)
holds_back_above l kept flushed ends s place h here high = record {
  keeps = keeps_back_above l kept flushed s place h.keeps (omega (arith, high)) short;
  rising = rises_cons (λ (n : ℕ). n) flushed (filter (λ hi. nat_le hi place) ends) (λ hi b. above_first (λ (n : ℕ). n) flushed ends hi h.rising (of_ends hi b).0)
      (rises_filter (λ (n : ℕ). n) (λ hi. nat_le hi place) ends h.rising.1);
  inside = λ hi b. omega (arith, length-take-le place s.mutations short, leb-true hi place (of_ends hi b).1);
  above = λ mark b c. let q = from_filter (λ mark. nat_le mark place) (marks_of s) mark b in has_filter (λ hi. nat_le hi place) ends mark (h.above mark q.0 c) q.1;
}
  where
    short : place ≤ length_of s
    short = h.inside place (h.above place here high)

    of_ends : (hi : ℕ) → Has (filter (λ hi. nat_le hi place) ends) hi → Has ends hi × (nat_le hi place ≡ true)
    of_ends hi b = from_filter (λ hi. nat_le hi place) ends hi b

pub holds_other : (l other : Layout) (kept left : List (ℕ × Layout)) (flushed : ℕ) (ends : List ℕ) (s : State) → Holds l kept flushed ends s → Keeps other left flushed s → Holds other left flushed ends s
holds_other l other kept left flushed ends s h k = record { keeps = k; rising = h.rising; inside = h.inside; above = h.above }

-- the oldest frozen memtable ends at the first mark above what is in files, if its interval has one
last_mark : (l : Layout) (kept : List (ℕ × Layout)) (flushed hi : ℕ) (ends : List ℕ) (s : State) → Holds l kept flushed (hi ∷ ends) s
    → (mark : ℕ) → Has (marks_of s) mark → flushed < mark → mark ≤ hi → mark ≡ hi
last_mark l kept flushed hi ends s h mark b c d = elim (h.above mark b c) [ inl e ↦ sym e | inr k ↦ absurd (omega (arith, above_first (λ (n : ℕ). n) hi ends mark h.rising.1 k, d)) ]

flushed_away : (l other : Layout) (kept left : List (ℕ × Layout)) (flushed hi : ℕ) (ends : List ℕ) (s : State) → Holds l kept flushed (hi ∷ ends) s → Keeps other left hi s → Holds other left hi ends s
flushed_away l other kept left flushed hi ends s h k = record {
  keeps = k;
  rising = h.rising.1;
  inside = λ end b. h.inside end (inr b);
  above = λ mark b c. elim (h.above mark b (omega (arith, first, c))) [ inl e ↦ absurd (omega (arith, e, c)) | inr d ↦ d ];
}
  where
    first : flushed < hi
    first = above_first (λ (n : ℕ). n) flushed (hi ∷ ends) hi h.rising (inl refl)

pub holds_flush : (l : Layout) (kept : List (ℕ × Layout)) (flushed hi : ℕ) (ends : List ℕ) (s : State) (run : Run) (segment : List Item) → Holds l kept flushed (hi ∷ ends) s
    → IsFlush s.mutations flushed hi run segment → (Has (marks_of s) hi → ⊥) → Holds (with_flush l run segment) kept hi ends s
holds_flush l kept flushed hi ends s run segment h f none = flushed_away l (with_flush l run segment) kept kept flushed hi ends s h
    (keeps_flush l kept flushed hi s run segment h.keeps (above_first (λ (n : ℕ). n) flushed (hi ∷ ends) hi h.rising (inl refl)) (h.inside hi (inl refl)) f
    (λ mark b c d. none (subst (Has (marks_of s)) (last_mark l kept flushed hi ends s h mark b c d) b)))

pub holds_flush_at_mark : (l : Layout) (kept : List (ℕ × Layout)) (flushed hi : ℕ) (ends : List ℕ) (s : State) (run : Run) (segment : List Item) → Holds l kept flushed (hi ∷ ends) s
    → IsFlush s.mutations flushed hi run segment → Holds (with_flush l run segment) (kept ++ (hi, with_flush l run segment) ∷ []) hi ends s
holds_flush_at_mark l kept flushed hi ends s run segment h f = flushed_away l (with_flush l run segment) kept (kept ++ (hi, with_flush l run segment) ∷ []) flushed hi ends s h
    (keeps_flush_at_mark l kept flushed hi s run segment h.keeps (above_first (λ (n : ℕ). n) flushed (hi ∷ ends) hi h.rising (inl refl)) (h.inside hi (inl refl)) f (last_mark l kept flushed hi ends s h))
