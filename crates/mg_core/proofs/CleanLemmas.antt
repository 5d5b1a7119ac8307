-- A layout whose neighbouring segments were cleaned.
use Rattle.std.proofs.Common.{◌≡◌, inl, inr, ℕ, ◌+◌, ◌≤◌, List, [], ◌∷◌, ◌++◌, map, Bool, true, false, not, refl, ap, subst, ◌∙◌, sym, arith, append-nil}
use Rattle.std.specs.List.{filter}
use Rattle.std.proofs.lemmas.Bool.{both_ways, not-true}
use Rattle.std.proofs.lemmas.Grind.{flat_map-append}
use Rattle.mg_types.specs.declared.items.Dead.{Dead}
use Rattle.mg_types.specs.declared.items.Entry.{Entry}
use Rattle.mg_types.specs.declared.items.Item.{Item}
use Rattle.mg_model.specs.Mutations.{Mutations}
use Rattle.mg_core.specs.Lists.{Has, RisesBy, SameMembers, occurs, times}
use Rattle.mg_core.specs.Layouts.{Agree, Layout, Stands, dead_of, entries_of, entry_of, records_of}
use Rattle.mg_core.specs.Results.{Divides, IsClean, unless_empty, with_clean}
use Rattle.mg_core.proofs.ListLemmas.{from_append, from_filter, from_map, from_occurs, has_filter, has_left, has_map, has_right, has_times, occurs_from, rises_across, rises_filter, rises_join, rises_left, rises_right, times_append, times_none, times_once, times_same, times_split}

-- a number whose members all pass a test occurs as often among those that pass, and one whose members all fail does not
times_kept : {X : Type 0} (f : X → ℕ) (n : ℕ) (p : X → Bool) (xs : List X) → ((x : X) → Has xs x → f x ≡ n → p x ≡ true) → times f n (filter p xs) ≡ times f n xs
times_kept f n p xs all =
    omega (arith, times_split f n p xs, times_none f n (filter (λ x. not (p x)) xs) (λ x h e. let q = from_filter (λ x. not (p x)) xs x h in both_ways (p x) (not-true (p x) q.1) (all x q.0 e)))

times_dropped : {X : Type 0} (f : X → ℕ) (n : ℕ) (p : X → Bool) (xs : List X) → ((x : X) → Has xs x → f x ≡ n → p x ≡ false) → times f n (filter p xs) ≡ 0
times_dropped f n p xs all = times_none f n (filter p xs) (λ x h e. let q = from_filter p xs x h in both_ways (p x) (all x q.0 e) q.1)

at_number : {X : Type 0} (f : X → ℕ) (xs : List X) (a b : ℕ) (t : Bool) → a ≡ b → occurs f xs b ≡ t → occurs f xs a ≡ t
at_number f xs a b t e h = ap (occurs f xs) e ∙ h

pub agree_cleaned : (es : List Entry) (bs is os : List Item) (ds chosen others rest : List Dead) (m : Mutations) → Agree es (bs ++ (is ++ os)) ds m → Divides ds chosen others
    → RisesBy (λ (d : Dead). d.seq) rest → SameMembers rest (filter (λ (d : Dead). not (occurs (λ (r : Item). r.seq) is d.seq)) chosen)
    → Agree es (bs ++ (filter (λ (r : Item). not (occurs (λ (d : Dead). d.seq) chosen r.seq)) is ++ os)) (rest ++ others) m
agree_cleaned es bs is os ds chosen others rest m a parts rise same = record {
  entered = a.entered;
  newest = a.newest;
  rising = rises_join (λ (r : Item). r.seq) bs (left ++ os) (rises_left (λ (r : Item). r.seq) bs (is ++ os) a.rising)
      (rises_join (λ (r : Item). r.seq) left os (rises_filter (λ (r : Item). r.seq) (λ (r : Item). not (occurs (λ (d : Dead). d.seq) chosen r.seq)) is (rises_left (λ (r : Item). r.seq) is os tail_rises)) (rises_right (λ (r : Item). r.seq) is os tail_rises)
      (λ x y h k. rises_across (λ (r : Item). r.seq) is os x y tail_rises (from_filter (λ (r : Item). not (occurs (λ (d : Dead). d.seq) chosen r.seq)) is x h).0 k))
      (λ x y h k. rises_across (λ (r : Item). r.seq) bs (is ++ os) x y a.rising h (old_tail y k));
  bound = λ r h. a.bound r (old_of r h);
  recorded = λ r e h k s. a.recorded r e (old_of r h) k s;
  numbers = λ n. omega (arith, a.numbers n, old_times n, new_times n, old_dead n, times_append (λ (d : Dead). d.seq) n rest others, cleaned_numbers n);
  replaced = λ i d h k s. a.replaced i d h (old_dead_of d k) s;
  sizes = λ d k. let r = from_map (λ (r : Item). dead_of (entry_of r)) (bs ++ (is ++ os)) d (a.sizes d (old_dead_of d k)) in
      subst (Has (map (λ (r : Item). dead_of (entry_of r)) (bs ++ (left ++ os)))) r.2 (has_map (λ (r : Item). dead_of (entry_of r)) (bs ++ (left ++ os)) r.0 (new_of d r.0 k (ap (λ (d : Dead). d.seq) r.2) r.1));
}
  where
    left : List Item
    left = filter (λ (r : Item). not (occurs (λ (d : Dead). d.seq) chosen r.seq)) is

    goes_on : List Dead
    goes_on = filter (λ (d : Dead). not (occurs (λ (r : Item). r.seq) is d.seq)) chosen

    tail_rises : RisesBy (λ (r : Item). r.seq) (is ++ os)
    tail_rises = rises_right (λ (r : Item). r.seq) bs (is ++ os) a.rising

    old_tail : (r : Item) → Has (left ++ os) r → Has (is ++ os) r
    old_tail r h = elim (from_append left os r h) [ inl b ↦ has_left is os r (from_filter (λ (r : Item). not (occurs (λ (d : Dead). d.seq) chosen r.seq)) is r b).0 | inr b ↦ has_right is os r b ]

    old_of : (r : Item) → Has (bs ++ (left ++ os)) r → Has (bs ++ (is ++ os)) r
    old_of r h = elim (from_append bs (left ++ os) r h) [ inl b ↦ has_left bs (is ++ os) r b | inr b ↦ has_right bs (is ++ os) r (old_tail r b) ]

    old_dead_of : (d : Dead) → Has (rest ++ others) d → Has ds d
    old_dead_of d k = elim (from_append rest others d k) [
      | inl b ↦ parts.members d (has_left chosen others d (from_filter (λ (d : Dead). not (occurs (λ (r : Item). r.seq) is d.seq)) chosen d (same.there d b)).0)
      | inr b ↦ parts.members d (has_right chosen others d b)
    ]

    old_times : (n : ℕ) → times (λ (r : Item). r.seq) n (bs ++ (is ++ os)) ≡ times (λ (r : Item). r.seq) n bs + (times (λ (r : Item). r.seq) n is + times (λ (r : Item). r.seq) n os)
    old_times n = omega (arith, times_append (λ (r : Item). r.seq) n bs (is ++ os), times_append (λ (r : Item). r.seq) n is os)

    new_times : (n : ℕ) → times (λ (r : Item). r.seq) n (bs ++ (left ++ os)) ≡ times (λ (r : Item). r.seq) n bs + (times (λ (r : Item). r.seq) n left + times (λ (r : Item). r.seq) n os)
    new_times n = omega (arith, times_append (λ (r : Item). r.seq) n bs (left ++ os), times_append (λ (r : Item). r.seq) n left os)

    old_dead : (n : ℕ) → times (λ (d : Dead). d.seq) n ds ≡ times (λ (d : Dead). d.seq) n chosen + times (λ (d : Dead). d.seq) n others
    old_dead n = omega (arith, parts.numbers n, times_append (λ (d : Dead). d.seq) n chosen others)

    records_once : (n : ℕ) → times (λ (r : Item). r.seq) n (bs ++ (is ++ os)) ≤ 1
    records_once n = times_once (λ (r : Item). r.seq) n (bs ++ (is ++ os)) a.rising

    dead_once : (n : ℕ) → times (λ (d : Dead). d.seq) n ds ≤ 1
    dead_once n = omega (arith, a.numbers n, records_once n)

    rest_numbers : (n : ℕ) → times (λ (d : Dead). d.seq) n goes_on ≡ times (λ (d : Dead). d.seq) n rest
    rest_numbers n = times_same (λ (d : Dead). d.seq) (λ (d : Dead). d.seq) n goes_on rest
        (omega (arith, dead_once n, old_dead n, times_split (λ (d : Dead). d.seq) n (λ (d : Dead). not (occurs (λ (r : Item). r.seq) is d.seq)) chosen))
        (times_once (λ (d : Dead). d.seq) n rest rise)
        (λ d h s. (d, same.back d h, s)) (λ d h s. (d, same.there d h, s))

    -- as many records go as chosen entries do
    cleaned_numbers : (n : ℕ) → times (λ (r : Item). r.seq) n left + times (λ (d : Dead). d.seq) n chosen ≡ times (λ (r : Item). r.seq) n is + times (λ (d : Dead). d.seq) n rest
    cleaned_numbers n = by_tests (occurs (λ (d : Dead). d.seq) chosen n) (occurs (λ (r : Item). r.seq) is n) refl refl
      where
        by_tests : (c i : Bool) → occurs (λ (d : Dead). d.seq) chosen n ≡ c → occurs (λ (r : Item). r.seq) is n ≡ i
            → times (λ (r : Item). r.seq) n left + times (λ (d : Dead). d.seq) n chosen ≡ times (λ (r : Item). r.seq) n is + times (λ (d : Dead). d.seq) n rest
        by_tests true true c i =
            let d = from_occurs (λ (d : Dead). d.seq) chosen n c in
            let r = from_occurs (λ (r : Item). r.seq) is n i in
            omega (
              arith,
              rest_numbers n,
              dead_once n,
              old_dead n,
              records_once n,
              old_times n,
              has_times (λ (d : Dead). d.seq) n chosen d.0 d.1 d.2,
              has_times (λ (r : Item). r.seq) n is r.0 r.1 r.2,
              times_dropped (λ (r : Item). r.seq) n (λ (r : Item). not (occurs (λ (d : Dead). d.seq) chosen r.seq)) is (λ r h e. ap not (at_number (λ (d : Dead). d.seq) chosen r.seq n true e c)),
              times_dropped (λ (d : Dead). d.seq) n (λ (d : Dead). not (occurs (λ (r : Item). r.seq) is d.seq)) chosen (λ d h e. ap not (at_number (λ (r : Item). r.seq) is d.seq n true e i)),
            )
        by_tests true false c i =
            omega (
              arith,
              rest_numbers n,
              times_none (λ (r : Item). r.seq) n is (λ r h e. both_ways (occurs (λ (r : Item). r.seq) is n) i (occurs_from (λ (r : Item). r.seq) is r n h e)),
              times_split (λ (r : Item). r.seq) n (λ (r : Item). not (occurs (λ (d : Dead). d.seq) chosen r.seq)) is,
              times_kept (λ (d : Dead). d.seq) n (λ (d : Dead). not (occurs (λ (r : Item). r.seq) is d.seq)) chosen (λ d h e. ap not (at_number (λ (r : Item). r.seq) is d.seq n false e i)),
            )
        by_tests false i c e =
            omega (
              arith,
              rest_numbers n,
              times_none (λ (d : Dead). d.seq) n chosen (λ d h s. both_ways (occurs (λ (d : Dead). d.seq) chosen n) c (occurs_from (λ (d : Dead). d.seq) chosen d n h s)),
              times_split (λ (d : Dead). d.seq) n (λ (d : Dead). not (occurs (λ (r : Item). r.seq) is d.seq)) chosen,
              times_kept (λ (r : Item). r.seq) n (λ (r : Item). not (occurs (λ (d : Dead). d.seq) chosen r.seq)) is (λ r h s. ap not (at_number (λ (d : Dead). d.seq) chosen r.seq n false s c)),
            )

    -- a record that a delete entry goes on naming is there
    new_of : (d : Dead) (r : Item) → Has (rest ++ others) d → r.seq ≡ d.seq → Has (bs ++ (is ++ os)) r → Has (bs ++ (left ++ os)) r
    new_of d r k s h = elim (from_append bs (is ++ os) r h) [
      | inl b ↦ has_left bs (left ++ os) r b
      | inr b ↦ elim (from_append is os r b) [
        | inl c ↦ has_right bs (left ++ os) r (has_left left os r (has_filter (λ (r : Item). not (occurs (λ (d : Dead). d.seq) chosen r.seq)) is r c (ap not (by_test c (occurs (λ (d : Dead). d.seq) chosen r.seq) refl))))
        | inr c ↦ has_right bs (left ++ os) r (has_right left os r c)
      ]
    ]
      where
        by_test : Has is r → (t : Bool) → occurs (λ (d : Dead). d.seq) chosen r.seq ≡ t → occurs (λ (d : Dead). d.seq) chosen r.seq ≡ false
        by_test c false t = t
        by_test c true t =
            let x = from_occurs (λ (d : Dead). d.seq) chosen r.seq t in
            absurd (elim (from_append rest others d k) [
              | inl b ↦ let q = from_filter (λ (d : Dead). not (occurs (λ (r : Item). r.seq) is d.seq)) chosen d (same.there d b) in
                  both_ways (occurs (λ (r : Item). r.seq) is d.seq) (not-true (occurs (λ (r : Item). r.seq) is d.seq) q.1) (occurs_from (λ (r : Item). r.seq) is r d.seq c s)
              | inr b ↦ omega (arith, dead_once r.seq, old_dead r.seq, has_times (λ (d : Dead). d.seq) r.seq chosen x.0 x.1 x.2, has_times (λ (d : Dead). d.seq) r.seq others d b (sym s))
            ])

-- records of files

pub records_joined : (xs ys : List (List Item)) → records_of (xs ++ ys) ≡ records_of xs ++ records_of ys
records_joined xs ys = flat_map-append (λ (s : List Item). s) xs ys

pub records_unless_empty : (xs : List Item) → records_of (unless_empty xs) ≡ xs
records_unless_empty [] = refl
records_unless_empty (x ∷ xs) = append-nil (x ∷ xs)

pub clean_stands : (l : Layout) (m : Mutations) (older inputs newer : List (List Item)) (chosen others rest : List Dead) (segment : List Item) → Stands l m
    → l.segments ≡ older ++ (inputs ++ newer) → Divides l.deletes chosen others → IsClean (records_of inputs) chosen segment rest → Stands (with_clean l older segment newer rest others) m
clean_stands l m older inputs newer chosen others rest segment s e parts f = record {
  runs = s.runs;
  intervals = s.intervals;
  agree = subst (λ (rs : List Item). Agree (entries_of l.runs) rs (rest ++ others) m) new
      (agree_cleaned (entries_of l.runs) (records_of older) (records_of inputs) (records_of newer) l.deletes chosen others rest m
      (subst (λ (rs : List Item). Agree (entries_of l.runs) rs l.deletes m) old s.agree) parts f.rising f.deletes);
}
  where
    old : records_of l.segments ≡ records_of older ++ (records_of inputs ++ records_of newer)
    old = ap records_of e ∙ (records_joined older (inputs ++ newer) ∙ ap (λ (rs : List Item). records_of older ++ rs) (records_joined inputs newer))

    new : records_of older ++ (filter (λ (r : Item). not (occurs (λ (d : Dead). d.seq) chosen r.seq)) (records_of inputs) ++ records_of newer) ≡ records_of (older ++ (unless_empty segment ++ newer))
    new = ap (λ (rs : List Item). records_of older ++ (rs ++ records_of newer)) (sym f.kept ∙ sym (records_unless_empty segment))
        ∙ (ap (λ (rs : List Item). records_of older ++ rs) (sym (records_joined (unless_empty segment) newer)) ∙ sym (records_joined older (unless_empty segment ++ newer)))
