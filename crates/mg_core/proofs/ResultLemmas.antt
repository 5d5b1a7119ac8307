-- What flushes, merges and cleanings make is one thing, and what the numbers of a layout say of each other.
use Rattle.std.proofs.Common.{◌≡◌, ◌≢◌, ◌↔◌, inl, inr, ℕ, ◌+◌, ◌<◌, ◌≤◌, List, [], ◌∷◌, ◌++◌, length, take, map, refl, ap, subst, ◌∙◌, sym, arith, length-append}
use Rattle.std.proofs.lemmas.Bool.{cases_eq}
use Rattle.std.proofs.lemmas.List.{length-map, length-take}
use Rattle.mg_types.specs.declared.items.Dead.{Dead}
use Rattle.mg_types.specs.declared.items.Entry.{Entry}
use Rattle.mg_types.specs.declared.items.Item.{Item}
use Rattle.mg_model.specs.Mutations.{Mutations, items_of, newest}
use Rattle.mg_core.specs.Lists.{Has, SameMembers, times}
use Rattle.mg_core.specs.Layouts.{IsRun, Layout, Run, Stands, empty_layout, entries_of, records_of}
use Rattle.mg_core.specs.Results.{IsClean, IsFlushOf, IsFresh, IsMerge, fresh}
use Rattle.mg_core.proofs.ListLemmas.{newest_least, same_rising, same_sum, sum_of_ones, times_append, times_hit, times_miss}
use Rattle.mg_core.proofs.ItemLemmas.{at_most_newest, from_front, in_front, is_late, is_live, item_within, late_of, newest_item, newest_of}
use Rattle.mg_core.proofs.EntryLemmas.{same_sorted}
use Rattle.mg_core.proofs.MergeLemmas.{spans_one}

pub empty_stands : Stands empty_layout []
empty_stands = record {
  runs = tt;
  intervals = refl;
  agree = record {
    entered = λ e h. absurd h;
    newest = λ e h. absurd h;
    rising = tt;
    bound = λ r h. absurd h;
    recorded = λ r e h k s. absurd h;
    numbers = λ n. omega arith;
    replaced = λ i d h k s. absurd h;
    sizes = λ d h. absurd h;
  };
}

pub fresh_is_newest : (m : Mutations) (lo hi : ℕ) (i : Item) → Has (fresh m lo hi) i ↔ IsFresh m lo hi i
fresh_is_newest m lo hi i = (there, back)
  where
    there : Has (fresh m lo hi) i → IsFresh m lo hi i
    there h =
        let q = late_of lo (take hi m) i h in
        let n = newest_of (take hi m) i q.0 in
        record {
          held = from_front hi m i n.0;
          begins = q.1;
          ends = omega (arith, (item_within (take hi m) i n.0).1, length-take hi m);
          newest = λ j k e l. omega (arith, at_most_newest (take hi m) j (in_front hi m j k l), ap (newest (take hi m)) e, n.1);
        }

    back : IsFresh m lo hi i → Has (fresh m lo hi) i
    back f =
        let here = in_front hi m i f.held f.ends in
        let least = newest_least (λ (j : Item). j.key) (λ (j : Item). j.seq) (items_of (take hi m)) i.key i.seq
        (λ j k e. f.newest j (from_front hi m j k) e (omega (arith, (item_within (take hi m) j k).1, length-take hi m))) in
        is_late lo (take hi m) i (is_live (take hi m) i here (omega (arith, least, at_most_newest (take hi m) i here))) f.begins

pub fresh_is_some : (m : Mutations) (lo hi : ℕ) (i : Item) → Has (items_of m) i → lo < i.seq → i.seq ≤ hi → fresh m lo hi ≢ []
fresh_is_some m lo hi i h a b e =
    let above = at_most_newest (take hi m) i (in_front hi m i h b) in
    let j = newest_item (take hi m) i.key (omega (arith, above, a)) in
    subst (λ (is : List Item). Has is j.0) e (is_late lo (take hi m) j.0 j.1 (omega (arith, above, a, j.3)))

-- one result

same_run : (r s : Run) → r.lo ≡ s.lo → r.hi ≡ s.hi → r.entries ≡ s.entries → r ≡ s
same_run r s a b c =
    ap (λ (n : ℕ). record { lo = n; hi = r.hi; entries = r.entries }) a
    ∙ (ap (λ (n : ℕ). record { lo = s.lo; hi = n; entries = r.entries }) b ∙ ap (λ (es : List Entry). record { lo = s.lo; hi = s.hi; entries = es }) c)

-- runs with the same members
same_entries : (r s : Run) (es : List Entry) → IsRun r → IsRun s → SameMembers r.entries es → SameMembers s.entries es → r.entries ≡ s.entries
same_entries r s es a b c d = same_sorted r.entries s.entries a.keys b.keys (λ e h. d.back e (c.there e h)) (λ e h. c.back e (d.there e h))

pub one_flush : (items : List Item) (lo hi : ℕ) (run other : Run) (segment records : List Item) → IsFlushOf items lo hi run segment → IsFlushOf items lo hi other records → (run ≡ other) × (segment ≡ records)
one_flush items lo hi run other segment records f g =
    (same_run run other (f.begins ∙ sym g.begins) (f.ends ∙ sym g.ends) (same_entries run other _ f.is_run g.is_run f.entries g.entries), f.kept ∙ sym g.kept)

pub one_merge : (inputs : List Run) (run other : Run) (dead deletes : List Dead) → IsMerge inputs run dead → IsMerge inputs other deletes → (run ≡ other) × (dead ≡ deletes)
one_merge inputs run other dead deletes f g =
    let ends = spans_one run.hi run.lo other.hi other.lo inputs f.some f.interval g.interval in (
      same_run run other ends.1 ends.0 (same_entries run other _ f.is_run g.is_run f.entries g.entries),
      same_rising (λ (d : Dead). d.seq) dead deletes f.rising g.rising (λ d h. g.deletes.back d (f.deletes.there d h)) (λ d h. f.deletes.back d (g.deletes.there d h)),
    )

pub one_clean : (inputs : List Item) (chosen : List Dead) (segment records : List Item) (rest deletes : List Dead) → IsClean inputs chosen segment rest → IsClean inputs chosen records deletes
    → (segment ≡ records) × (rest ≡ deletes)
one_clean inputs chosen segment records rest deletes f g =
    (f.kept ∙ sym g.kept, same_rising (λ (d : Dead). d.seq) rest deletes f.rising g.rising (λ d h. g.deletes.back d (f.deletes.there d h)) (λ d h. f.deletes.back d (g.deletes.there d h)))

-- what numbers say of each other

pub records_told : (l other : Layout) (m n : Mutations) (number : ℕ) → Stands l m → Stands other n → l.runs ≡ other.runs → l.deletes ≡ other.deletes
    → times (λ (r : Item). r.seq) number (records_of l.segments) ≡ times (λ (r : Item). r.seq) number (records_of other.segments)
records_told l other m n number s t e d =
    omega (arith, s.agree.numbers number, t.agree.numbers number, ap (λ (runs : List Run). times (λ (e : Entry). e.seq) number (entries_of runs)) e, ap (times (λ (d : Dead). d.seq) number) d)

pub deletes_told : (l other : Layout) (m n : Mutations) (number : ℕ) → Stands l m → Stands other n → l.runs ≡ other.runs → l.segments ≡ other.segments
    → times (λ (d : Dead). d.seq) number l.deletes ≡ times (λ (d : Dead). d.seq) number other.deletes
deletes_told l other m n number s t e r =
    omega (
      arith,
      s.agree.numbers number,
      t.agree.numbers number,
      ap (λ (runs : List Run). times (λ (e : Entry). e.seq) number (entries_of runs)) e,
      ap (λ (segments : List (List Item)). times (λ (r : Item). r.seq) number (records_of segments)) r,
    )

pub entries_told : (l other : Layout) (m n : Mutations) (number : ℕ) → Stands l m → Stands other n → l.segments ≡ other.segments → l.deletes ≡ other.deletes
    → times (λ (e : Entry). e.seq) number (entries_of l.runs) ≡ times (λ (e : Entry). e.seq) number (entries_of other.runs)
entries_told l other m n number s t r d =
    omega (
      arith,
      s.agree.numbers number,
      t.agree.numbers number,
      ap (λ (segments : List (List Item)). times (λ (r : Item). r.seq) number (records_of segments)) r,
      ap (times (λ (d : Dead). d.seq) number) d,
    )

-- lists in which each number occurs as often are as long
same_length : {X Y : Type 0} (f : X → ℕ) (g : Y → ℕ) (xs : List X) (ys : List Y) → ((n : ℕ) → times f n xs ≡ times g n ys) → length xs ≡ length ys
same_length {X = X} {Y = Y} f g xs ys same = sym (sum_of_ones xs) ∙ (same_sum f g (λ (x : X). 1) (λ (y : Y). 1) xs ys same (λ x y h k e. refl) ∙ sum_of_ones ys)

times_mapped : {X : Type 0} (f : X → ℕ) (n : ℕ) (xs : List X) → times (λ (k : ℕ). k) n (map f xs) ≡ times f n xs
times_mapped f n [] = refl
times_mapped f n (x ∷ xs) = elim (cases_eq (f x) n) [
  | inl e ↦ omega (arith, times_hit f n x xs e, times_hit (λ (k : ℕ). k) n (f x) (map f xs) e, times_mapped f n xs)
  | inr ne ↦ omega (arith, times_miss f n x xs ne, times_miss (λ (k : ℕ). k) n (f x) (map f xs) ne, times_mapped f n xs)
]

pub records_are_as_many : (l : Layout) (m : Mutations) → Stands l m → length (records_of l.segments) ≡ length (entries_of l.runs) + length l.deletes
records_are_as_many l m s =
    same_length (λ (r : Item). r.seq) (λ (k : ℕ). k) (records_of l.segments) (es ++ ds)
    (λ n. omega (arith, s.agree.numbers n, times_append (λ (k : ℕ). k) n es ds, times_mapped (λ (e : Entry). e.seq) n (entries_of l.runs), times_mapped (λ (d : Dead). d.seq) n l.deletes))
    ∙ omega (arith, length-append es ds, length-map (entries_of l.runs) (λ (e : Entry). e.seq), length-map l.deletes (λ (d : Dead). d.seq))
  where
    es : List ℕ
    es = map (λ (e : Entry). e.seq) (entries_of l.runs)

    ds : List ℕ
    ds = map (λ (d : Dead). d.seq) l.deletes
