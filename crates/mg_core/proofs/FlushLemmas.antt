-- A layout with what a flush made.
use Rattle.std.proofs.Common.{◌≡◌, inl, inr, ℕ, ◌<◌, ◌≤◌, List, [], ◌∷◌, ◌++◌, length, take, map, nat_lt, ap, subst, ◌∙◌, sym, arith, append-nil}
use Rattle.std.specs.Cmp.Lexicographic.{slice_cmp}
use Rattle.std.specs.List.{filter}
use Rattle.std.specs.List.Sorted.{IsStrictlySortedBy}
use Rattle.std.specs.Ordering.{nat_cmp}
use Rattle.std.proofs.lemmas.Bool.{cases_lt}
use Rattle.std.proofs.lemmas.Grind.{flat_map-append}
use Rattle.std.proofs.lemmas.List.{take-take}
use Rattle.mg_types.specs.declared.items.Dead.{Dead}
use Rattle.mg_types.specs.declared.items.Entry.{Entry}
use Rattle.mg_types.specs.declared.items.Item.{Item}
use Rattle.mg_model.specs.Mutations.{Mutations, items_of, live}
use Rattle.mg_core.specs.Lists.{Has, SameMembers, Within, times}
use Rattle.mg_core.specs.Layouts.{Agree, Layout, Run, Spans, Stands, dead_of, entries_of, entry_of, records_of}
use Rattle.mg_core.specs.Results.{IsFlush, with_flush}
use Rattle.mg_core.proofs.ListLemmas.{has_left, has_right, from_append, has_map, from_map, rises_join, times_append, times_once, times_same}
use Rattle.mg_core.proofs.EntryLemmas.{mutation_of, once_by_key, one_entry}
use Rattle.mg_core.proofs.ItemLemmas.{item_within, from_front, newest_of, live_in_front, late_of, is_late, late_rise, length_front}

-- what has been added above a place agrees with the whole list
pub agree_added : (es : List Entry) (rs : List Item) (ds : List Dead) (new : List Entry) (m : Mutations) (lo : ℕ) → lo ≤ length m → Agree es rs ds (take lo m)
    → IsStrictlySortedBy (slice_cmp nat_cmp) (map (λ (e : Entry). e.key) new)
    → SameMembers new (map entry_of (filter (λ (i : Item). nat_lt lo i.seq) (live m)))
    → Agree (new ++ es) (rs ++ filter (λ (i : Item). nat_lt lo i.seq) (live m)) ds m
agree_added es rs ds new m lo short a keys same = record {
  entered = λ e h. elim (from_append new es e h) [
    | inl k ↦ let i = from_map entry_of late e (same.there e k) in subst (Has (map entry_of (items_of m))) i.2 (has_map entry_of (items_of m) i.0 (newest_of m i.0 (late_of lo m i.0 i.1).0).0)
    | inr k ↦ let i = mutation_of es (take lo m) e a.entered k in subst (Has (map entry_of (items_of m))) i.2 (has_map entry_of (items_of m) i.0 (from_front lo m i.0 i.1))
  ];
  newest = λ e h. let i = from_map entry_of (live m) e h in subst (Has (new ++ es)) i.2 (newest_there i.0 i.1);
  rising = rises_join (λ (r : Item). r.seq) rs late a.rising (late_rise lo m) (λ r i h k. omega (arith, old_bound r h, (late_of lo m i k).1));
  bound = λ r h. elim (from_append rs late r h) [
    | inl k ↦ ((a.bound r k).0, omega (arith, old_bound r k, short))
    | inr k ↦ item_within m r (newest_of m r (late_of lo m r k).0).0
  ];
  recorded = λ r e h k s. elim (from_append rs late r h) [
    | inl b ↦ elim (from_append new es e k) [
      | inl c ↦ absurd (omega (arith, old_bound r b, new_above e c, s))
      | inr c ↦ from_front lo m r (a.recorded r e b c s)
    ]
    | inr b ↦ (newest_of m r (late_of lo m r b).0).0
  ];
  numbers = λ n. omega (arith, times_append (λ (r : Item). r.seq) n rs late, times_append (λ (e : Entry). e.seq) n new es, a.numbers n, new_numbers n);
  replaced = λ i d h k s. let r = from_map (λ (r : Item). dead_of (entry_of r)) rs d (a.sizes d k) in
      let named : r.0.seq ≡ d.seq = ap (λ (d : Dead). d.seq) r.2 in
      a.replaced i d (live_in_front lo m i h (omega (arith, old_bound r.0 r.1, named, s))) k s;
  sizes = λ d k. let r = from_map (λ (r : Item). dead_of (entry_of r)) rs d (a.sizes d k) in
      subst (Has (map (λ (r : Item). dead_of (entry_of r)) (rs ++ late))) r.2 (has_map (λ (r : Item). dead_of (entry_of r)) (rs ++ late) r.0 (has_left rs late r.0 r.1));
}
  where
    late : List Item
    late = filter (λ (i : Item). nat_lt lo i.seq) (live m)

    old_bound : (r : Item) → Has rs r → r.seq ≤ lo
    old_bound r h = omega (arith, (a.bound r h).1, length_front lo m short)

    new_of : (e : Entry) → Has new e → (i : Item) × Has late i × (entry_of i ≡ e)
    new_of e h = from_map entry_of late e (same.there e h)

    new_above : (e : Entry) → Has new e → lo < e.seq
    new_above e h = let i = new_of e h in subst (λ (f : Entry). lo < f.seq) i.2 (late_of lo m i.0 i.1).1

    new_within : Within new (map entry_of (items_of m))
    new_within e h = let i = new_of e h in subst (Has (map entry_of (items_of m))) i.2 (has_map entry_of (items_of m) i.0 (newest_of m i.0 (late_of lo m i.0 i.1).0).0)

    newest_there : (i : Item) → Has (live m) i → Has (new ++ es) (entry_of i)
    newest_there i h = elim (cases_lt lo i.seq) [
      | inl l ↦ has_left new es (entry_of i) (same.back (entry_of i) (has_map entry_of late i (is_late lo m i h l)))
      | inr l ↦ has_right new es (entry_of i) (a.newest (entry_of i) (has_map entry_of (live (take lo m)) i (live_in_front lo m i h l)))
    ]

    new_numbers : (n : ℕ) → times (λ (r : Item). r.seq) n late ≡ times (λ (e : Entry). e.seq) n new
    new_numbers n = times_same (λ (r : Item). r.seq) (λ (e : Entry). e.seq) n late new (times_once (λ (r : Item). r.seq) n late (late_rise lo m))
        (once_by_key new n keys (λ e f h k s. one_entry new m e f new_within h k s))
        (λ i h s. (entry_of i, same.back (entry_of i) (has_map entry_of late i h), s))
        (λ e h s. let i = new_of e h in (i.0, i.1, ap (λ (f : Entry). f.seq) i.2 ∙ s))

records_added : (segments : List (List Item)) (segment : List Item) → records_of (segments ++ segment ∷ []) ≡ records_of segments ++ segment
records_added segments segment = flat_map-append (λ (s : List Item). s) segments (segment ∷ []) ∙ ap (λ (rs : List Item). records_of segments ++ rs) (append-nil segment)

pub flush_stands : (l : Layout) (m : Mutations) (lo hi : ℕ) (run : Run) (segment : List Item) → Stands l (take lo m) → lo < hi → hi ≤ length m
    → IsFlush m lo hi run segment → Stands (with_flush l run segment) (take hi m)
flush_stands l m lo hi run segment s above within f = record {
  runs = (f.is_run, s.runs);
  intervals = (f.ends ∙ sym long, omega (arith, f.begins, f.ends, above), subst (λ (k : ℕ). Spans k 0 l.runs) (length_front lo m (omega (arith, above, within)) ∙ sym f.begins) s.intervals);
  agree = subst (λ (rs : List Item). Agree (run.entries ++ entries_of l.runs) rs l.deletes (take hi m)) (ap (λ (seg : List Item). records_of l.segments ++ seg) (sym f.kept) ∙ sym (records_added l.segments segment))
      (agree_added (entries_of l.runs) (records_of l.segments) l.deletes run.entries (take hi m) lo (omega (arith, long, above))
      (subst (Agree (entries_of l.runs) (records_of l.segments) l.deletes) (sym (take-take lo hi m (omega (arith, above)))) s.agree) f.is_run.keys f.entries);
}
  where
    long : length (take hi m) ≡ hi
    long = length_front hi m within
