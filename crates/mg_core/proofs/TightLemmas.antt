-- What a tight layout has, and which jobs lead to one.
use Rattle.std.proofs.Common.{◌≡◌, ℕ, ◌≤◌, List, [], ◌∷◌, ◌++◌, length, map, not, refl, ap, subst, sym, arith, append-nil}
use Rattle.std.specs.List.{sum_by}
use Rattle.std.proofs.lemmas.Bool.{both_ways, not-true}
use Rattle.mg_types.specs.declared.items.Dead.{Dead}
use Rattle.mg_types.specs.declared.items.Entry.{Entry}
use Rattle.mg_types.specs.declared.items.Item.{Item}
use Rattle.mg_types.specs.Items.{size_of}
use Rattle.mg_model.specs.Mutations.{Mutations, live}
use Rattle.mg_core.specs.Lists.{Has, SameMembers, occurs, times}
use Rattle.mg_core.specs.Layouts.{Layout, Run, Stands, Tight, dead_of, entries_of, entry_of, records_of}
use Rattle.mg_core.specs.Results.{Divides, IsClean, IsMerge, unless_empty, with_clean, with_merge}
use Rattle.mg_core.proofs.ListLemmas.{from_filter, from_map, from_times, has_map, has_times, no_members, occurs_from, same_sum}
use Rattle.mg_core.proofs.EntryLemmas.{one_entry}
use Rattle.mg_core.proofs.MergeLemmas.{merge_stands}
use Rattle.mg_core.proofs.CleanLemmas.{clean_stands}
use Rattle.mg_core.proofs.ReadLemmas.{tight_records}
use Rattle.mg_core.proofs.ResultLemmas.{records_are_as_many}

-- the entries of a tight layout

entry_of_live : (l : Layout) (m : Mutations) (e : Entry) (i : Item) → Stands l m → Has (entries_of l.runs) e → Has (live m) i → e.seq ≡ i.seq → e ≡ entry_of i
entry_of_live l m e i s h k n = one_entry (entries_of l.runs) m e (entry_of i) s.agree.entered h (s.agree.newest (entry_of i) (has_map entry_of (live m) i k)) n

tight_numbers : (l : Layout) (m : Mutations) → Tight l m → (n : ℕ) → times (λ (e : Entry). e.seq) n (entries_of l.runs) ≡ times (λ (i : Item). i.seq) n (live m)
tight_numbers l m t n = omega (arith, t.stands.agree.numbers n, ap (times (λ (i : Item). i.seq) n) (tight_records l m t), ap (times (λ (d : Dead). d.seq) n) t.deletes)

pub tight_entries : (l : Layout) (m : Mutations) → Tight l m → SameMembers (entries_of l.runs) (map entry_of (live m))
tight_entries l m t = record { there = there; back = t.stands.agree.newest }
  where
    there : (e : Entry) → Has (entries_of l.runs) e → Has (map entry_of (live m)) e
    there e h =
        let i = from_times (λ (i : Item). i.seq) e.seq (live m) (omega (arith, tight_numbers l m t e.seq, has_times (λ (e : Entry). e.seq) e.seq (entries_of l.runs) e h refl)) in
        subst (Has (map entry_of (live m))) (sym (entry_of_live l m e i.0 t.stands h i.1 (sym i.2))) (has_map entry_of (live m) i.0 i.1)

pub tight_count : (l : Layout) (m : Mutations) → Tight l m → length (entries_of l.runs) ≡ length (live m)
tight_count l m t = omega (arith, records_are_as_many l m t.stands, ap (λ (is : List Item). length is) (tight_records l m t), ap (λ (ds : List Dead). length ds) t.deletes)

pub tight_sizes : (l : Layout) (m : Mutations) → Tight l m → sum_by (λ (e : Entry). e.size) (entries_of l.runs) ≡ sum_by size_of (live m)
tight_sizes l m t =
    same_sum (λ (e : Entry). e.seq) (λ (i : Item). i.seq) (λ (e : Entry). e.size) size_of (entries_of l.runs) (live m) (tight_numbers l m t)
    (λ e i h k n. ap (λ (e : Entry). e.size) (entry_of_live l m e i t.stands h k n))

-- what a compact does

all_chosen : (ds : List Dead) → Divides ds ds []
all_chosen ds = record {
  members = λ d h. subst (λ (es : List Dead). Has es d) (append-nil ds) h;
  numbers = λ n. ap (times (λ (d : Dead). d.seq) n) (append-nil ds);
}

-- over all segments each delete entry finds its record
none_left : (l : Layout) (m : Mutations) (segment : List Item) (rest : List Dead) → Stands l m → IsClean (records_of l.segments) l.deletes segment rest → rest ≡ []
none_left l m segment rest s f = no_members rest none
  where
    none : (d : Dead) → Has rest d → ⊥
    none d h =
        let q = from_filter (λ (d : Dead). not (occurs (λ (r : Item). r.seq) (records_of l.segments) d.seq)) l.deletes d (f.deletes.there d h) in
        let r = from_map (λ (r : Item). dead_of (entry_of r)) (records_of l.segments) d (s.agree.sizes d q.0) in
        both_ways (occurs (λ (r : Item). r.seq) (records_of l.segments) d.seq) (not-true (occurs (λ (r : Item). r.seq) (records_of l.segments) d.seq) q.1)
        (occurs_from (λ (r : Item). r.seq) (records_of l.segments) r.0 d.seq r.1 (ap (λ (d : Dead). d.seq) r.2))

pub cleaned_tight : (l : Layout) (m : Mutations) (segment : List Item) (rest : List Dead) → Stands l m → length l.runs ≤ 1 → IsClean (records_of l.segments) l.deletes segment rest
    → (rest ≡ []) × Tight (with_clean l [] segment [] rest []) m
cleaned_tight l m segment rest s one f = (
  none_left l m segment rest s f,
  record {
    stands = clean_stands l m [] l.segments [] l.deletes [] rest segment s (sym (append-nil l.segments)) (all_chosen l.deletes) f;
    runs = one;
    segments = one_file segment;
    deletes = ap (λ (ds : List Dead). ds ++ []) (none_left l m segment rest s f);
  },
)
  where
    one_file : (xs : List Item) → length (unless_empty xs ++ []) ≤ 1
    one_file [] = omega arith
    one_file (x ∷ xs) = omega arith

pub compacted_tight : (l : Layout) (m : Mutations) (run : Run) (dead rest : List Dead) (segment : List Item) → Stands l m → IsMerge l.runs run dead
    → IsClean (records_of l.segments) (dead ++ l.deletes) segment rest → (rest ≡ []) × Tight (with_clean (with_merge l [] run [] dead) [] segment [] rest []) m
compacted_tight l m run dead rest segment s f g =
    cleaned_tight (with_merge l [] run [] dead) m segment rest (merge_stands l m [] l.runs [] run dead s (sym (append-nil l.runs)) f) (omega arith) g
