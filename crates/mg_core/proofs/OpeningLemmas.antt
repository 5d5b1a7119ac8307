-- The list to which a layout opens.
use Rattle.std.proofs.Common.{◌≡◌, inl, inr, ℕ, [], take, zero, suc, ◌+◌, ◌<◌, ◌≤◌, List, ◌∷◌, length, map, ◌==◌, Option, None, Some, refl, ap, subst, ◌∙◌, sym, arith}
use Rattle.std.specs.List.{find}
use Rattle.std.proofs.lemmas.List.{length-take, take_all}
use Rattle.mg_model.specs.State.{State, length_of, marks_of}
use Rattle.std.specs.Option.{option_map}
use Rattle.std.proofs.lemmas.Bool.{cases_eq, eq-eqb, eqb-true}
use Rattle.mg_types.specs.declared.items.Entry.{Entry}
use Rattle.mg_types.specs.declared.items.Item.{Item}
use Rattle.mg_model.specs.Mutations.{Mutations, items_from, items_of, item_of, live, newest}
use Rattle.mg_core.specs.Lists.{Has, RisesBy, Within, occurs}
use Rattle.mg_core.specs.Layouts.{Layout, Spans, Stands, entries_of, entry_of, records_of}
use Rattle.mg_core.specs.Need.{NeedSame}
use Rattle.mg_core.specs.Opening.{entered_records, opened, opened_records, opened_state, places_from, records_back}
use Rattle.mg_core.specs.Keeping.{Holds, Keeps}
use Rattle.mg_core.proofs.ListLemmas.{from_append, from_map, has_all, has_left, has_right, find_one, find_some, same_rising, from_filter, from_occurs, has_filter, has_map, newest_least, one_member, occurs_from, rises_filter}
use Rattle.mg_core.proofs.ItemLemmas.{from_front, in_front, one_item, at_most_newest, is_live, item_within, live_rises, newest_item, newest_of}
use Rattle.mg_core.proofs.EntryLemmas.{mutation_of}
use Rattle.mg_core.proofs.ReadLemmas.{live_record, record_there}

-- a list without some of the replaced mutations has the same newest ones
pub live_between : (less m : Mutations) → Within (items_of less) (items_of m) → Within (live m) (items_of less) → live less ≡ live m
live_between less m w l = same_rising (λ (i : Item). i.seq) (live less) (live m) (live_rises less) (live_rises m) there back
  where
    there : Within (live less) (live m)
    there i h =
        let q = newest_of less i h in
        let k = w i q.0 in
        let j = newest_item m i.key (omega (arith, at_most_newest m i k, (item_within m i k).0)) in
        is_live m i k (omega (arith, at_most_newest m i k, at_most_newest less j.0 (l j.0 j.1), ap (newest less) j.2, q.1, j.3))

    back : Within (live m) (live less)
    back i h =
        let k = l i h in
        let least = newest_least (λ (j : Item). j.key) (λ (j : Item). j.seq) (items_of less) i.key i.seq
        (λ j q e. omega (arith, at_most_newest m j (w j q), ap (newest m) e, (newest_of m i h).1)) in
        is_live less i k (omega (arith, least, at_most_newest less i k))

-- a record by its fields
whole_record : (n : ℕ) (r : Item) → r.seq ≡ n → item_of n (record { key = r.key; doc = r.doc }) ≡ r
whole_record n r e = ap (λ (k : ℕ). item_of k (record { key = r.key; doc = r.doc })) (sym e)

-- the mutations of the opened list are records
place_record : (rs : List Item) (n c : ℕ) (i : Item) → Has (items_from n (places_from rs n c)) i → Has rs i
place_record rs n zero i h = absurd h
place_record rs n (suc c) i h = by_option (find (λ (r : Item). r.seq == n) rs) refl h (λ k. place_record rs (n + 1) c i k)
  where
    by_option : (o : Option Item) → find (λ (r : Item). r.seq == n) rs ≡ o → Has (items_from n (option_map (λ (r : Item). record { key = r.key; doc = r.doc }) o ∷ places_from rs (n + 1) c)) i
        → (Has (items_from (n + 1) (places_from rs (n + 1) c)) i → Has rs i) → Has rs i
    by_option None e k rest = rest k
    by_option (Some r) e (inl s) rest = let q = find_some (λ (r : Item). r.seq == n) rs r e in subst (Has rs) (sym (whole_record n r (eqb-true r.seq n q.1)) ∙ s) q.0
    by_option (Some r) e (inr k) rest = rest k

-- each record within the list is there, where one number is one record
place_there : (rs : List Item) (n c : ℕ) (i : Item) → ((r q : Item) → Has rs r → Has rs q → r.seq ≡ q.seq → r ≡ q) → Has rs i → n ≤ i.seq → i.seq < n + c → Has (items_from n (places_from rs n c)) i
place_there rs n zero i one h a b = absurd (omega (arith, a, b))
place_there rs n (suc c) i one h a b = elim (cases_eq i.seq n) [
  | inl e ↦ here (find (λ (r : Item). r.seq == n) rs) (find_one (λ (r : Item). r.seq == n) rs i h (eq-eqb i.seq n e) (λ r k t. one r i k h (eqb-true r.seq n t ∙ sym e))) e
  | inr ne ↦ behind (find (λ (r : Item). r.seq == n) rs) (place_there rs (n + 1) c i one h (omega (arith, a, ne)) (omega (arith, b)))
]
  where
    here : (o : Option Item) → o ≡ Some i → i.seq ≡ n → Has (items_from n (option_map (λ (r : Item). record { key = r.key; doc = r.doc }) o ∷ places_from rs (n + 1) c)) i
    here o e s = subst (λ (o : Option Item). Has (items_from n (option_map (λ (r : Item). record { key = r.key; doc = r.doc }) o ∷ places_from rs (n + 1) c)) i) (sym e) (inl (whole_record n i s))

    behind : (o : Option Item) → Has (items_from (n + 1) (places_from rs (n + 1) c)) i → Has (items_from n (option_map (λ (r : Item). record { key = r.key; doc = r.doc }) o ∷ places_from rs (n + 1) c)) i
    behind None k = k
    behind (Some r) k = inr k

length_places : (rs : List Item) (n c : ℕ) → length (places_from rs n c) ≡ c
length_places rs n zero = refl
length_places rs n (suc c) = ap suc (length_places rs (n + 1) c)

-- the records that have an entry's number

entered_of : (l : Layout) (m : Mutations) (r : Item) → Stands l m → Has (entered_records l) r → Has (items_of m) r
entered_of l m r s h =
    let q = from_filter (λ (r : Item). occurs (λ (e : Entry). e.seq) (entries_of l.runs) r.seq) (records_of l.segments) r h in
    let e = from_occurs (λ (e : Entry). e.seq) (entries_of l.runs) r.seq q.1 in
    s.agree.recorded r e.0 q.0 e.1 (sym e.2)

is_entered : (l : Layout) (r : Item) (e : Entry) → Has (records_of l.segments) r → Has (entries_of l.runs) e → e.seq ≡ r.seq → Has (entered_records l) r
is_entered l r e h k s = has_filter (λ (r : Item). occurs (λ (e : Entry). e.seq) (entries_of l.runs) r.seq) (records_of l.segments) r h (occurs_from (λ (e : Entry). e.seq) (entries_of l.runs) e r.seq k s)

entered_rise : (l : Layout) (m : Mutations) → Stands l m → RisesBy (λ (r : Item). r.seq) (entered_records l)
entered_rise l m s = rises_filter (λ (r : Item). r.seq) (λ (r : Item). occurs (λ (e : Entry). e.seq) (entries_of l.runs) r.seq) (records_of l.segments) s.agree.rising

opened_there : (l : Layout) (m : Mutations) (r : Item) → Stands l m → Has (entered_records l) r → Has (items_of (opened (entered_records l) (length m))) r
opened_there l m r s h =
    let q = item_within m r (entered_of l m r s h) in
    place_there (entered_records l) 1 (length m) r (λ q k a b e. one_member (λ (r : Item). r.seq) (entered_records l) q k (entered_rise l m s) a b e) h q.0 (omega (arith, q.1))

-- the newest mutations have entries, and so they are among the records that entries name
live_entered : (l : Layout) (m : Mutations) (i : Item) → Stands l m → Has (live m) i → Has (entered_records l) i
live_entered l m i s h = is_entered l i (entry_of i) (live_record l m i s h) (s.agree.newest (entry_of i) (has_map entry_of (live m) i h)) refl

-- Where a layout stands for a list, take another list with no other mutations, but with those that the entries name: it has the
-- same newest ones, and where it is as long, the layout stands for it.

same_live : (l : Layout) (m new : Mutations) → Stands l m → Within (items_of new) (items_of m) → Within (entered_records l) (items_of new) → live new ≡ live m
same_live l m new s held there = live_between new m held (λ i h. there i (live_entered l m i s h))

stands_too : (l : Layout) (m new : Mutations) → Stands l m → length new ≡ length m → Within (items_of new) (items_of m) → Within (entered_records l) (items_of new) → Stands l new
stands_too l m new s long held there = record {
  runs = s.runs;
  intervals = subst (λ (n : ℕ). Spans n 0 l.runs) (sym long) s.intervals;
  agree = record {
    entered = λ e h. let j = mutation_of (entries_of l.runs) m e s.agree.entered h in
        let own = subst (Has (entries_of l.runs)) (sym j.2) h in
        subst (Has (map entry_of (items_of new))) j.2
        (has_map entry_of (items_of new) j.0 (there j.0 (is_entered l j.0 (entry_of j.0) (record_there l m j.0 s j.1 own) own refl)));
    newest = subst (λ (is : List Item). Within (map entry_of is) (entries_of l.runs)) (sym same) s.agree.newest;
    rising = s.agree.rising;
    bound = λ r h. let q = s.agree.bound r h in (q.0, omega (arith, q.1, long));
    recorded = λ r e h k t. there r (is_entered l r e h k (sym t));
    numbers = s.agree.numbers;
    replaced = λ i d h k. s.agree.replaced i d (subst (λ (is : List Item). Has is i) same h) k;
    sizes = s.agree.sizes;
  };
}
  where
    same : live new ≡ live m
    same = same_live l m new s held there

-- the list that one layout opens to

opened_held : (l : Layout) (m : Mutations) → Stands l m → Within (items_of (opened (entered_records l) (length m))) (items_of m)
opened_held l m s i h = entered_of l m i s (place_record (entered_records l) 1 (length m) i h)

pub opened_live : (l : Layout) (m : Mutations) → Stands l m → live (opened (entered_records l) (length m)) ≡ live m
opened_live l m s = same_live l m (opened (entered_records l) (length m)) s (opened_held l m s) (λ r h. opened_there l m r s h)

pub opened_stands : (l : Layout) (m : Mutations) → Stands l m → Stands l (opened (entered_records l) (length m))
opened_stands l m s = stands_too l m (opened (entered_records l) (length m)) s (length_places (entered_records l) 1 (length m)) (opened_held l m s) (λ r h. opened_there l m r s h)

-- the list that is opened with the layouts of marks

from_back : (kept : List (ℕ × Layout)) (i : Item) → Has (records_back kept) i → (k : ℕ × Layout) × Has kept k × Has (entered_records k.1) i
from_back [] i h = absurd h
from_back (k ∷ kept) i h = elim (from_append (records_back kept) (entered_records k.1) i h) [
  | inl b ↦ let r = from_back kept i b in (r.0, inr r.1, r.2)
  | inr b ↦ (k, inl refl, b)
]

in_back : (kept : List (ℕ × Layout)) (k : ℕ × Layout) (i : Item) → Has kept k → Has (entered_records k.1) i → Has (records_back kept) i
in_back [] k i h b = absurd h
in_back (z ∷ kept) k i (inl e) b = has_right (records_back kept) (entered_records z.1) i (subst (λ (q : ℕ × Layout). Has (entered_records q.1) i) (sym e) b)
in_back (z ∷ kept) k i (inr h) b = has_left (records_back kept) (entered_records z.1) i (in_back kept k i h b)

abbrev kept_list : Layout → List (ℕ × Layout) → State → Mutations
kept_list l kept s = opened (opened_records l kept) (length_of s)

-- the present layout stands for the whole list
present_whole : (l : Layout) (kept : List (ℕ × Layout)) (s : State) → Keeps l kept (length_of s) s → Stands l s.mutations
present_whole l kept s h = subst (Stands l) (take_all (length_of s) s.mutations (omega arith)) h.present

-- each record that is taken is a mutation of the list
records_held : (l : Layout) (kept : List (ℕ × Layout)) (s : State) → Keeps l kept (length_of s) s → Within (opened_records l kept) (items_of s.mutations)
records_held l kept s h i b = elim (from_append (entered_records l) (records_back kept) i b) [
  | inl c ↦ entered_of l s.mutations i (present_whole l kept s h) c
  | inr c ↦ let q = from_back kept i c in from_front q.0.0 s.mutations i (entered_of q.0.1 (take q.0.0 s.mutations) i (h.marked q.0 q.1) q.2)
]

kept_held : (l : Layout) (kept : List (ℕ × Layout)) (s : State) → Keeps l kept (length_of s) s → Within (items_of (kept_list l kept s)) (items_of s.mutations)
kept_held l kept s h i b = records_held l kept s h i (place_record (opened_records l kept) 1 (length_of s) i b)

kept_there : (l : Layout) (kept : List (ℕ × Layout)) (s : State) → Keeps l kept (length_of s) s → Within (opened_records l kept) (items_of (kept_list l kept s))
kept_there l kept s h i b =
    let q = item_within s.mutations i (records_held l kept s h i b) in
    place_there (opened_records l kept) 1 (length_of s) i (λ r t a c e. one_item s.mutations r t (records_held l kept s h r a) (records_held l kept s h t c) e) b q.0 (omega (arith, q.1))

-- the same of the places up to a mark

front_held : (l : Layout) (kept : List (ℕ × Layout)) (s : State) → Keeps l kept (length_of s) s → (c : ℕ) → Within (items_of (take c (kept_list l kept s))) (items_of (take c s.mutations))
front_held l kept s h c i b =
    let new = kept_list l kept s in
    in_front c s.mutations i (kept_held l kept s h i (from_front c new i b)) (omega (arith, (item_within (take c new) i b).1, length-take c new))

front_there : (l : Layout) (kept : List (ℕ × Layout)) (s : State) → Keeps l kept (length_of s) s → (k : ℕ × Layout) → Has kept k → Within (entered_records k.1) (items_of (take k.0 (kept_list l kept s)))
front_there l kept s h k b i c =
    let first = take k.0 s.mutations in
    in_front k.0 (kept_list l kept s) i (kept_there l kept s h i (has_right (entered_records l) (records_back kept) i (in_back kept k i b c)))
    (omega (arith, (item_within first i (entered_of k.1 first i (h.marked k b) c)).1, length-take k.0 s.mutations))

pub opened_need : (l : Layout) (kept : List (ℕ × Layout)) (s : State) → Keeps l kept (length_of s) s → marks_of s ≡ map (λ (k : ℕ × Layout). k.0) kept → NeedSame s (opened_state l kept (length_of s) s.epoch)
opened_need l kept s h marks = record {
  lengths = sym (length_places (opened_records l kept) 1 (length_of s));
  same_marks = marks;
  epochs = refl;
  within = has_all (λ (mark : ℕ). mark ≤ length_of s) (marks_of s) (λ mark b. let k = of_mark mark b in omega (arith, k.2, h.low k.0 k.1));
  newest = sym (same_live l s.mutations (kept_list l kept s) (present_whole l kept s h) (kept_held l kept s h) (λ r b. kept_there l kept s h r (has_left (entered_records l) (records_back kept) r b)));
  marked = has_all (λ (mark : ℕ). live (take mark s.mutations) ≡ live (take mark (kept_list l kept s))) (marks_of s)
      (λ mark b. let k = of_mark mark b in subst (λ (n : ℕ). live (take n s.mutations) ≡ live (take n (kept_list l kept s))) k.2
      (sym (same_live k.0.1 (take k.0.0 s.mutations) (take k.0.0 (kept_list l kept s)) (h.marked k.0 k.1) (front_held l kept s h k.0.0) (front_there l kept s h k.0 k.1))));
}
  where
    of_mark : (mark : ℕ) → Has (marks_of s) mark → (k : ℕ × Layout) × Has kept k × (k.0 ≡ mark)
    of_mark mark b = from_map (λ (k : ℕ × Layout). k.0) kept mark (subst (λ (ms : List ℕ). Has ms mark) marks b)

opened_keeps : (l : Layout) (kept : List (ℕ × Layout)) (s : State) → Keeps l kept (length_of s) s → Keeps l kept (length_of s) (opened_state l kept (length_of s) s.epoch)
opened_keeps l kept s h = record {
  within = omega (arith, long);
  present = subst (Stands l) (sym (take_all (length_of s) (kept_list l kept s) (omega (arith, long))))
      (stands_too l s.mutations (kept_list l kept s) (present_whole l kept s h) long (kept_held l kept s h) (λ r b. kept_there l kept s h r (has_left (entered_records l) (records_back kept) r b)));
  low = h.low;
  marked = λ k b. stands_too k.1 (take k.0 s.mutations) (take k.0 (kept_list l kept s)) (h.marked k b)
      (omega (arith, long, length-take k.0 s.mutations, length-take k.0 (kept_list l kept s))) (front_held l kept s h k.0) (front_there l kept s h k b);
  whole = λ mark b c. b;
}
  where
    long : length (kept_list l kept s) ≡ length_of s
    long = length_places (opened_records l kept) 1 (length_of s)

-- all places are in files, and so there is no frozen memtable
pub opened_holds : (l : Layout) (kept : List (ℕ × Layout)) (s : State) → Keeps l kept (length_of s) s → Holds l kept (length_of s) [] (opened_state l kept (length_of s) s.epoch)
opened_holds l kept s h = record {
  keeps = opened_keeps l kept s h;
  rising = (tt, tt);
  inside = λ hi b. absurd b;
  above = λ mark b c. let k = from_map (λ (k : ℕ × Layout). k.0) kept mark b in absurd (omega (arith, k.2, h.low k.0 k.1, c));
}
