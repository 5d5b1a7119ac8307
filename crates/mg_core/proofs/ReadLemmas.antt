-- Reads and feeds by a layout are those of the list.
use Rattle.std.proofs.Common.{◌≡◌, ◌↔◌, inl, inr, ℕ, ◌<◌, ◌≤◌, List, [], ◌∷◌, length, Bool, true, false, not, ◌==◌, Option, None, Some, refl, ap, subst, ◌∙◌, sym, arith, append-nil}
use Rattle.std.specs.Bool.{if◌then◌else◌}
use Rattle.std.specs.List.{AllByRecursion}
use Rattle.std.specs.Option.{is_some, option_and_then, option_map, option_map_or}
use Rattle.std.specs.Str.{bytes_eq}
use Rattle.std.proofs.lemmas.Bool.{both_ways, cases_lt, eqb-true, eq-eqb, ne_eqb}
use Rattle.mg_types.specs.declared.items.Dead.{Dead}
use Rattle.mg_types.specs.declared.items.Entry.{Entry}
use Rattle.mg_types.specs.declared.items.Item.{Item}
use Rattle.mg_types.specs.Items.{is_set}
use Rattle.mg_model.specs.Mutations.{Mutations, item_at, items_of, live, newest, read}
use Rattle.mg_core.specs.Lists.{Has, Within, newest_by, times}
use Rattle.mg_core.specs.Layouts.{IsRun, Layout, Run, Spans, Stands, Tight, entries_of, entry_of, records_of}
use Rattle.mg_core.specs.Reads.{first_of_two, found, is_led_to, led_records, read_by, read_entry, record_at}
use Rattle.mg_core.specs.Results.{is_kept}
use Rattle.mg_core.proofs.ListLemmas.{find_none, find_number, same_rising, from_append, from_filter, from_times, has_filter, has_left, has_map, has_right, has_times, newest_has, newest_upper, rises_filter, same_bytes, some_same}
use Rattle.mg_core.proofs.ItemLemmas.{at_most_newest, item_within, items_rise, live_rises, newest_item, newest_of, one_item}
use Rattle.mg_core.proofs.EntryLemmas.{find_key, mutation_of}
use Rattle.mg_core.proofs.MergeLemmas.{spans_fall}

-- the entry of a key, by runs from the newest to the oldest

pub run_below : (hi lo : ℕ) (runs : List Run) (e : Entry) → Spans hi lo runs → AllByRecursion IsRun runs → Has (entries_of runs) e → e.seq ≤ hi
run_below hi lo [] e s a h = absurd h
run_below hi lo (r ∷ rs) e s a h = elim (from_append r.entries (entries_of rs) e h) [
  | inl k ↦ omega (arith, (a.0.within e k).1, s.0)
  | inr k ↦ omega (arith, run_below r.lo lo rs e s.2 a.1 k, s.0, s.1)
]

pub run_above : (hi lo : ℕ) (runs : List Run) (e : Entry) → Spans hi lo runs → AllByRecursion IsRun runs → Has (entries_of runs) e → lo < e.seq
run_above hi lo [] e s a h = absurd h
run_above hi lo (r ∷ rs) e s a h = elim (from_append r.entries (entries_of rs) e h) [
  | inl k ↦ omega (arith, (a.0.within e k).0, spans_fall r.lo lo rs s.2)
  | inr k ↦ run_above r.lo lo rs e s.2 a.1 k
]

found_absent : (runs : List Run) (key : List ℕ) → ((e : Entry) → Has (entries_of runs) e → e.key ≡ key → ⊥) → found runs key ≡ None
found_absent [] key none = refl
found_absent (r ∷ rs) key none =
    ap (λ o. first_of_two o (found rs key)) (find_none (λ (e : Entry). bytes_eq e.key key) r.entries (λ e h. by_test e h (bytes_eq e.key key) refl))
    ∙ found_absent rs key (λ e h. none e (has_right r.entries (entries_of rs) e h))
  where
    by_test : (e : Entry) → Has r.entries e → (b : Bool) → bytes_eq e.key key ≡ b → bytes_eq e.key key ≡ false
    by_test e h true t = absurd (none e (has_left r.entries (entries_of rs) e h) (same_bytes e.key key t))
    by_test e h false t = t

found_first : (hi lo : ℕ) (runs : List Run) (e : Entry) → Spans hi lo runs → AllByRecursion IsRun runs → Has (entries_of runs) e
    → ((f : Entry) → Has (entries_of runs) f → f.key ≡ e.key → f.seq ≤ e.seq) → found runs e.key ≡ Some e
found_first hi lo [] e s a h most = absurd h
found_first hi lo (r ∷ rs) e s a h most = elim (from_append r.entries (entries_of rs) e h) [
  | inl k ↦ ap (λ o. first_of_two o (found rs e.key)) (find_key r.entries e e.key a.0.keys k refl)
  | inr k ↦ ap (λ o. first_of_two o (found rs e.key)) (find_none (λ (f : Entry). bytes_eq f.key e.key) r.entries (λ f q. newer k f q (bytes_eq f.key e.key) refl))
      ∙ found_first r.lo lo rs e s.2 a.1 k (λ f q. most f (has_right r.entries (entries_of rs) f q))
]
  where
    newer : Has (entries_of rs) e → (f : Entry) → Has r.entries f → (b : Bool) → bytes_eq f.key e.key ≡ b → bytes_eq f.key e.key ≡ false
    newer k f q true t = absurd (omega (arith, run_below r.lo lo rs e s.2 a.1 k, (a.0.within f q).0, most f (has_left r.entries (entries_of rs) f q) (same_bytes f.key e.key t)))
    newer k f q false t = t

-- of neighbouring runs, the first that has a key has the key's greatest number
pub kept_is_found : (hi lo : ℕ) (runs : List Run) (e : Entry) → Spans hi lo runs → AllByRecursion IsRun runs → Has (entries_of runs) e → (is_kept (entries_of runs) e ≡ true) ↔ (found runs e.key ≡ Some e)
kept_is_found hi lo runs e s a h = (there, back)
  where
    greatest_of : List ℕ → ℕ
    greatest_of key = newest_by (λ (e : Entry). e.key) (λ (e : Entry). e.seq) (entries_of runs) key

    upper : (f : Entry) (key : List ℕ) → Has (entries_of runs) f → f.key ≡ key → f.seq ≤ greatest_of key
    upper f key k n = newest_upper (λ (e : Entry). e.key) (λ (e : Entry). e.seq) (entries_of runs) f key k n

    there : is_kept (entries_of runs) e ≡ true → found runs e.key ≡ Some e
    there t = found_first hi lo runs e s a h (λ f k n. omega (arith, upper f e.key k n, eqb-true (greatest_of e.key) e.seq t))

    back : found runs e.key ≡ Some e → is_kept (entries_of runs) e ≡ true
    back first =
        let g = newest_has (λ (e : Entry). e.key) (λ (e : Entry). e.seq) (entries_of runs) e.key (omega (arith, upper e e.key h refl, run_above hi lo runs e s a h)) in
        let other = found_first hi lo runs g.0 s a g.1 (λ f k n. omega (arith, upper f e.key k (n ∙ g.2), g.3)) in
        let same = some_same e g.0 (sym first ∙ (ap (found runs) (sym g.2) ∙ other)) in
        eq-eqb (greatest_of e.key) e.seq (sym (ap (λ (f : Entry). f.seq) same ∙ g.3))

-- the entries of a key are at most its newest mutation
entry_at_most : (l : Layout) (m : Mutations) (e : Entry) (key : List ℕ) → Stands l m → Has (entries_of l.runs) e → e.key ≡ key → (1 ≤ e.seq) × (e.seq ≤ newest m key)
entry_at_most l m e key s h k =
    let j = mutation_of (entries_of l.runs) m e s.agree.entered h in
    let same : j.0.key ≡ key = ap (λ (f : Entry). f.key) j.2 ∙ k in
    let number : j.0.seq ≡ e.seq = ap (λ (f : Entry). f.seq) j.2 in
    (omega (arith, (item_within m j.0 j.1).0, number), omega (arith, at_most_newest m j.0 j.1, ap (newest m) same, number))

pub found_none : (l : Layout) (m : Mutations) (key : List ℕ) → Stands l m → newest m key ≡ 0 → found l.runs key ≡ None
found_none l m key s e = found_absent l.runs key (λ f h k. let q = entry_at_most l m f key s h k in omega (arith, q.0, q.1, e))

pub found_live : (l : Layout) (m : Mutations) (i : Item) → Stands l m → Has (live m) i → found l.runs i.key ≡ Some (entry_of i)
found_live l m i s h =
    found_first (length m) 0 l.runs (entry_of i) s.intervals s.runs (s.agree.newest (entry_of i) (has_map entry_of (live m) i h))
    (λ f q k. omega (arith, (entry_at_most l m f i.key s q k).1, (newest_of m i h).1))

pub item_none : (m : Mutations) (n : ℕ) → n ≡ 0 → item_at m n ≡ None
item_none m n e = find_none (λ (i : Item). i.seq == n) (items_of m) (λ i h. ne_eqb i.seq n (λ k. omega (arith, (item_within m i h).0, k, e)))

pub item_there : (m : Mutations) (i : Item) (n : ℕ) → Has (items_of m) i → i.seq ≡ n → item_at m n ≡ Some i
item_there m i n h e = find_number (λ (i : Item). i.seq) (items_of m) i n (items_rise m) h e

pub found_is_newest : (l : Layout) (m : Mutations) (key : List ℕ) → Stands l m → found l.runs key ≡ option_map entry_of (item_at m (newest m key))
found_is_newest l m key s = elim (cases_lt 0 (newest m key)) [
  | inl l0 ↦ let i = newest_item m key l0 in
      ap (found l.runs) (sym i.2) ∙ found_live l m i.0 s i.1 ∙ sym (ap (option_map entry_of) (item_there m i.0 (newest m key) (newest_of m i.0 i.1).0 i.3))
  | inr l0 ↦ let none : newest m key ≡ 0 = omega (arith, l0) in found_none l m key s none ∙ sym (ap (option_map entry_of) (item_none m (newest m key) none))
]

-- the record of an entry
pub record_there : (l : Layout) (m : Mutations) (i : Item) → Stands l m → Has (items_of m) i → Has (entries_of l.runs) (entry_of i) → Has (records_of l.segments) i
record_there l m i s h k =
    let r = from_times (λ (r : Item). r.seq) i.seq (records_of l.segments) (omega (arith, s.agree.numbers i.seq, has_times (λ (e : Entry). e.seq) i.seq (entries_of l.runs) (entry_of i) k refl)) in
    subst (Has (records_of l.segments)) (one_item m r.0 i (s.agree.recorded r.0 (entry_of i) r.1 k r.2) h r.2) r.1

-- the record with an entry's number is the list's mutation there, and has that entry
pub entry_record : (l : Layout) (m : Mutations) (e : Entry) → Stands l m → Has (entries_of l.runs) e → (record_at l e.seq ≡ item_at m e.seq) × (option_map entry_of (record_at l e.seq) ≡ Some e)
entry_record l m e s h =
    let i = mutation_of (entries_of l.runs) m e s.agree.entered h in
    let number : i.0.seq ≡ e.seq = ap (λ (f : Entry). f.seq) i.2 in
    let own = subst (Has (entries_of l.runs)) (sym i.2) h in
    let there : record_at l e.seq ≡ Some i.0 = find_number (λ (r : Item). r.seq) (records_of l.segments) i.0 e.seq s.agree.rising (record_there l m i.0 s i.1 own) number in
    (there ∙ sym (item_there m i.0 e.seq i.1 number), ap (option_map entry_of) there ∙ ap Some i.2)

pub live_record : (l : Layout) (m : Mutations) (i : Item) → Stands l m → Has (live m) i → Has (records_of l.segments) i
live_record l m i s h = record_there l m i s (newest_of m i h).0 (s.agree.newest (entry_of i) (has_map entry_of (live m) i h))

read_live : (l : Layout) (m : Mutations) (i : Item) → Stands l m → Has (live m) i → read_entry l (entry_of i) ≡ option_map (λ (doc : List ℕ). (i.seq, doc)) i.doc
read_live l m i s h =
    ap (λ o. if◌then◌else◌ {A = Option (ℕ × List ℕ)} (not (is_set i)) None (option_and_then (λ (r : Item). option_map (λ (doc : List ℕ). (r.seq, doc)) r.doc) o))
    (find_number (λ (r : Item). r.seq) (records_of l.segments) i i.seq s.agree.rising (live_record l m i s h) refl)
    ∙ by_doc i.seq i.doc
  where
    by_doc : (n : ℕ) (o : Option (List ℕ)) → if◌then◌else◌ {A = Option (ℕ × List ℕ)} (not (is_some o)) None (option_map (λ (doc : List ℕ). (n, doc)) o) ≡ option_map (λ (doc : List ℕ). (n, doc)) o
    by_doc n None = refl
    by_doc n (Some doc) = refl

pub read_is_read : (l : Layout) (m : Mutations) (key : List ℕ) → Stands l m → read_by l key ≡ read m key
read_is_read l m key s = elim (cases_lt 0 (newest m key)) [
  | inl l0 ↦ let i = newest_item m key l0 in
      ap (option_and_then (read_entry l)) (ap (found l.runs) (sym i.2) ∙ found_live l m i.0 s i.1)
      ∙ (read_live l m i.0 s i.1
      ∙ sym (ap (option_and_then (λ (j : Item). option_map (λ (doc : List ℕ). (j.seq, doc)) j.doc)) (item_there m i.0 (newest m key) (newest_of m i.0 i.1).0 i.3)))
  | inr l0 ↦ let none : newest m key ≡ 0 = omega (arith, l0) in
      ap (option_and_then (read_entry l)) (found_none l m key s none) ∙ sym (ap (option_and_then (λ (j : Item). option_map (λ (doc : List ℕ). (j.seq, doc)) j.doc)) (item_none m (newest m key) none))
]

-- the records to which the index leads

led_is_live : (l : Layout) (m : Mutations) (r : Item) → Stands l m → Has (led_records l) r → Has (live m) r
led_is_live l m r s h =
    let q = from_filter (is_led_to l) (records_of l.segments) r h in
    elim (cases_lt 0 (newest m r.key)) [
      | inl l0 ↦ let i = newest_item m r.key l0 in
          let led = ap (λ o. option_map_or (λ (e : Entry). e.seq == r.seq) o false) (sym (ap (found l.runs) (sym i.2) ∙ found_live l m i.0 s i.1)) ∙ q.1 in
          let number : i.0.seq ≡ r.seq = eqb-true i.0.seq r.seq led in
          let there = s.agree.recorded r (entry_of i.0) q.0 (s.agree.newest (entry_of i.0) (has_map entry_of (live m) i.0 i.1)) (sym number) in
          subst (Has (live m)) (one_item m i.0 r (newest_of m i.0 i.1).0 there number) i.1
      | inr l0 ↦ let none : newest m r.key ≡ 0 = omega (arith, l0) in
          absurd (both_ways (is_led_to l r) (ap (λ o. option_map_or (λ (e : Entry). e.seq == r.seq) o false) (found_none l m r.key s none)) q.1)
    ]

live_is_led : (l : Layout) (m : Mutations) (i : Item) → Stands l m → Has (live m) i → Has (led_records l) i
live_is_led l m i s h =
    has_filter (is_led_to l) (records_of l.segments) i (live_record l m i s h)
    (ap (λ o. option_map_or (λ (e : Entry). e.seq == i.seq) o false) (found_live l m i s h) ∙ eq-eqb i.seq i.seq refl)

pub led_are_live : (l : Layout) (m : Mutations) → Stands l m → led_records l ≡ live m
led_are_live l m s = same_rising (λ (i : Item). i.seq) (led_records l) (live m) (rises_filter (λ (i : Item). i.seq) (is_led_to l) (records_of l.segments) s.agree.rising) (live_rises m)
    (λ r h. led_is_live l m r s h) (λ i h. live_is_led l m i s h)

-- a tight layout

one_run : (runs : List Run) (e f : Entry) → length runs ≤ 1 → AllByRecursion IsRun runs → Has (entries_of runs) e → Has (entries_of runs) f → e.key ≡ f.key → e ≡ f
one_run [] e f l a h k s = absurd h
one_run (r ∷ []) e f l a h k s =
    let there = subst (λ (es : List Entry). Has es e) (append-nil r.entries) h in
    let other = subst (λ (es : List Entry). Has es f) (append-nil r.entries) k in
    some_same e f (sym (find_key r.entries e f.key a.0.keys there s) ∙ find_key r.entries f f.key a.0.keys other refl)
one_run (r ∷ r' ∷ runs) e f l a h k s = absurd (omega (arith, l))

pub tight_records : (l : Layout) (m : Mutations) → Tight l m → records_of l.segments ≡ live m
tight_records l m t = same_rising (λ (i : Item). i.seq) (records_of l.segments) (live m) t.stands.agree.rising (live_rises m) there (λ i h. live_record l m i t.stands h)
  where
    there : Within (records_of l.segments) (live m)
    there r h =
        let a = t.stands.agree in
        let none : times (λ (d : Dead). d.seq) r.seq l.deletes ≡ 0 = ap (times (λ (d : Dead). d.seq) r.seq) t.deletes in
        let e = from_times (λ (e : Entry). e.seq) r.seq (entries_of l.runs) (omega (arith, a.numbers r.seq, none, has_times (λ (r : Item). r.seq) r.seq (records_of l.segments) r h refl)) in
        let k = a.recorded r e.0 h e.1 (sym e.2) in
        let j = mutation_of (entries_of l.runs) m e.0 a.entered e.1 in
        let same : j.0 ≡ r = one_item m j.0 r j.1 k (ap (λ (f : Entry). f.seq) j.2 ∙ e.2) in
        let i = newest_item m r.key (omega (arith, at_most_newest m r k, (item_within m r k).0)) in
        let one = one_run l.runs (entry_of i.0) e.0 t.runs t.stands.runs (a.newest (entry_of i.0) (has_map entry_of (live m) i.0 i.1)) e.1
        (i.2 ∙ (ap (λ (i : Item). i.key) (sym same) ∙ ap (λ (f : Entry). f.key) j.2)) in
        subst (Has (live m)) (one_item m i.0 r (newest_of m i.0 i.1).0 k (ap (λ (f : Entry). f.seq) one ∙ e.2)) i.1
