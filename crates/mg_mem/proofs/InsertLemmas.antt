-- What a write makes of a memtable.
use Rattle.std.proofs.Common.{◌≡◌, ◌⊎◌, inl, inr, ℕ, ◌+◌, ◌-◌, ◌*◌, ◌<◌, ◌≤◌, ◌^◌, List, [], ◌∷◌, ◌++◌, length, map, Bool, true, false, not, cond, ◌||◌, Option, None, Some, refl, ap, subst, ◌∙◌, sym, arith, length-append}
use Rattle.std.specs.BTreeMap.{BTreeMap, IsOrdered, btree_map_len, get, insert_entry, is_at, values}
use Rattle.std.specs.Cmp.Lexicographic.{slice_cmp}
use Rattle.std.specs.List.{AllByRecursion, filter, sum_by}
use Rattle.std.specs.List.Sorted.{IsStrictlySortedBy}
use Rattle.std.specs.Map.{keys_of, lookup, values_of}
use Rattle.std.specs.Option.{is_some, option_map_or}
use Rattle.std.specs.Ordering.{is_eq, match_ordering, nat_cmp}
use Rattle.std.specs.Prelude.{IfSome}
use Rattle.std.specs.Str.{bytes_eq}
use Rattle.std.specs.declared.cmp.Ordering.{Ordering}
use Rattle.std.specs.declared.cmp.Ordering.TheVariants.{Equal, Greater, Less}
use Rattle.std.proofs.lemmas.Cmp.{nat_list_cmp_total}
use Rattle.std.specs.Cmp.Lexicographic.{nat_list_eq_equiv}
use Rattle.std.proofs.lemmas.List.Sums.{sum_by-cons}
use Rattle.std.proofs.lemmas.Map.{lookup-none}
use Rattle.std.proofs.lemmas.Map.Entries.{length-values_of, none_below_head}
use Rattle.std.proofs.lemmas.Map.Keys.{sorted_tail}
use Rattle.std.proofs.lemmas.Map.Text.{is_eq-slice_cmp}
use Rattle.mg_types.specs.Bytes.{IsDoc}
use Rattle.mg_types.specs.Items.{size_of}
use Rattle.mg_types.specs.declared.items.Item.{Item}
use Rattle.mg_types.specs.declared.keys.Key.{Key}
use Rattle.mg_model.specs.declared.mutations.Mutation.{Mutation}
use Rattle.mg_model.specs.Mutations.{Mutations, item_of}
use Rattle.mg_core.specs.Lists.{Has}
use Rattle.mg_core.specs.Memtables.{has_key, item_of_key, laid_over}
use Rattle.mg_core.specs.Results.{fresh}
use Rattle.mg_core.proofs.ListLemmas.{bytes_same, find_some, from_append, from_filter, has_filter, has_left, has_right, one_of_times, same_bytes, some_same}
use Rattle.mg_core.proofs.MemtableLemmas.{memtable_write}
use Rattle.mg_mem.specs.Memtable.{HoldsNewest, IsKept, IsMemtable, IsWritten, Memtable}
use Rattle.mg_mem.proofs.KeyLemmas.{RisesByKey, found_member, once_of_keys}

-- keys that compare as equal are the same
pub equal_keys : (a b : List ℕ) → slice_cmp nat_cmp a b ≡ Equal → a ≡ b
equal_keys a b e = same_bytes a b (sym (is_eq-slice_cmp a b) ∙ ap is_eq e)

-- each entry's key is that of its item
abbrev pub AreKeyed : List (Key × Item) → Type 0
AreKeyed es = AllByRecursion (λ (e : Key × Item). e.0 ≡ e.1.key) es

abbrev pub item_key : Item → List ℕ
item_key i = i.key

-- the keys of a map's items are its own
pub keys_are : (es : List (Key × Item)) → AreKeyed es → keys_of es ≡ map item_key (values_of es)
keys_are [] k = refl
keys_are (e ∷ es) k = ap (λ (a : List ℕ). a ∷ keys_of es) k.0 ∙ ap (λ (ks : List (List ℕ)). e.1.key ∷ ks) (keys_are es k.1)

-- a look-up in the map finds the item of the key
pub found_by_key : (es : List (Key × Item)) (key : List ℕ) → AreKeyed es → lookup (λ (k : List ℕ). is_eq (slice_cmp nat_cmp key k)) es ≡ item_of_key (values_of es) key
found_by_key [] key k = refl
found_by_key (e ∷ es) key k =
    ap (λ (b : Bool). cond b (Some e.1) (lookup (λ (k : List ℕ). is_eq (slice_cmp nat_cmp key k)) es)) (is_eq-slice_cmp key e.0 ∙ turned key e.0 ∙ ap (λ (a : List ℕ). bytes_eq a key) k.0)
    ∙ ap (λ (o : Option Item). cond (bytes_eq e.1.key key) (Some e.1) o) (found_by_key es key k.1)
  where
    turned : (a b : List ℕ) → bytes_eq a b ≡ bytes_eq b a
    turned = nat_list_eq_equiv.symm

-- an entry that is put in is under its item's key too
pub keyed_insert : (es : List (Key × Item)) (k : Key) (i : Item) → k ≡ i.key → AreKeyed es → AreKeyed (insert_entry (slice_cmp nat_cmp) es k i)
keyed_insert [] k i e keyed = (e, tt)
keyed_insert (z ∷ es) k i e keyed = by_order (slice_cmp nat_cmp k z.0) refl (keyed_insert es k i e keyed.1)
  where
    by_order : (o : Ordering) → slice_cmp nat_cmp k z.0 ≡ o → AreKeyed (insert_entry (slice_cmp nat_cmp) es k i) → AreKeyed (match_ordering o ((k, i) ∷ z ∷ es) ((z.0, i) ∷ es) (z ∷ insert_entry (slice_cmp nat_cmp) es k i))
    by_order Less c rest = (e, keyed)
    by_order Equal c rest = (sym (equal_keys k z.0 c) ∙ e, keyed.1)
    by_order Greater c rest = (keyed.0, rest)

-- the sum over the items, with one that is put in and without the one that it replaces
pub sum_insert : (f : Item → ℕ) (es : List (Key × Item)) (k : Key) (i : Item) → IsStrictlySortedBy (slice_cmp nat_cmp) (keys_of es)
    → sum_by f (values_of (insert_entry (slice_cmp nat_cmp) es k i)) + option_map_or f (lookup (is_at (slice_cmp nat_cmp k)) es) 0 ≡ sum_by f (values_of es) + f i
sum_insert f [] k i s = omega (arith, sum_by-cons f i [])
sum_insert f (z ∷ es) k i s = by_order (slice_cmp nat_cmp k z.0) refl (sum_insert f es k i (sorted_tail (slice_cmp nat_cmp) z.0 (keys_of es) s))
  where
    none : slice_cmp nat_cmp k z.0 ≡ Less → lookup (is_at (slice_cmp nat_cmp k)) es ≡ None
    none c = lookup-none (is_at (slice_cmp nat_cmp k)) es (none_below_head nat_list_cmp_total k z es s c).1

    by_order : (o : Ordering) → slice_cmp nat_cmp k z.0 ≡ o
        → sum_by f (values_of (insert_entry (slice_cmp nat_cmp) es k i)) + option_map_or f (lookup (is_at (slice_cmp nat_cmp k)) es) 0 ≡ sum_by f (values_of es) + f i
        → sum_by f (values_of (match_ordering o ((k, i) ∷ z ∷ es) ((z.0, i) ∷ es) (z ∷ insert_entry (slice_cmp nat_cmp) es k i))) + option_map_or f (cond (is_eq o) (Some z.1) (lookup (is_at (slice_cmp nat_cmp k)) es)) 0 ≡ sum_by f (values_of (z ∷ es)) + f i
    by_order Less c rest = omega (arith, sum_by-cons f i (z.1 ∷ values_of es), ap (λ (o : Option Item). option_map_or f o 0) (none c))
    by_order Equal c rest = omega (arith, sum_by-cons f i (values_of es), sum_by-cons f z.1 (values_of es))
    by_order Greater c rest = omega (arith, rest, sum_by-cons f z.1 (values_of (insert_entry (slice_cmp nat_cmp) es k i)), sum_by-cons f z.1 (values_of es))

-- items after a write, by their keys
module _ (old new : List Item) (i : Item) (rises : RisesByKey item_key new) (puts : (key : List ℕ) → item_of_key new key ≡ cond (bytes_eq i.key key) (Some i) (item_of_key old key)) where
  -- a member is what was written, or an older one of another key
  pub from_write : (j : Item) → Has new j → (j ≡ i) ⊎ (Has old j × (bytes_eq i.key j.key ≡ false))
  from_write j h = by_key (bytes_eq i.key j.key) refl (sym (puts j.key) ∙ found_member item_key new j j.key rises h refl)
    where
      by_key : (b : Bool) → bytes_eq i.key j.key ≡ b → cond b (Some i) (item_of_key old j.key) ≡ Some j → (j ≡ i) ⊎ (Has old j × (bytes_eq i.key j.key ≡ false))
      by_key true e found = inl (sym (some_same i j found))
      by_key false e found = inr ((find_some (λ (k : Item). bytes_eq k.key j.key) old j found).0, e)

  pub is_written : Has new i
  is_written = (find_some (λ (k : Item). bytes_eq k.key i.key) new i (puts i.key ∙ ap (λ (b : Bool). cond b (Some i) (item_of_key old i.key)) (bytes_same i.key i.key refl))).0

  -- an older one of another key stays
  pub stays : RisesByKey item_key old → (j : Item) → Has old j → bytes_eq i.key j.key ≡ false → Has new j
  stays were j h other =
      (find_some (λ (k : Item). bytes_eq k.key j.key) new j (puts j.key ∙ ap (λ (b : Bool). cond b (Some i) (item_of_key old j.key)) other ∙ found_member item_key old j j.key were h refl)).0

  -- a memtable after a write
  pub memtable_after : (lo hi : ℕ) → IsMemtable (record { lo = lo; hi = hi; items = old }) → i.seq ≡ hi + 1 → IsWritten i → length new ≤ length old + 1 → IsMemtable (record { lo = lo; hi = i.seq; items = new })
  memtable_after lo hi were next fits grown = record {
    keys = rises;
    within = λ j h. elim (from_write j h) [
      | inl e ↦ let same : j.seq ≡ i.seq = ap (λ (k : Item). k.seq) e in let few = were.few in (omega (arith, same, next, few), omega (arith, same))
      | inr k ↦ let w = were.within j k.0 in (w.0, omega (arith, w.1, next))
    ];
    once = λ n. once_of_keys item_key (λ (k : Item). k.seq) n new rises (λ j k h g e. one j k (from_write j h) (from_write k g) e);
    few = let few = were.few in omega (arith, few, next, grown);
    written = λ j h. elim (from_write j h) [ inl e ↦ subst IsWritten (sym e) fits | inr k ↦ were.written j k.0 ];
  }
    where
      below : (j : Item) → Has old j → j.seq ≡ i.seq → ⊥
      below j h e = let w = were.within j h in omega (arith, w.1, e, next)

      one : (j k : Item) → (j ≡ i) ⊎ (Has old j × (bytes_eq i.key j.key ≡ false)) → (k ≡ i) ⊎ (Has old k × (bytes_eq i.key k.key ≡ false)) → j.seq ≡ k.seq → j ≡ k
      one j k (inl a) (inl b) e = a ∙ sym b
      one j k (inl a) (inr b) e = absurd (below k b.0 (sym e ∙ ap (λ (l : Item). l.seq) a))
      one j k (inr a) (inl b) e = absurd (below j a.0 (e ∙ ap (λ (l : Item). l.seq) b))
      one j k (inr a) (inr b) e = one_of_times (λ (l : Item). l.seq) old j k (were.once j.seq) a.0 b.0 e

  -- what a write of the list's next mutation makes holds the newest ones
  pub newest_after : (m : Mutations) (x : Mutation) (lo hi : ℕ) → RisesByKey item_key old → HoldsNewest m (record { lo = lo; hi = hi; items = old }) → hi ≡ length m → i ≡ item_of (length m + 1) x
      → HoldsNewest (m ++ Some x ∷ []) (record { lo = lo; hi = i.seq; items = new })
  newest_after m x lo hi were held end is = record {
    rises = let rises = held.rises in omega (arith, rises, end, number);
    inside = let longer = length-append m (Some x ∷ []) in omega (arith, longer, number);
    items = record {
      there = λ j h. subst (λ (js : List Item). Has js j) (sym laid) (elim (from_write j h) [
        | inl e ↦ has_right (kept (newest hi)) (i ∷ []) j (inl (sym e))
        | inr k ↦ has_left (kept (newest hi)) (i ∷ []) j (has_filter other (newest hi) j (held.items.there j k.0) (tested j k.1))
      ]);
      back = λ j h. elim (from_append (kept (newest hi)) (i ∷ []) j (subst (λ (js : List Item). Has js j) laid h)) [
        | inl k ↦ let f = from_filter other (newest hi) j k in stays were j (held.items.back j f.0) (untested j f.1)
        | inr k ↦ elim k [ inl e ↦ subst (Has new) e is_written | inr none ↦ absurd none ]
      ];
    };
  }
    where
      number : i.seq ≡ length m + 1
      number = ap (λ (j : Item). j.seq) is

      newest : ℕ → List Item
      newest n = fresh m lo n

      other : Item → Bool
      other j = not (has_key (i ∷ []) j.key)

      kept : List Item → List Item
      kept items = filter other items

      tested : (j : Item) → bytes_eq i.key j.key ≡ false → other j ≡ true
      tested j e = ap (λ (b : Bool). not (b || false)) e

      untested : (j : Item) → other j ≡ true → bytes_eq i.key j.key ≡ false
      untested j e = by_key (bytes_eq i.key j.key) refl e
        where
          by_key : (b : Bool) → bytes_eq i.key j.key ≡ b → not (b || false) ≡ true → b ≡ false
          by_key true t n = absurd (cc)
          by_key false t n = refl

      laid : fresh (m ++ Some x ∷ []) lo i.seq ≡ laid_over (newest hi) (i ∷ [])
      laid =
          ap (λ (n : ℕ). fresh (m ++ Some x ∷ []) lo n) number ∙ memtable_write m lo x (let rises = held.rises in omega (arith, rises, end))
          ∙ ap (λ (j : Item). laid_over (fresh m lo (length m)) (j ∷ [])) (sym is) ∙ ap (λ (n : ℕ). laid_over (fresh m lo n) (i ∷ [])) (sym end)

-- sizes

doc_small : (o : Option (List ℕ)) → IfSome o (λ (d : List ℕ). IsDoc d) → option_map_or (λ (d : List ℕ). length d) o 0 ≤ 1048576
doc_small None h = omega arith
doc_small (Some d) h = h

pub written_size : (i : Item) → IsWritten i → size_of i ≤ 1048826
written_size i w = let key = w.key.1 in omega (arith, key, doc_small i.doc w.doc)

sizes_small : (items : List Item) → ((i : Item) → Has items i → IsWritten i) → sum_by size_of items ≤ 1048826 * length items
sizes_small [] w = omega arith
sizes_small (i ∷ items) w = let more = sizes_small items (λ j h. w j (inr h)) in let one = written_size i (w i (inl refl)) in omega (arith, sum_by-cons size_of i items, more, one)

-- the bytes of a memtable are few
pub bytes_small : (t : Memtable) → IsMemtable t → t.hi < 2 ^ 40 → sum_by size_of t.items ≤ 1048826 * 2 ^ 40
bytes_small t is small = let few = is.few in let sizes = sizes_small t.items is.written in omega (arith, few, small, sizes)

-- what is replaced is part of the sum
pub found_within : (f : Item → ℕ) (test : Key → Bool) (es : List (Key × Item)) → option_map_or f (lookup test es) 0 ≤ sum_by f (values_of es)
found_within f test [] = omega arith
found_within f test (e ∷ es) = by_test (test e.0) (found_within f test es)
  where
    by_test : (b : Bool) → option_map_or f (lookup test es) 0 ≤ sum_by f (values_of es) → option_map_or f (cond b (Some e.1) (lookup test es)) 0 ≤ sum_by f (values_of (e ∷ es))
    by_test true rest = omega (arith, sum_by-cons f e.1 (values_of es))
    by_test false rest = omega (arith, sum_by-cons f e.1 (values_of es), rest)

-- an item was put into a map under its key
pub record IsPut (map new : BTreeMap Key Item) (k : Key) (i : Item) (older : Option Item) : Type 0 where
  pub same : k ≡ i.key
  pub was : IsOrdered (slice_cmp nat_cmp) map
  pub ordered : IsOrdered (slice_cmp nat_cmp) new
  pub entries : new.entries ≡ insert_entry (slice_cmp nat_cmp) map.entries k i
  pub updates : (q : Key) → get (slice_cmp nat_cmp) new q ≡ cond (is_at (slice_cmp nat_cmp k) q) (Some i) (get (slice_cmp nat_cmp) map q)
  pub found : older ≡ get (slice_cmp nat_cmp) map k
  pub len : btree_map_len new ≡ btree_map_len map + cond (is_some older) 0 1

module _ (map new : BTreeMap Key Item) (k : Key) (i : Item) (older : Option Item) (put : IsPut map new k i older) (keyed : AreKeyed map.entries) where
  keyed_after : AreKeyed new.entries
  keyed_after = subst AreKeyed (sym put.entries) (keyed_insert map.entries k i put.same keyed)

  rises_before : RisesByKey item_key (values map)
  rises_before = subst (λ (ks : List (List ℕ)). IsStrictlySortedBy (slice_cmp nat_cmp) ks) (keys_are map.entries keyed) put.was

  rises_after : RisesByKey item_key (values new)
  rises_after = subst (λ (ks : List (List ℕ)). IsStrictlySortedBy (slice_cmp nat_cmp) ks) (keys_are new.entries keyed_after) put.ordered

  -- each key has what it had, but the key of the item
  pub puts_item : (key : List ℕ) → item_of_key (values new) key ≡ cond (bytes_eq i.key key) (Some i) (item_of_key (values map) key)
  puts_item key =
      sym (found_by_key new.entries key keyed_after) ∙ put.updates key ∙ ap (λ (b : Bool). cond b (Some i) (get (slice_cmp nat_cmp) map key)) (is_eq-slice_cmp k key ∙ ap (λ (a : List ℕ). bytes_eq a key) put.same)
      ∙ ap (λ (o : Option Item). cond (bytes_eq i.key key) (Some i) o) (found_by_key map.entries key keyed)

  longer : length (values new) ≤ length (values map) + 1
  longer = by_older older put.len
    where
      by_older : (o : Option Item) → btree_map_len new ≡ btree_map_len map + cond (is_some o) 0 1 → length (values new) ≤ length (values map) + 1
      by_older None e = omega (arith, e, length-values_of map.entries, length-values_of new.entries)
      by_older (Some j) e = omega (arith, e, length-values_of map.entries, length-values_of new.entries)

  -- what was replaced is part of the bytes
  pub replaced_within : (bytes replaced : ℕ) → bytes ≡ sum_by size_of (values map) → replaced ≡ option_map_or size_of older 0 → replaced ≤ bytes
  replaced_within bytes replaced sum size =
      let within = found_within size_of (is_at (slice_cmp nat_cmp k)) map.entries in let is = ap (λ (o : Option Item). option_map_or size_of o 0) put.found in omega (arith, sum, size, within, is)

  -- what is kept of a memtable after a write
  pub kept_after : (lo hi bytes size replaced : ℕ) → IsKept (record { lo = lo; hi = hi; items = values map }) bytes map → i.seq ≡ hi + 1 → IsWritten i → size ≡ size_of i → replaced ≡ option_map_or size_of older 0
      → IsKept (record { lo = lo; hi = i.seq; items = values new }) (bytes - replaced + size) new
  kept_after lo hi bytes size replaced kept next fits size_is replaced_is = record {
    keyed = keyed_after;
    bytes_are =
        let within = replaced_within bytes replaced kept.bytes_are replaced_is in
        let is = ap (λ (o : Option Item). option_map_or size_of o 0) put.found in
        let sums = sum_insert size_of map.entries k i put.was in
        let same = ap (λ (es : List (Key × Item)). sum_by size_of (values_of es)) put.entries in
        let were = kept.bytes_are in omega (arith, within, is, sums, same, were, size_is, replaced_is);
    memtable = memtable_after (values map) (values new) i rises_after puts_item lo hi kept.memtable next fits longer;
  }

  -- the newest mutations of the list's interval after a write
  pub holds_after : (m : Mutations) (x : Mutation) (t : Memtable) (lo hi : ℕ) → record { lo = lo; hi = hi; items = values map } ≡ t → HoldsNewest m t → t.hi ≡ length m → i ≡ item_of (length m + 1) x
      → HoldsNewest (m ++ Some x ∷ []) (record { lo = lo; hi = i.seq; items = values new })
  holds_after m x t lo hi is held end item =
      newest_after (values map) (values new) i rises_after puts_item m x lo hi rises_before (subst (HoldsNewest m) (sym is) held) (ap (λ (u : Memtable). u.hi) is ∙ end) item
