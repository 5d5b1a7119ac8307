-- Entries of the index by their keys and their numbers.
use Rattle.std.proofs.Common.{◌≡◌, inl, inr, ℕ, ◌≤◌, List, [], ◌∷◌, map, false, cond, Some, refl, ap, ◌∙◌, sym, arith}
use Rattle.std.specs.Cmp.Lexicographic.{slice_cmp}
use Rattle.std.specs.List.{find}
use Rattle.std.specs.List.Sorted.{IsStrictlySortedBy}
use Rattle.std.specs.Ordering.{is_eq, is_lt, nat_cmp, ordering_reverse}
use Rattle.std.specs.Str.{bytes_eq}
use Rattle.std.specs.declared.cmp.Ordering.TheVariants.{Less}
use Rattle.std.proofs.lemmas.Bool.{both_ways, cases_eq}
use Rattle.std.proofs.lemmas.Cmp.{nat_list_cmp_total}
use Rattle.std.proofs.lemmas.Map.Keys.{sorted_head, sorted_tail}
use Rattle.std.proofs.lemmas.Map.Text.{is_eq-slice_cmp}
use Rattle.mg_types.specs.declared.items.Entry.{Entry}
use Rattle.mg_types.specs.declared.items.Item.{Item}
use Rattle.mg_model.specs.Mutations.{Mutations, items_of}
use Rattle.mg_core.specs.Lists.{Has, Within, times}
use Rattle.mg_core.specs.Layouts.{entry_of}
use Rattle.mg_core.proofs.ListLemmas.{Ordered, all_has, bytes_same, from_map, has_map, same_ordered, times_hit, times_miss, times_none}
use Rattle.mg_core.proofs.ItemLemmas.{one_item}

-- each entry that agrees with a list is that of one of its mutations
pub mutation_of : (es : List Entry) (m : Mutations) (e : Entry) → Within es (map entry_of (items_of m)) → Has es e → (i : Item) × Has (items_of m) i × (entry_of i ≡ e)
mutation_of es m e w h = from_map entry_of (items_of m) e (w e h)

-- entries of one list with one number are one
pub one_entry : (es : List Entry) (m : Mutations) (e f : Entry) → Within es (map entry_of (items_of m)) → Has es e → Has es f → e.seq ≡ f.seq → e ≡ f
one_entry es m e f w h k s =
    let i = mutation_of es m e w h in
    let j = mutation_of es m f w k in
    let seqs : i.0.seq ≡ j.0.seq = ap (λ (g : Entry). g.seq) i.2 ∙ s ∙ sym (ap (λ (g : Entry). g.seq) j.2) in
    sym i.2 ∙ ap entry_of (one_item m i.0 j.0 i.1 j.1 seqs) ∙ j.2

-- the first of sorted keys is less than the others
first_key : (e : Entry) (es : List Entry) (f : Entry) → IsStrictlySortedBy (slice_cmp nat_cmp) (map (λ (e : Entry). e.key) (e ∷ es)) → Has es f → slice_cmp nat_cmp e.key f.key ≡ Less
first_key e es f s h =
    all_has (λ (k : List ℕ). slice_cmp nat_cmp e.key k ≡ Less) (map (λ (e : Entry). e.key) es) (sorted_head (slice_cmp nat_cmp) e.key (map (λ (e : Entry). e.key) es) s) f.key (has_map (λ (e : Entry). e.key) es f h)

later_keys : (e : Entry) (es : List Entry) → IsStrictlySortedBy (slice_cmp nat_cmp) (map (λ (e : Entry). e.key) (e ∷ es)) → IsStrictlySortedBy (slice_cmp nat_cmp) (map (λ (e : Entry). e.key) es)
later_keys e es s = sorted_tail (slice_cmp nat_cmp) e.key (map (λ (e : Entry). e.key) es) s

-- keys of which one is less are not the same
not_same_key : (a b : List ℕ) → slice_cmp nat_cmp a b ≡ Less → bytes_eq a b ≡ false
not_same_key a b l = sym (is_eq-slice_cmp a b) ∙ ap is_eq l

-- where keys strictly rise and one number has one key, a number occurs once at most
pub once_by_key : (es : List Entry) (n : ℕ) → IsStrictlySortedBy (slice_cmp nat_cmp) (map (λ (e : Entry). e.key) es) → ((e f : Entry) → Has es e → Has es f → e.seq ≡ f.seq → e ≡ f) → times (λ (e : Entry). e.seq) n es ≤ 1
once_by_key [] n s one = omega arith
once_by_key (e ∷ es) n s one = elim (cases_eq e.seq n) [
  | inl i ↦ omega (arith, times_hit (λ (e : Entry). e.seq) n e es i, times_none (λ (e : Entry). e.seq) n es (λ f h j. other f h (one e f (inl refl) (inr h) (i ∙ sym j))))
  | inr ne ↦ omega (arith, times_miss (λ (e : Entry). e.seq) n e es ne, once_by_key es n (later_keys e es s) (λ f g h k. one f g (inr h) (inr k)))
]
  where
    other : (f : Entry) → Has es f → e ≡ f → ⊥
    other f h i = both_ways (bytes_eq e.key f.key) (not_same_key e.key f.key (first_key e es f s h)) (bytes_same e.key f.key (ap (λ (g : Entry). g.key) i))

pub find_key : (es : List Entry) (e : Entry) (key : List ℕ) → IsStrictlySortedBy (slice_cmp nat_cmp) (map (λ (e : Entry). e.key) es) → Has es e → e.key ≡ key → find (λ (f : Entry). bytes_eq f.key key) es ≡ Some e
find_key [] e key s h k = absurd h
find_key (z ∷ es) e key s (inl i) k = ap (λ b. cond b (Some z) (find (λ (f : Entry). bytes_eq f.key key) es)) (bytes_same z.key key (ap (λ (f : Entry). f.key) i ∙ k)) ∙ ap Some i
find_key (z ∷ es) e key s (inr h) k =
    ap (λ b. cond b (Some z) (find (λ (f : Entry). bytes_eq f.key key) es)) (ap (bytes_eq z.key) (sym k) ∙ not_same_key z.key e.key (first_key z es e s h)) ∙ find_key es e key (later_keys z es s) h k

-- lists of entries with sorted keys and the same members are one

ordered_by_key : (es : List Entry) → IsStrictlySortedBy (slice_cmp nat_cmp) (map (λ (e : Entry). e.key) es) → Ordered (λ (e f : Entry). slice_cmp nat_cmp e.key f.key ≡ Less) es
ordered_by_key [] s = tt
ordered_by_key (e ∷ es) s = (λ f h. first_key e es f s h, ordered_by_key es (later_keys e es s))

pub same_sorted : (es fs : List Entry) → IsStrictlySortedBy (slice_cmp nat_cmp) (map (λ (e : Entry). e.key) es) → IsStrictlySortedBy (slice_cmp nat_cmp) (map (λ (e : Entry). e.key) fs)
    → Within es fs → Within fs es → es ≡ fs
same_sorted es fs s t there back = same_ordered (λ (e f : Entry). slice_cmp nat_cmp e.key f.key ≡ Less) (λ e f a b. once e.key f.key a b) es fs (ordered_by_key es s) (ordered_by_key fs t) there back
  where
    not_both : Less ≡ ordering_reverse Less → ⊥
    not_both e = both_ways (is_lt (ordering_reverse Less)) refl (sym (ap is_lt e))

    once : (a b : List ℕ) → slice_cmp nat_cmp a b ≡ Less → slice_cmp nat_cmp b a ≡ Less → ⊥
    once a b l k = not_both (sym l ∙ (nat_list_cmp_total.antisymm a b ∙ ap ordering_reverse k))
