-- A map that is copied entry by entry.
use Rattle.std.proofs.Common.{◌≡◌, inl, List, [], ◌∷◌, ◌++◌, map, Bor, ℕ, refl, ap, subst, ◌∙◌, sym}
use Rattle.std.specs.BTreeMap.{BTreeMap, IsOrdered, insert_entry}
use Rattle.std.specs.Cmp.Lexicographic.{slice_cmp}
use Rattle.std.specs.Iterator.{Yields}
use Rattle.std.specs.List.Sorted.{IsStrictlySortedBy}
use Rattle.std.specs.Map.{keys_of}
use Rattle.std.specs.Map.Iter.{TakesFirst, deref_pair}
use Rattle.std.specs.Ordering.{match_ordering, nat_cmp, ordering_reverse}
use Rattle.std.specs.declared.cmp.Ordering.{Ordering}
use Rattle.std.specs.declared.cmp.Ordering.TheVariants.{Less}
use Rattle.std.proofs.lemmas.Cmp.{nat_list_cmp_total}
use Rattle.std.proofs.lemmas.List.{map-append}
use Rattle.std.proofs.lemmas.Map.Iter.{rest_so_far}
use Rattle.std.proofs.lemmas.Map.Keys.{sorted_head, sorted_tail}
use Rattle.mg_types.specs.declared.items.Item.{Item}
use Rattle.mg_types.specs.declared.keys.Key.{Key}
use Rattle.mg_core.proofs.ListLemmas.{all_has, has_map, has_right}

-- an entry whose key is above the others goes behind them
insert_last : (es : List (Key × Item)) (k : Key) (i : Item) (rest : List (Key × Item)) → IsStrictlySortedBy (slice_cmp nat_cmp) (keys_of (es ++ (k, i) ∷ rest))
    → insert_entry (slice_cmp nat_cmp) es k i ≡ es ++ (k, i) ∷ []
insert_last [] k i rest s = refl
insert_last (e ∷ es) k i rest s =
    ap (λ (o : Ordering). match_ordering o ((k, i) ∷ e ∷ es) ((e.0, i) ∷ es) (e ∷ insert_entry (slice_cmp nat_cmp) es k i)) (nat_list_cmp_total.antisymm k e.0 ∙ ap ordering_reverse below)
    ∙ ap (λ (ds : List (Key × Item)). e ∷ ds) (insert_last es k i rest (sorted_tail (slice_cmp nat_cmp) e.0 (keys_of (es ++ (k, i) ∷ rest)) s))
  where
    below : slice_cmp nat_cmp e.0 k ≡ Less
    below =
        all_has (λ (a : List ℕ). slice_cmp nat_cmp e.0 a ≡ Less) (keys_of (es ++ (k, i) ∷ rest)) (sorted_head (slice_cmp nat_cmp) e.0 (keys_of (es ++ (k, i) ∷ rest)) s) k
        (has_map (λ (d : Key × Item). d.0) (es ++ (k, i) ∷ rest) (k, i) (has_right es ((k, i) ∷ rest) (k, i) (inl refl)))

-- the next entry of a map in a copy of those before it
pub copied_more : (all : BTreeMap Key Item) (copy new : List (Key × Item)) (xs : List (Bor Key × Bor Item)) (s t u : List (Key × Item)) (x : Bor Key × Bor Item) → s ≡ all.entries → IsOrdered (slice_cmp nat_cmp) all
    → Yields (TakesFirst deref_pair) s xs t → t ≡ deref_pair x ∷ u → copy ≡ map deref_pair xs → new ≡ insert_entry (slice_cmp nat_cmp) copy x.0.now x.1.now → new ≡ map deref_pair (xs ++ x ∷ [])
copied_more all copy new xs s t u x start ordered given next copied put =
    put ∙ ap (λ (es : List (Key × Item)). insert_entry (slice_cmp nat_cmp) es x.0.now x.1.now) copied ∙ insert_last (map deref_pair xs) x.0.now x.1.now u (subst (λ (es : List (Key × Item)). IsStrictlySortedBy (slice_cmp nat_cmp) (keys_of es)) whole ordered)
    ∙ sym (map-append deref_pair xs (x ∷ []))
  where
    whole : all.entries ≡ map deref_pair xs ++ (x.0.now, x.1.now) ∷ u
    whole = sym start ∙ rest_so_far deref_pair xs s t given ∙ ap (λ (es : List (Key × Item)). map deref_pair xs ++ es) next
