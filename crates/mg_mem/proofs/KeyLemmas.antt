-- Lists whose keys strictly rise.
use Rattle.std.proofs.Common.{◌≡◌, inl, inr, ℕ, ◌≤◌, List, [], ◌∷◌, map, false, Some, refl, ap, ◌∙◌, sym, arith}
use Rattle.std.specs.Cmp.Lexicographic.{slice_cmp}
use Rattle.std.specs.List.{find}
use Rattle.std.specs.List.Sorted.{IsStrictlySortedBy}
use Rattle.std.specs.Ordering.{is_eq, nat_cmp}
use Rattle.std.specs.Str.{bytes_eq}
use Rattle.std.specs.declared.cmp.Ordering.TheVariants.{Less}
use Rattle.std.proofs.lemmas.Bool.{both_ways, cases_eq}
use Rattle.std.proofs.lemmas.Map.Keys.{sorted_head, sorted_tail}
use Rattle.std.proofs.lemmas.Map.Text.{is_eq-slice_cmp}
use Rattle.mg_core.specs.Lists.{Has, times}
use Rattle.mg_core.proofs.ListLemmas.{all_has, bytes_same, find_one, has_map, same_bytes, times_hit, times_miss, times_none}

-- the keys of a list strictly rise
abbrev pub RisesByKey : {X : Type 0} → (X → List ℕ) → List X → Type 0
RisesByKey key xs = IsStrictlySortedBy (slice_cmp nat_cmp) (map key xs)

-- keys of which one is less are not the same
pub less_keys : (a b : List ℕ) → slice_cmp nat_cmp a b ≡ Less → bytes_eq a b ≡ false
less_keys a b l = sym (is_eq-slice_cmp a b) ∙ ap is_eq l

module _ {X : Type 0} (key : X → List ℕ) where
  -- the first key is less than the others
  pub first_below : (z : X) (xs : List X) (x : X) → RisesByKey key (z ∷ xs) → Has xs x → slice_cmp nat_cmp (key z) (key x) ≡ Less
  first_below z xs x s h = all_has (λ (k : List ℕ). slice_cmp nat_cmp (key z) k ≡ Less) (map key xs) (sorted_head (slice_cmp nat_cmp) (key z) (map key xs) s) (key x) (has_map key xs x h)

  pub later_rise : (z : X) (xs : List X) → RisesByKey key (z ∷ xs) → RisesByKey key xs
  later_rise z xs s = sorted_tail (slice_cmp nat_cmp) (key z) (map key xs) s

  -- a later one has another key than the first
  other_key : (z : X) (xs : List X) (x : X) → RisesByKey key (z ∷ xs) → Has xs x → key z ≡ key x → ⊥
  other_key z xs x s h e = both_ways (bytes_eq (key z) (key x)) (less_keys (key z) (key x) (first_below z xs x s h)) (bytes_same (key z) (key x) e)

  -- one key has one member
  pub one_of_key : (xs : List X) (x y : X) → RisesByKey key xs → Has xs x → Has xs y → key x ≡ key y → x ≡ y
  one_of_key [] x y s h k e = absurd h
  one_of_key (z ∷ xs) x y s (inl a) (inl b) e = sym a ∙ b
  one_of_key (z ∷ xs) x y s (inl a) (inr k) e = absurd (other_key z xs y s k (ap key a ∙ e))
  one_of_key (z ∷ xs) x y s (inr h) (inl b) e = absurd (other_key z xs x s h (ap key b ∙ sym e))
  one_of_key (z ∷ xs) x y s (inr h) (inr k) e = one_of_key xs x y (later_rise z xs s) h k e

  -- a member is found by its key
  pub found_member : (xs : List X) (x : X) (k : List ℕ) → RisesByKey key xs → Has xs x → key x ≡ k → find (λ y. bytes_eq (key y) k) xs ≡ Some x
  found_member xs x k s h e = find_one (λ y. bytes_eq (key y) k) xs x h (bytes_same (key x) k e) (λ y i t. one_of_key xs y x s i h (same_bytes (key y) k t ∙ sym e))

  -- where one number has one member, a number occurs once at most
  pub once_of_keys : (f : X → ℕ) (n : ℕ) (xs : List X) → RisesByKey key xs → ((x y : X) → Has xs x → Has xs y → f x ≡ f y → x ≡ y) → times f n xs ≤ 1
  once_of_keys f n [] s one = omega arith
  once_of_keys f n (z ∷ xs) s one = elim (cases_eq (f z) n) [
    | inl i ↦ omega (arith, times_hit f n z xs i, times_none f n xs (λ x h j. other_key z xs x s h (ap key (one z x (inl refl) (inr h) (i ∙ sym j)))))
    | inr ne ↦ omega (arith, times_miss f n z xs ne, once_of_keys f n xs (later_rise z xs s) (λ x y h k. one x y (inr h) (inr k)))
  ]
