-- Lists in the order of their keys or of their numbers.
use Rattle.std.proofs.Common.{◌≡◌, ◌+◌, ◌<◌, ◌≤◌, inl, inr, ℕ, zero, suc, List, [], ◌∷◌, length, map, get_or, false, cond, ◌==◌, None, refl, ap, subst, ◌∙◌, sym, arith}
use Rattle.std.specs.Cmp.Lexicographic.{slice_cmp}
use Rattle.std.specs.List.{find}
use Rattle.std.specs.List.Sorted.{IsPartitionPoint, IsPermutation, IsSortedBy, IsSortedByKey}
use Rattle.std.specs.Ordering.{is_eq, is_lt, nat_cmp, ordering_reverse}
use Rattle.std.specs.Str.{bytes_eq}
use Rattle.std.specs.declared.cmp.Ordering.TheVariants.{Greater, Less}
use Rattle.std.proofs.Math.ListN.{get_or-map}
use Rattle.std.proofs.lemmas.Bool.{cases_eq, cases_lt}
use Rattle.std.proofs.lemmas.Cmp.{nat_cmp_total, nat_list_cmp_total}
use Rattle.std.proofs.lemmas.List.{length-map}
use Rattle.std.proofs.lemmas.List.Sorted.{Contains-permutation, IsPermutation-sym, ranks_by, sorted_far, sum_by-IsPermutation}
use Rattle.std.proofs.lemmas.Map.Keys.{Less-from_sorted, ge_from_not_lt}
use Rattle.std.proofs.lemmas.Map.Text.{is_eq-slice_cmp}
use Rattle.std.specs.List.{Contains}
use Rattle.mg_model.specs.State.{Rises}
use Rattle.mg_core.specs.Lists.{Has, RisesBy, SameMembers, times}
use Rattle.mg_core.proofs.ListLemmas.{find_none, has_times, rises_cons, times_hit, times_miss}
use Rattle.mg_mem.proofs.KeyLemmas.{RisesByKey, less_keys}

-- members and their places

pub has_at : {X : Type 0} (xs : List X) (k : ℕ) (d : X) → k < length xs → Has xs (get_or xs k d)
has_at [] k d lt = absurd (omega (arith, lt))
has_at (z ∷ xs) zero d lt = inl refl
has_at (z ∷ xs) (suc k) d lt = inr (has_at xs k d (omega (arith, lt)))

place_of : {X : Type 0} (xs : List X) (x : X) → Has xs x → (k : ℕ) × (k < length xs) × ((d : X) → get_or xs k d ≡ x)
place_of [] x h = absurd h
place_of (z ∷ xs) x (inl e) = (zero, omega arith, λ d. e)
place_of (z ∷ xs) x (inr h) = let p = place_of xs x h in (suc p.0, omega (arith, p.1), p.2)

contained : {X : Type 0} (xs : List X) (x : X) → Has xs x → Contains xs x
contained xs x h = let p = place_of xs x h in (p.0, p.1, p.2 x)

from_contained : {X : Type 0} (xs : List X) (x : X) → Contains xs x → Has xs x
from_contained xs x c = subst (Has xs) c.2 (has_at xs c.0 x c.1)

-- a list in another order has the same members
pub same_permuted : {X : Type 0} (xs ys : List X) → IsPermutation xs ys → SameMembers ys xs
same_permuted xs ys p = record {
  there = λ x h. from_contained xs x (Contains-permutation ys xs x (IsPermutation-sym xs ys p) (contained ys x h));
  back = λ x h. from_contained ys x (Contains-permutation xs ys x p (contained xs x h));
}

-- numbers that don't fall rise where none occurs twice
pub rises_sorted : {X : Type 0} (f : X → ℕ) (xs : List X) → IsSortedByKey f nat_cmp xs → ((n : ℕ) → times f n xs ≤ 1) → RisesBy f xs
rises_sorted f [] s once = tt
rises_sorted {X} f (z ∷ xs) s once = rises_cons f z xs above (rises_sorted f xs later fewer)
  where
    above : (x : X) → Has xs x → f z < f x
    above x h =
        let p = place_of xs x h in
        let far : is_lt (nat_cmp (f (get_or xs p.0 z)) (f z)) ≡ false = sorted_far (λ (x y : X). is_lt (nat_cmp (f x) (f y))) (ranks_by nat_cmp_total f) (z ∷ xs) s zero (suc p.0) z (omega arith) (omega (arith, p.1)) in
        let at_least = ge_from_not_lt (f x) (f z) (subst (λ (y : X). is_lt (nat_cmp (f y) (f z)) ≡ false) (p.2 z) far) in
        elim (cases_eq (f z) (f x)) [
          | inl e ↦ absurd (omega (arith, once (f z), times_hit f (f z) z xs refl, has_times f (f z) xs x h (sym e)))
          | inr ne ↦ omega (arith, at_least, ne)
        ]

    later : IsSortedByKey f nat_cmp xs
    later k d _ lt =
        let e : suc k + 1 ≡ suc (k + 1) = omega arith in
        subst (λ (n : ℕ). is_lt (nat_cmp (f (get_or (z ∷ xs) n d)) (f (get_or xs k d))) ≡ false) e (s (suc k) d (omega arith) (omega (arith, lt)))

    fewer : (n : ℕ) → times f n xs ≤ 1
    fewer n = elim (cases_eq (f z) n) [
      | inl e ↦ omega (arith, once n, times_hit f n z xs e)
      | inr ne ↦ omega (arith, once n, times_miss f n z xs ne)
    ]

-- how often a number occurs doesn't rest on the order
pub times_permuted : {X : Type 0} (f : X → ℕ) (xs ys : List X) → IsPermutation xs ys → (n : ℕ) → times f n ys ≡ times f n xs
times_permuted f xs ys p n = sum_by-IsPermutation (λ x. cond (f x == n) 1 0) xs ys p

-- lists of what references point to

shown_numbers : {Y X : Type 0} (f : X → ℕ) (g : Y → X) (ys : List Y) → map (λ (y : Y). f (g y)) ys ≡ map f (map g ys)
shown_numbers f g [] = refl
shown_numbers f g (y ∷ ys) = ap (λ (ns : List ℕ). f (g y) ∷ ns) (shown_numbers f g ys)

pub shown_rise : {Y X : Type 0} (f : X → ℕ) (g : Y → X) (ys : List Y) → RisesBy (λ (y : Y). f (g y)) ys → RisesBy f (map g ys)
shown_rise f g ys r = subst Rises (shown_numbers f g ys) r

pub shown_times : {Y X : Type 0} (f : X → ℕ) (g : Y → X) (n : ℕ) (ys : List Y) → times (λ (y : Y). f (g y)) n ys ≡ times f n (map g ys)
shown_times f g n [] = refl
shown_times f g n (y ∷ ys) = elim (cases_eq (f (g y)) n) [
  | inl e ↦ omega (arith, times_hit (λ y. f (g y)) n y ys e, times_hit f n (g y) (map g ys) e, shown_times f g n ys)
  | inr ne ↦ omega (arith, times_miss (λ y. f (g y)) n y ys ne, times_miss f n (g y) (map g ys) ne, shown_times f g n ys)
]

-- binary searches

module _ {X : Type 0} (key : X → List ℕ) where
  -- keys that rise step by step
  pub rises_steps : (xs : List X) → RisesByKey key xs → IsSortedBy (λ (a b : X). is_lt (slice_cmp nat_cmp (key a) (key b))) xs
  rises_steps xs s k d _ lt =
      let below : slice_cmp nat_cmp (get_or (map key xs) k (key d)) (get_or (map key xs) (k + 1) (key d)) ≡ Less = Less-from_sorted (slice_cmp nat_cmp) (map key xs) k (k + 1) (key d) s (omega arith) (omega (arith, lt, length-map xs key)) in
      let one : slice_cmp nat_cmp (key (get_or xs k d)) (get_or (map key xs) (k + 1) (key d)) ≡ Less = subst (λ (a : List ℕ). slice_cmp nat_cmp a (get_or (map key xs) (k + 1) (key d)) ≡ Less) (get_or-map key xs k d) below in
      let two : slice_cmp nat_cmp (key (get_or xs k d)) (key (get_or xs (k + 1) d)) ≡ Less = subst (λ (a : List ℕ). slice_cmp nat_cmp (key (get_or xs k d)) a ≡ Less) (get_or-map key xs (k + 1) d) one in
      ap is_lt (nat_list_cmp_total.antisymm (key (get_or xs (k + 1) d)) (key (get_or xs k d)) ∙ ap ordering_reverse two)

  -- where a search ends between keys, none is the one that is looked for
  pub not_found : (xs : List X) (k : List ℕ) (i : ℕ) → IsPartitionPoint (λ (y : X). slice_cmp nat_cmp (key y) k ≡ Less) (λ (y : X). slice_cmp nat_cmp (key y) k ≡ Greater) xs i → find (λ (y : X). bytes_eq (key y) k) xs ≡ None
  not_found xs k i point = find_none (λ (y : X). bytes_eq (key y) k) xs other
    where
      other : (x : X) → Has xs x → bytes_eq (key x) k ≡ false
      other x h =
          let p = place_of xs x h in
          elim (cases_lt p.0 i) [
            | inl lt ↦ less_keys (key x) k (subst (λ (y : X). slice_cmp nat_cmp (key y) k ≡ Less) (p.2 x) (point.0 p.0 x (omega arith) lt))
            | inr ge ↦ sym (is_eq-slice_cmp (key x) k) ∙ ap is_eq (subst (λ (y : X). slice_cmp nat_cmp (key y) k ≡ Greater) (p.2 x) (point.1 p.0 x ge p.1))
          ]
