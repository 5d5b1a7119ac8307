-- Steps of the loops.
use Rattle.std.proofs.Common.{◌≡◌, ℕ, ◌+◌, ◌≤◌, ◌<◌, List, [], ◌∷◌, ap, length, get_or, drop, eqb, arith, refl}
use Rattle.std.proofs.lemmas.Bool.{eq-eqb, ne_eqb}
use Rattle.std.proofs.lemmas.List.{drop_all}
use Rattle.std.proofs.lemmas.List.Sums.{common_prefix_len-drop_yes, common_prefix_len-drop_no}
use Rattle.mg_block.specs.Block.{shared_len}

-- the first bytes of two keys are the same
pub record SharesSoFar (key other : List ℕ) (len : ℕ) : Type 0 where
  pub within : len ≤ length key
  pub within_other : len ≤ length other
  pub shares : shared_len key other ≡ len + shared_len (drop len key) (drop len other)

pub SharesSoFar-none : (key other : List ℕ) → SharesSoFar key other 0
SharesSoFar-none key other = record { within = omega arith; within_other = omega arith; shares = omega arith }

pub SharesSoFar-more : (key other : List ℕ) (len : ℕ) → SharesSoFar key other len → len < length key → len < length other → get_or key len 0 ≡ get_or other len 0 → SharesSoFar key other (len + 1)
SharesSoFar-more key other len h a b e = record {
  within = omega arith;
  within_other = omega arith;
  shares = omega (arith, h.shares, common_prefix_len-drop_yes eqb key other len 0 0 a b (eq-eqb _ _ e));
}

pub shared_len-differs : (key other : List ℕ) (len : ℕ) → SharesSoFar key other len → len < length key → len < length other → (get_or key len 0 ≡ get_or other len 0 → ⊥) → len ≡ shared_len key other
shared_len-differs key other len h a b e = omega (arith, h.shares, common_prefix_len-drop_no eqb key other len 0 0 a b (ne_eqb _ _ e))

pub shared_len-all : (key other : List ℕ) (len : ℕ) → SharesSoFar key other len → length key ≤ len → len ≡ shared_len key other
shared_len-all key other len h a =
    let e : drop len key ≡ [] = drop_all len key a in
    omega (arith, h.shares, ap (λ (k : List ℕ). shared_len k (drop len other)) e)

pub shared_len-nil : (key : List ℕ) → shared_len key [] ≡ 0
shared_len-nil [] = refl
shared_len-nil (byte ∷ key) = refl

pub shared_len-all_other : (key other : List ℕ) (len : ℕ) → SharesSoFar key other len → length other ≤ len → len ≡ shared_len key other
shared_len-all_other key other len h a =
    let e : drop len other ≡ [] = drop_all len other a in
    omega (arith, h.shares, ap (λ (k : List ℕ). shared_len (drop len key) k) e, shared_len-nil (drop len key))
