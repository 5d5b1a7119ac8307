-- An index that is kept: where its handles stand, and the search in it.
use Rattle.std.proofs.Common.{◌≡◌, ℕ, zero, suc, ◌+◌, ◌-◌, ◌*◌, ◌<◌, ◌≤◌, ◌^◌, List, [], ◌∷◌, ◌++◌, length, slice_index_or, refl, ap, ◌∙◌, arith}
use Rattle.std.proofs.lemmas.List.Sums.{sum_by-cons}
use Rattle.std.specs.Prelude.{sum_by}
use Rattle.std.specs.List.{HoldsAt}
use Rattle.mg_indexed.specs.Forms.{Form}
use Rattle.mg_indexed.specs.Index.{handles_of, AreRising, BeginUpTo, IsIndexFrom}
use Rattle.mg_indexed.specs.Keys.{Keys, IsLawful}
use Rattle.mg_indexed.specs.declared.handle.BlockHandle.{BlockHandle}

-- each offset is below 2 ^ 62
pub near : {K : Type 0} (keys : Keys K) (form : Form) (previous : K) (at : ℕ) (handles : List (BlockHandle K)) (end : ℕ) → IsIndexFrom keys form previous at handles end
    → (j : ℕ) (d : BlockHandle K) → j < length handles → (slice_index_or handles j d).at < 2 ^ 62
near keys form previous at [] end is j d within = absurd (omega (arith, within))
near keys form previous at (h ∷ handles) end is zero d within = omega (arith, is.0.1, is.0.2)
near keys form previous at (h ∷ handles) end is (suc j) d within = near keys form h.first (at + h.len) handles end is.1 j d (omega (arith, within))

-- each first key is above that of the block before them all
pub above_previous : {K : Type 0} (keys : Keys K) (form : Form) → IsLawful keys → (previous : K) (at : ℕ) (handles : List (BlockHandle K)) (end : ℕ) → IsIndexFrom keys form previous at handles end
    → (j : ℕ) (d : BlockHandle K) → j < length handles → keys.before previous (slice_index_or handles j d).first
above_previous keys form lawful previous at [] end is j d within = absurd (omega (arith, within))
above_previous keys form lawful previous at (h ∷ handles) end is zero d within = lawful.follows_before previous h.first is.0.0
above_previous keys form lawful previous at (h ∷ handles) end is (suc j) d within =
    lawful.before_on previous h.first (slice_index_or handles j d).first (lawful.follows_before previous h.first is.0.0)
    (above_previous keys form lawful h.first (at + h.len) handles end is.1 j d (omega (arith, within)))

pub rising : {K : Type 0} (keys : Keys K) (form : Form) → IsLawful keys → (previous : K) (at : ℕ) (handles : List (BlockHandle K)) (end : ℕ) → IsIndexFrom keys form previous at handles end
    → AreRising keys handles
rising keys form lawful previous at [] end is i j d order within = absurd (omega (arith, within))
rising keys form lawful previous at (h ∷ handles) end is zero zero d order within = absurd (omega (arith, order))
rising keys form lawful previous at (h ∷ handles) end is zero (suc j) d order within =
    above_previous keys form lawful h.first (at + h.len) handles end is.1 j d (omega (arith, within))
rising keys form lawful previous at (h ∷ handles) end is (suc i) zero d order within = absurd (omega (arith, order))
rising keys form lawful previous at (h ∷ handles) end is (suc i) (suc j) d order within =
    rising keys form lawful h.first (at + h.len) handles end is.1 i j d (omega (arith, order)) (omega (arith, within))

-- what begins above a key is followed by what does
above_on : {K : Type 0} (keys : Keys K) (form : Form) → IsLawful keys → (previous : K) (at : ℕ) (handles : List (BlockHandle K)) (end : ℕ) → IsIndexFrom keys form previous at handles end
    → (key : K) (i j : ℕ) (d : BlockHandle K) → i ≤ j → j < length handles → keys.before key (slice_index_or handles i d).first → keys.before key (slice_index_or handles j d).first
above_on keys form lawful previous at [] end is key i j d order within above = absurd (omega (arith, within))
above_on keys form lawful previous at (h ∷ handles) end is key zero zero d order within above = above
above_on keys form lawful previous at (h ∷ handles) end is key zero (suc j) d order within above =
    lawful.before_on key h.first (slice_index_or handles j d).first above
    (above_previous keys form lawful h.first (at + h.len) handles end is.1 j d (omega (arith, within)))
above_on keys form lawful previous at (h ∷ handles) end is key (suc i) zero d order within above = absurd (omega (arith, order))
above_on keys form lawful previous at (h ∷ handles) end is key (suc i) (suc j) d order within above =
    above_on keys form lawful h.first (at + h.len) handles end is.1 key i j d (omega (arith, order)) (omega (arith, within)) above

-- Behind so many blocks one begins above the key, and the last of these does not.
pub record Between {K : Type 0} (keys : Keys K) (handles : List (BlockHandle K)) (key : K) (low high : ℕ) : Type 0 where
  pub order : low ≤ high
  pub within : high ≤ length handles
  pub last : 0 < low → HoldsAt (λ (handle : BlockHandle K). keys.before key handle.first → ⊥) handles (low - 1)
  pub following : high < length handles → HoldsAt (λ (handle : BlockHandle K). keys.before key handle.first) handles high

-- the place that a search ends at
pub begin_up_to : {K : Type 0} (keys : Keys K) (form : Form) → IsLawful keys → (previous : K) (at : ℕ) (handles : List (BlockHandle K)) (end : ℕ) → IsIndexFrom keys form previous at handles end
    → (key : K) (count : ℕ) → count ≤ length handles
    → (0 < count → HoldsAt (λ (handle : BlockHandle K). keys.before key handle.first → ⊥) handles (count - 1))
    → (count < length handles → HoldsAt (λ (handle : BlockHandle K). keys.before key handle.first) handles count)
    → BeginUpTo keys handles key count
begin_up_to keys form lawful previous at handles end is key count within last following = (
  λ k d low high above. last (omega (arith, high)) d
      (above_on keys form lawful previous at handles end is key k (count - 1) d (omega (arith, high)) (omega (arith, high, within)) above),
  λ k d low high. above_on keys form lawful previous at handles end is key count k d low high (following (omega (arith, low, high)) d),
)

-- ---- the handles of blocks

pub length-handles_of : {B K : Type 0} (first_of : B → K) (length_of : B → ℕ) (at : ℕ) (blocks : List B) → length (handles_of first_of length_of at blocks) ≡ length blocks
length-handles_of first_of length_of at [] = refl
length-handles_of first_of length_of at (b ∷ blocks) = ap suc (length-handles_of first_of length_of (at + length_of b) blocks)

-- one block more
pub handles_of-push : {B K : Type 0} (first_of : B → K) (length_of : B → ℕ) (at : ℕ) (blocks : List B) (last : B) → handles_of first_of length_of at (blocks ++ last ∷ [])
    ≡ handles_of first_of length_of at blocks ++ record { first = first_of last; at = at + sum_by length_of blocks; len = length_of last } ∷ []
handles_of-push first_of length_of at [] last = ap (λ n. record { first = first_of last; at = n; len = length_of last } ∷ []) (omega arith)
handles_of-push first_of length_of at (b ∷ blocks) last =
    let later = at + length_of b in
    let there : later + sum_by length_of blocks ≡ at + sum_by length_of (b ∷ blocks) = omega (arith, sum_by-cons length_of b blocks) in
    ap (λ handles. record { first = first_of b; at = at; len = length_of b } ∷ handles)
    (handles_of-push first_of length_of later blocks last
    ∙ ap (λ n. handles_of first_of length_of later blocks ++ record { first = first_of last; at = n; len = length_of last } ∷ []) there)

-- ---- how long the blocks are

-- the frames of so many blocks are no longer than their handles can say
pub most_end : {K : Type 0} (keys : Keys K) (form : Form) (previous : K) (at : ℕ) (handles : List (BlockHandle K)) (end : ℕ) → IsIndexFrom keys form previous at handles end
    → end ≤ at + 4294967296 * length handles
most_end keys form previous at [] end is = omega (arith, is)
most_end keys form previous at (h ∷ handles) end is = omega (arith, is.0.3.2, most_end keys form h.first (at + h.len) handles end is.1)
