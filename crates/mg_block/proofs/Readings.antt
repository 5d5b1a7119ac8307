-- Two readings of the same bytes.
use Rattle.std.proofs.Common.{◌≡◌, ℕ, ◌⊎◌, List, [], ◌∷◌, ◌++◌, length, drop, refl, sym, ap, subst, ◌∙◌, arith, append_assoc, inl, inr}
use Rattle.std.proofs.lemmas.List.{length-append, length-drop, append-nil, append_cancel_left}
use Rattle.mg_block.specs.declared.pair.Pair.{Pair}
use Rattle.mg_block.specs.Block.{item_of, items_after, block_of, Begins, BreaksAt}
use Rattle.mg_block.specs.View.{last_pair}
use Rattle.mg_block.proofs.Spelling.{pair_from, first_pair-item_of, items_after-append, RiseAfter-front}
use Rattle.mg_block.specs.View.{first_pair}

-- of two lists of pairs that begin the same bytes one is a front of the other
pub fronts_after : (previous : List ℕ) (pairs others : List Pair) (rest tail : List ℕ) → items_after previous pairs ++ rest ≡ items_after previous others ++ tail
    → ((more : List Pair) × (others ≡ pairs ++ more)) ⊎ ((more : List Pair) × (pairs ≡ others ++ more))
fronts_after previous [] others rest tail e = inl (others, refl)
fronts_after previous (pair ∷ pairs) [] rest tail e = inr (pair ∷ pairs, refl)
fronts_after previous (pair ∷ pairs) (other ∷ others) rest tail e =
    let regrouped : item_of previous pair ++ (items_after pair.key pairs ++ rest) ≡ item_of previous other ++ (items_after other.key others ++ tail) =
    sym (append_assoc (item_of previous pair) (items_after pair.key pairs) rest) ∙ e ∙ append_assoc (item_of previous other) (items_after other.key others) tail in
    let same : pair ≡ other = sym (first_pair-item_of previous pair (items_after pair.key pairs ++ rest)) ∙ ap (λ (t : List ℕ). first_pair previous t) regrouped ∙ first_pair-item_of previous other (items_after other.key others ++ tail) in
    let tails : items_after other.key pairs ++ rest ≡ items_after other.key others ++ tail =
    append_cancel_left (item_of previous other) (items_after other.key pairs ++ rest) (items_after other.key others ++ tail) (subst (λ (p : Pair). item_of previous p ++ (items_after p.key pairs ++ rest) ≡ item_of previous other ++ (items_after other.key others ++ tail)) same regrouped) in
    elim (fronts_after other.key pairs others rest tail tails) [
      | inl m ↦ inl (m.0, ap (λ (ps : List Pair). other ∷ ps) m.1 ∙ ap (λ (p : Pair). p ∷ (pairs ++ m.0)) (sym same))
      | inr m ↦ inr (m.0, ap (λ (ps : List Pair). pair ∷ ps) m.1 ∙ ap (λ (p : Pair). p ∷ (others ++ m.0)) same)
    ]

pub fronts : (bytes : List ℕ) (pairs others : List Pair) (rest tail : List ℕ) → Begins bytes pairs rest → Begins bytes others tail
    → ((more : List Pair) × (others ≡ pairs ++ more)) ⊎ ((more : List Pair) × (pairs ≡ others ++ more))
fronts bytes pairs others rest tail a b = fronts_after [] pairs others rest tail (sym a.spelling ∙ b.spelling)

-- what begins with more pairs begins with fewer
pub Begins-fewer : (bytes : List ℕ) (pairs more : List Pair) (rest : List ℕ) → Begins bytes (pairs ++ more) rest → Begins bytes pairs (items_after (last_pair pairs).key more ++ rest)
Begins-fewer bytes pairs more rest b = record {
  rising = RiseAfter-front (pair_from [] []) pairs more b.rising;
  spelling = b.spelling ∙ ap (λ (t : List ℕ). t ++ rest) (items_after-append (pair_from [] []) pairs more) ∙ append_assoc (block_of pairs) (items_after (last_pair pairs).key more) rest;
}

-- no pairs more begin bytes that break
pub BreaksAt-no_more : (bytes : List ℕ) (pairs more : List Pair) (at : ℕ) (rest : List ℕ) → BreaksAt bytes pairs at → Begins bytes (pairs ++ more) rest → more ≡ []
BreaksAt-no_more bytes pairs [] at rest breaks b = refl
BreaksAt-no_more bytes pairs (pair ∷ more) at rest breaks b =
    absurd (breaks.no_item pair _ (Begins-fewer bytes (pairs ++ pair ∷ []) more rest (subst (λ (ps : List Pair). Begins bytes ps rest) (sym (append_assoc pairs (pair ∷ []) more)) b)))

none_more : (pairs others more : List Pair) → others ≡ pairs ++ more → more ≡ [] → others ≡ pairs
none_more pairs others more e n = e ∙ ap (λ (ps : List Pair). pairs ++ ps) n ∙ append-nil pairs

pub BreaksAt-pairs : (bytes : List ℕ) (pairs others : List Pair) (at place : ℕ) → BreaksAt bytes pairs at → BreaksAt bytes others place → pairs ≡ others
BreaksAt-pairs bytes pairs others at place a b =
    elim (fronts bytes pairs others (drop at bytes) (drop place bytes) a.begins b.begins) [
      | inl m ↦ sym (none_more pairs others m.0 m.1 (BreaksAt-no_more bytes pairs m.0 at _ a (subst (λ (ps : List Pair). Begins bytes ps (drop place bytes)) m.1 b.begins)))
      | inr m ↦ none_more others pairs m.0 m.1 (BreaksAt-no_more bytes others m.0 place _ b (subst (λ (ps : List Pair). Begins bytes ps (drop at bytes)) m.1 a.begins))
    ]

BreaksAt-length : (bytes : List ℕ) (pairs : List Pair) (at : ℕ) → BreaksAt bytes pairs at → length (block_of pairs) ≡ at
BreaksAt-length bytes pairs at a = omega (arith, a.more, ap length a.begins.spelling, length-append (block_of pairs) (drop at bytes), length-drop at bytes)

pub BreaksAt-place : (bytes : List ℕ) (pairs others : List Pair) (at place : ℕ) → BreaksAt bytes pairs at → BreaksAt bytes others place → at ≡ place
BreaksAt-place bytes pairs others at place a b =
    sym (BreaksAt-length bytes pairs at a) ∙ ap (λ (ps : List Pair). length (block_of ps)) (BreaksAt-pairs bytes pairs others at place a b) ∙ BreaksAt-length bytes others place b
