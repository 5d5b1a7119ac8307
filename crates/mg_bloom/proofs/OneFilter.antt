-- Keys have one filter.
use Rattle.std.proofs.Common.{◌≡◌, ℕ, ◌+◌, ◌*◌, ◌/◌, ◌%◌, ◌<◌, ◌≤◌, ◌^◌, inl, inr, eqb, List, length, get_or, replicate, refl, sym, ◌∙◌, subst, arith, pow-suc}
use Rattle.std.proofs.lemmas.Bool.{cases_eq, cases_lt, eq-eqb, eqb-true}
use Rattle.std.proofs.lemmas.Grind.{same_number_lists}
use Rattle.std.proofs.lemmas.List.{length-replicate}
use Rattle.std.proofs.lemmas.Nat.Bits.{bit_at-lt, same_from_bits_below}
use Rattle.std.specs.Int.{bit_at}
use Rattle.std.specs.List.{All}
use Rattle.mg_bloom.specs.Bloom.{bit_count, has_bit, AddsWords, IsBitCountFor}
use Rattle.mg_bloom.specs.Folding.{HasBitsOf}
use Rattle.mg_bloom.proofs.BloomLaws.{power_above}

not_fewer : (keys bits more : ℕ) → IsBitCountFor keys bits → IsBitCountFor keys more → bits < more → ⊥
not_fewer keys bits more is is' less =
    let doubled : bits * 2 ≤ more = omega (arith, is.power.1, is'.power.1, pow-suc 2 is.power.0, power_above is.power.0 is'.power.0 (omega (arith, is.power.1, is'.power.1, less))) in
    let least = is.at_least in
    let most = is'.at_most in
    omega (arith, doubled, is.enough (omega (arith, doubled, least, most)), is'.no_more (omega (arith, doubled, least)))

-- so many keys have a filter of one size
same_size : (keys bits other : ℕ) → IsBitCountFor keys bits → IsBitCountFor keys other → bits ≡ other
same_size keys bits other is is' = elim (cases_lt bits other) [
  | inl less ↦ absurd (not_fewer keys bits other is is' less)
  | inr least ↦ elim (cases_lt other bits) [
    | inl less ↦ absurd (not_fewer keys other bits is' is less)
    | inr least' ↦ omega arith
  ]
]

bit_in_byte : (body : List ℕ) (k i : ℕ) → i < 8 → has_bit body (8 * k + i) ≡ eqb (bit_at (get_or body k 0) i) 1
unfolding has_bit
bit_in_byte body k i low =
    let byte : (8 * k + i) / 8 ≡ k = omega arith in
    let bit : (8 * k + i) % 8 ≡ i = omega arith in
    rw (byte, bit) refl

same_bit : (a b : ℕ) → a < 2 → b < 2 → eqb a 1 ≡ eqb b 1 → a ≡ b
same_bit a b small small' same = elim (cases_eq a 1) [
  | inl one ↦ one ∙ sym (eqb-true b 1 (sym same ∙ eq-eqb a 1 one))
  | inr none ↦ elim (cases_eq b 1) [
    | inl one ↦ absurd (none (eqb-true a 1 (same ∙ eq-eqb b 1 one)))
    | inr none' ↦ omega arith
  ]
]

-- bytes with the same bits are the same
same_bytes : (body other : List ℕ) → All (λ byte. byte < 2 ^ 8) body → All (λ byte. byte < 2 ^ 8) other → length body ≡ length other → ((p : ℕ) → p < bit_count body → has_bit body p ≡ has_bit other p) → body ≡ other
same_bytes body other small small' len bits = same_number_lists body other len (λ k within.
    let byte = get_or body k 0 in
    let byte' = get_or other k 0 in
    same_from_bits_below 8 byte byte' (small k 0 within) (small' k 0 (omega (arith, len, within))) (λ i low.
    same_bit (bit_at byte i) (bit_at byte' i) (bit_at-lt byte i) (bit_at-lt byte' i)
    (sym (bit_in_byte body k i low) ∙ bits (8 * k + i) (omega (arith, within, low)) ∙ bit_in_byte other k i low)))

-- so many keys, hashed to these words, have one filter among bytes
pub one_filter : (keys : ℕ) (words body other : List ℕ) → All (λ byte. byte < 2 ^ 8) body → All (λ byte. byte < 2 ^ 8) other
    → IsBitCountFor keys (bit_count body) → IsBitCountFor keys (bit_count other) → HasBitsOf body words → HasBitsOf other words → body ≡ other
one_filter keys words body other small small' size size' bits bits' =
    let len : length body ≡ length other = omega (arith, same_size keys (bit_count body) (bit_count other) size size') in
    let empty : ℕ → List ℕ = λ n. replicate n 0 in
    let others : AddsWords (empty (length body)) other words = subst (λ n. AddsWords (empty n) other words) (sym len) bits' in
    let long = length-replicate {A = ℕ} (length body) 0 in
    same_bytes body other small small' len (λ p within.
    let within' : p < bit_count (empty (length body)) = omega (arith, within, long) in
    bits.bits p within' ∙ sym (others.bits p within'))
