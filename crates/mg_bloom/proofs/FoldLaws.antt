-- Laws of folding: the bits of a body in half, and how long a body is.
use Rattle.std.proofs.Common.{◌≡◌, ℕ, ◌+◌, ◌-◌, ◌*◌, ◌/◌, ◌%◌, ◌^◌, ◌<◌, ◌≤◌, ◌⊎◌, inl, inr, Bool, true, false, ◌||◌, eqb, List, [], ◌∷◌, length, take, get_or, replicate, refl, sym, ap, ◌∙◌, arith, max, suc, pow-suc}
use Rattle.std.proofs.lemmas.Nat.{mod_below, pow-add}
use Rattle.std.proofs.Math.Nat.{add-mul-mod_self_left, mod-add-div, mod-eq-sub-mod, mod-eq_of_lt, mul_assoc, mul_comm}
use Rattle.std.proofs.lemmas.Nat.Bits.{bit_at_or, bit_at-lt}
use Rattle.std.proofs.lemmas.List.{get_or-take, length-replicate, length-take-le}
use Rattle.std.proofs.lemmas.Bool.{cases_eq, cases_lt, eq-eqb, ne_eqb}
use Rattle.std.specs.List.{list_any}
use Rattle.std.specs.Int.{bit_at}
use Rattle.std.specs.Int.Bits.{bit_or}
use Rattle.mg_bloom.specs.Bloom.{has_bit, IsBodyLength, IsBitCountFor}
use Rattle.mg_bloom.specs.Folding.{HasBitsOf, KeepsWords}
use Rattle.mg_bloom.proofs.BloomLaws.{no_bit, or_false, power_above, power_from_test, test_from_power, IsBodyLength-bits}

-- ---- two bytes joined

greater_is_one : (x y : ℕ) → x < 2 → y < 2 → eqb (max x y) 1 ≡ (eqb x 1 || eqb y 1)
greater_is_one x y small other = elim (cases_eq x 1) [
  | inl one ↦
      let is : max x y ≡ 1 = omega arith in
      ap (λ n. eqb n 1) is ∙ sym (ap (λ n. eqb n 1 || eqb y 1) one)
  | inr none ↦
      let zero_is : x ≡ 0 = omega arith in
      let is : max x y ≡ y = omega arith in
      ap (λ n. eqb n 1) is ∙ sym (ap (λ n. eqb n 1 || eqb y 1) zero_is)
]

joined_bit : (a b i : ℕ) → eqb (bit_at (bit_or a b) i) 1 ≡ (eqb (bit_at a i) 1 || eqb (bit_at b i) 1)
joined_bit a b i = ap (λ n. eqb n 1) (bit_at_or a b i) ∙ greater_is_one (bit_at a i) (bit_at b i) (bit_at-lt a i) (bit_at-lt b i)

-- the bits of the lower half, once the upper one is joined to it
joined : (old all : List ℕ) (half p : ℕ) → ((i : ℕ) → i < half → get_or all i 0 ≡ bit_or (get_or old i 0) (get_or old (half + i) 0)) → p < 8 * half
    → has_bit (take half all) p ≡ (has_bit old p || has_bit old (p + 8 * half))
unfolding has_bit
joined old all half p bytes within =
    let i : p / 8 < half = omega arith in
    let byte : get_or (take half all) (p / 8) 0 ≡ bit_or (get_or old (p / 8) 0) (get_or old (half + p / 8) 0) = get_or-take half all (p / 8) 0 i ∙ bytes (p / 8) i in
    let high : half + p / 8 ≡ (p + 8 * half) / 8 = omega arith in
    let low : p % 8 ≡ (p + 8 * half) % 8 = omega arith in
    ap (λ b. eqb (bit_at b (p % 8)) 1) byte
    ∙ joined_bit (get_or old (p / 8) 0) (get_or old (half + p / 8) 0) (p % 8)
    ∙ ap (λ i. eqb (bit_at (get_or old (p / 8) 0) (p % 8)) 1 || eqb (bit_at (get_or old i 0) (p % 8)) 1) high
    ∙ ap (λ i. eqb (bit_at (get_or old (p / 8) 0) (p % 8)) 1 || eqb (bit_at (get_or old ((p + 8 * half) / 8) 0) i) 1) low

-- ---- places in the half

half_place : (word half : ℕ) → 0 < half → (word % half ≡ word % (2 * half)) ⊎ (word % half + half ≡ word % (2 * half))
half_place word half some =
    let rest = word % (2 * half) in
    let times = word / (2 * half) in
    let small : rest < 2 * half = mod_below word (2 * half) (omega arith) in
    let order : half * (2 * times) ≡ 2 * half * times = sym (mul_assoc half 2 times) ∙ ap (λ n. n * times) (mul_comm half 2) in
    let parts : word ≡ rest + half * (2 * times) = sym (ap (λ n. rest + n) order ∙ mod-add-div word (2 * half)) in
    let same : word % half ≡ rest % half = ap (λ n. n % half) parts ∙ add-mul-mod_self_left rest half (2 * times) in
    elim (cases_lt rest half) [
      | inl low ↦ inl (same ∙ mod-eq_of_lt low)
      | inr high ↦
          let back : rest % half ≡ rest - half = mod-eq-sub-mod {n = rest} {m = half} high ∙ mod-eq_of_lt (omega arith) in
          inr (omega (arith, same, back))
    ]

same_ahead : (a b n : ℕ) → eqb (a + n) (b + n) ≡ eqb a b
same_ahead a b n = elim (cases_eq a b) [
  | inl same ↦ eq-eqb (a + n) (b + n) (ap (λ m. m + n) same) ∙ sym (eq-eqb a b same)
  | inr other ↦ ne_eqb (a + n) (b + n) (λ e. other (omega (arith, e))) ∙ sym (ne_eqb a b other)
]

same_place_in_half : (word half p : ℕ) → p < half → (eqb (word % (2 * half)) p || eqb (word % (2 * half)) (p + half)) ≡ eqb (word % half) p
same_place_in_half word half p within =
    let place = word % half in
    let small : place < half = mod_below word half (omega arith) in
    elim (half_place word half (omega arith)) [
      | inl same ↦
          let apart : eqb (word % (2 * half)) (p + half) ≡ false = ne_eqb _ _ (λ e. absurd (omega (arith, e, same, small))) in
          ap (λ b. eqb (word % (2 * half)) p || b) apart ∙ or_false (eqb (word % (2 * half)) p) ∙ ap (λ n. eqb n p) (sym same)
      | inr same ↦
          let apart : eqb (word % (2 * half)) p ≡ false = ne_eqb _ _ (λ e. absurd (omega (arith, e, same, within))) in
          ap (λ b. b || eqb (word % (2 * half)) (p + half)) apart ∙ ap (λ n. eqb n (p + half)) (sym same) ∙ same_ahead place p half
    ]

or_exchanged : (a c b d : Bool) → ((a || c) || (b || d)) ≡ ((a || b) || (c || d))
or_exchanged true c b d = refl
or_exchanged false true true d = refl
or_exchanged false true false d = refl
or_exchanged false false true d = refl
or_exchanged false false false d = refl

one_in_half : (words : List ℕ) (whole half p : ℕ) → whole ≡ 2 * half → p < half
    → (list_any (λ w. eqb (w % whole) p) words || list_any (λ w. eqb (w % whole) (p + half)) words) ≡ list_any (λ w. eqb (w % half) p) words
one_in_half [] whole half p is within = refl
one_in_half (word ∷ words) whole half p is within =
    or_exchanged (eqb (word % whole) p) (list_any (λ w. eqb (w % whole) p) words) (eqb (word % whole) (p + half)) (list_any (λ w. eqb (w % whole) (p + half)) words)
    ∙ ap (λ n. (eqb (word % n) p || eqb (word % n) (p + half)) || (list_any (λ w. eqb (w % whole) p) words || list_any (λ w. eqb (w % whole) (p + half)) words)) is
    ∙ ap (λ b. b || (list_any (λ w. eqb (w % whole) p) words || list_any (λ w. eqb (w % whole) (p + half)) words)) (same_place_in_half word half p within)
    ∙ ap (λ b. eqb (word % half) p || b) (one_in_half words whole half p is within)

-- ---- the words of a body

words_of : (body words : List ℕ) → HasBitsOf body words → (p : ℕ) → p < 8 * length body → has_bit body p ≡ list_any (λ w. eqb (w % (8 * length body)) p) words
words_of body words added p within =
    let len : length {A = ℕ} (replicate (length body) 0) ≡ length body = length-replicate (length body) 0 in
    added.bits p (omega (arith, len))
    ∙ ap (λ b. b || list_any (λ w. eqb (w % (8 * length {A = ℕ} (replicate (length body) 0))) p) words) (no_bit (length body) p)
    ∙ ap (λ n. list_any (λ w. eqb (w % (8 * n)) p) words) len

of_words : (body words : List ℕ) → ((p : ℕ) → p < 8 * length body → has_bit body p ≡ list_any (λ w. eqb (w % (8 * length body)) p) words) → HasBitsOf body words
of_words body words bits =
    let len : length {A = ℕ} (replicate (length body) 0) ≡ length body = length-replicate (length body) 0 in
    record {
      same_length = sym len;
      bits = λ p within.
          bits p (omega (arith, len))
          ∙ ap (λ n. list_any (λ w. eqb (w % (8 * n)) p) words) (sym len)
          ∙ sym (ap (λ b. b || list_any (λ w. eqb (w % (8 * length {A = ℕ} (replicate (length body) 0))) p) words) (no_bit (length body) p));
    }

-- a half that has the bits of both halves has the words of the whole
KeepsWords-halved : (old new : List ℕ) → length old ≡ 2 * length new
    → ((p : ℕ) → p < 8 * length new → has_bit new p ≡ (has_bit old p || has_bit old (p + 8 * length new))) → KeepsWords old new
KeepsWords-halved old new twice bits = λ words added. of_words new words (λ p within.
    let one = words_of old words added p (omega arith) in
    let other = words_of old words added (p + 8 * length new) (omega arith) in
    bits p within
    ∙ ap (λ b. b || has_bit old (p + 8 * length new)) one
    ∙ ap (λ b. list_any (λ w. eqb (w % (8 * length old)) p) words || b) other
    ∙ one_in_half words (8 * length old) (8 * length new) p (omega arith) within)

-- the lower half of a body, with the upper one joined to it
pub KeepsWords-joined : (old all new : List ℕ) (half : ℕ) → length old ≡ 2 * half → length all ≡ length old
    → ((i : ℕ) → i < half → get_or all i 0 ≡ bit_or (get_or old i 0) (get_or old (half + i) 0)) → new ≡ take half all → (length new ≡ half) × KeepsWords old new
KeepsWords-joined old all new half twice same bytes is =
    let len : length new ≡ half = ap length is ∙ length-take-le half all (omega (arith, twice, same)) in (
      len,
      KeepsWords-halved old new (omega (arith, len, twice)) (λ p within.
          ap (λ b. has_bit b p) is
          ∙ joined old all half p bytes (omega (arith, len, within))
          ∙ ap (λ n. has_bit old p || has_bit old (p + 8 * n)) (sym len)),
    )

-- ---- how long a body is

pub halved : (n least : ℕ) → IsBodyLength n → IsBodyLength least → least < n → (n ≡ 2 * (n / 2)) × IsBodyLength (n / 2) × (least ≤ n / 2)
halved n least is other less =
    let whole = power_from_test n is.at_most is.power in
    let part = power_from_test least other.at_most other.power in
    let k = whole.0 in
    let some : 0 < k = elim (cases_eq k 0) [
      | inl none ↦ let one : 2 ^ k ≡ 1 = ap (λ i. 2 ^ i) none in absurd (omega (arith, whole.1, one, is.at_least))
      | inr more ↦ omega (arith, more)
    ] in
    let again : 2 ^ k ≡ 2 ^ suc (k - 1) = ap (λ i. 2 ^ i) (omega (arith, some)) in
    let twice : 2 ^ k ≡ 2 ^ (k - 1) * 2 = again ∙ pow-suc 2 (k - 1) in
    let half : n / 2 ≡ 2 ^ (k - 1) = omega (arith, whole.1, twice) in
    let above : 2 ^ suc part.0 ≤ 2 ^ k = power_above part.0 k (omega (arith, less, whole.1, part.1)) in
    let fits : least ≤ n / 2 = omega (arith, above, pow-suc 2 part.0, whole.1, part.1) in (
      omega (arith, half, whole.1, twice),
      record {
        power = test_from_power (n / 2) (k - 1, half);
        at_least = omega (arith, fits, other.at_least);
        at_most = omega (arith, is.at_most);
      },
      fits,
    )

-- a body of more than the least length has halves
pub two_halves : (n : ℕ) → IsBodyLength n → 8 < n → n ≡ 2 * (n / 2)
two_halves n is more = (halved n 8 is (record { power = test_from_power 8 (3, refl); at_least = omega arith; at_most = omega arith }) more).0

-- the size for so many keys is no more than that of a body which has bits enough
pub folds_to : (keys bits n : ℕ) → IsBitCountFor keys bits → IsBodyLength n → (8 * n < 2 ^ 31 → 10 * keys ≤ 8 * n) → bits / 8 ≤ n
folds_to keys bits n counted is enough = elim (cases_lt n (bits / 8)) [
  | inl less ↦
      let body = power_from_test n is.at_most is.power in
      let j = body.0 in
      let k = counted.power.0 in
      let eighth : 8 * (bits / 8) ≡ bits = (IsBodyLength-bits keys bits counted).1 in
      let own : 8 * n ≡ 2 ^ (j + 3) = omega (arith, body.1, pow-add 2 j 3) in
      let above : 2 ^ suc (j + 3) ≤ 2 ^ k = power_above (j + 3) k (omega (arith, own, eighth, less, counted.power.1)) in
      let twice : 2 * (8 * n) ≤ bits = omega (arith, above, pow-suc 2 (j + 3), own, counted.power.1) in
      let wanted : 10 * keys ≤ 8 * n = enough (omega (arith, less, eighth, counted.at_most)) in
      absurd (omega (arith, counted.no_more (omega (arith, twice, is.at_least)), wanted, twice))
  | inr fits ↦ fits
]
