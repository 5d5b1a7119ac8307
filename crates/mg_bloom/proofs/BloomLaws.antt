-- Laws of a filter's bits: the mask, one bit set, the bits of words added, and filters with no bit.
use Rattle.std.proofs.Common.{◌≡◌, ℕ, ◌+◌, ◌-◌, ◌*◌, ◌/◌, ◌%◌, ◌^◌, ◌<◌, ◌≤◌, Bool, true, false, ◌||◌, eqb, List, [], ◌∷◌, ◌++◌, length, take, get_or, set, replicate, refl, sym, ap, ◌∙◌, arith, inl, inr, zero, suc, min, max, pow-suc, w8}
use Rattle.std.proofs.lemmas.Nat.{and_mask, pow-add, mod_below, ones_cat, zero_from_ones}
use Rattle.std.proofs.lemmas.Nat.Bits.{shr_and_one, bit_at_set_same, bit_at_set_other, bit_at-zero}
use Rattle.std.proofs.lemmas.List.{get_or-set_same, get_or-set_other, get_or-replicate, get_or_past, length-replicate, take_at, append_assoc}
use Rattle.std.proofs.lemmas.Bool.{cases_eq, cases_lt, eq-eqb, ne_eqb, eqb-true, and_parts}
use Rattle.std.proofs.lemmas.List.Folds.{list_any-append}
use Rattle.std.specs.List.{list_all, list_any}
use Rattle.std.specs.Int.{bit_at, is_power_of_two, IsPowerOfTwo}
use Rattle.std.specs.Prelude.{bit_and, bit_or}
use Rattle.std.specs.Int.RustNames.{count_ones}
use lib.Count.{ones}
use Rattle.std.proofs.Math.Nat.{pow-le-pow_right}
use Rattle.sha2.specs.Sha256.{sha256}
use Rattle.mg_bloom.specs.Bloom.{digest_word, key_words, has_bit, place_of, has_words, may_hold, AddsWords, IsBodyLength, IsBitCountFor}

-- ---- powers of two

ones_none : ones 0 ≡ 0
unfolding count_ones
ones_none = refl

ones_single : ones 1 ≡ 1
unfolding count_ones
ones_single = refl

ones_halves : (n : ℕ) → ones n ≡ ones (n / 2) + ones (n % 2)
ones_halves n =
    let halves : n ≡ n / 2 * 2 ^ 1 + n % 2 = omega arith in
    let count : ones (n / 2 * 2 ^ 1 + n % 2) ≡ ones (n / 2) + ones (n % 2) = ones_cat 1 (n / 2) (n % 2) (mod_below n 2 (omega arith)) in
    ap ones halves ∙ count

one_bit : (k n : ℕ) → n < 2 ^ k → ones n ≡ 1 → IsPowerOfTwo n
one_bit zero n small one =
    let none : ones n ≡ 0 = (let zero_is : n ≡ 0 = omega arith in ap ones zero_is) ∙ ones_none in
    absurd (omega arith)
one_bit (suc k) n small one =
    let wider : 2 ^ suc k ≡ 2 ^ k * 2 = pow-suc 2 k in
    elim (cases_eq (n % 2) 0) [
      | inl even ↦
          let low : ones (n % 2) ≡ 0 = ap ones even ∙ ones_none in
          let high : ones (n / 2) ≡ 1 = omega (arith, ones_halves n) in
          let half = one_bit k (n / 2) (omega arith) high in
          let whole : n ≡ 2 ^ half.0 * 2 = omega (arith, half.1) in
          (suc half.0, whole ∙ sym (pow-suc 2 half.0))
      | inr odd ↦
          let is_one : n % 2 ≡ 1 = omega (arith, mod_below n 2 (omega arith)) in
          let low : ones (n % 2) ≡ 1 = ap ones is_one ∙ ones_single in
          let high : ones (n / 2) ≡ 0 = omega (arith, ones_halves n) in
          let none : n / 2 ≡ 0 = zero_from_ones (n / 2) high in
          (0, omega arith)
    ]

pub power_from_test : (n : ℕ) → n ≤ 2 ^ 28 → is_power_of_two n ≡ true → IsPowerOfTwo n
power_from_test n small test = one_bit 29 n (omega arith) (eqb-true _ 1 test)

ones-pow : (k : ℕ) → ones (2 ^ k) ≡ 1
ones-pow zero = ones_single
ones-pow (suc k) =
    let wider : 2 ^ suc k ≡ 2 ^ k * 2 ^ 1 + 0 = pow-suc 2 k ∙ omega arith in
    let split : ones (2 ^ k * 2 ^ 1 + 0) ≡ ones (2 ^ k) + ones 0 = ones_cat 1 (2 ^ k) 0 (omega arith) in
    ap ones wider ∙ split ∙ omega (arith, ones-pow k, ones_none)

pub test_from_power : (n : ℕ) → IsPowerOfTwo n → is_power_of_two n ≡ true
test_from_power n (k, is) = eq-eqb _ 1 (ap ones is ∙ ones-pow k)

-- a power of two above 2 ^ j is at least the next one
pub power_above : (j k : ℕ) → 2 ^ j < 2 ^ k → 2 ^ suc j ≤ 2 ^ k
power_above j k above = elim (cases_lt j k) [
  | inl less ↦ pow-le-pow_right {n = 2} (omega arith) {i = suc j} {j = k} (omega arith)
  | inr more ↦ absurd (omega (arith, pow-le-pow_right {n = 2} (omega arith) {i = k} {j = j} more))
]

-- what the code computes is the number of bits for so many keys
pub IsBitCountFor-computed : (keys wanted bits : ℕ) → wanted ≡ max 64 (min (min (keys * 10) (2 ^ 64 - 1)) (2 ^ 31)) → IsPowerOfTwo bits → wanted ≤ bits → bits / 2 < max 1 wanted
    → IsBitCountFor keys bits
IsBitCountFor-computed keys wanted bits is (k, power) lower upper = record {
  power = (k, power);
  at_least = omega arith;
  at_most = elim (cases_lt (2 ^ 31) (2 ^ k)) [
    | inl above ↦ absurd (omega (arith, power_above 31 k above))
    | inr within ↦ omega arith
  ];
  enough = λ below. omega arith;
  no_more = λ above. let twice : 2 ^ 7 ≤ 2 ^ k = power_above 6 k (omega arith) in omega arith;
}

-- an eighth as many bytes as bits
pub IsBodyLength-bits : (keys bits : ℕ) → IsBitCountFor keys bits → IsBodyLength (bits / 8) × (8 * (bits / 8) ≡ bits)
IsBodyLength-bits keys bits counted =
    let k = counted.power.0 in
    let is : bits ≡ 2 ^ k = counted.power.1 in
    let low : 3 ≤ k = elim (cases_lt k 3) [
      | inl small ↦ absurd (omega (arith, pow-le-pow_right {n = 2} (omega arith) {i = k} {j = 3} (omega arith), counted.at_least))
      | inr enough ↦ enough
    ] in
    let parts : 2 ^ (k - 3 + 3) ≡ 2 ^ (k - 3) * 2 ^ 3 = pow-add 2 (k - 3) 3 in
    let same : 2 ^ k ≡ 2 ^ (k - 3 + 3) = ap (λ n. 2 ^ n) (omega arith) in
    let eighth : bits / 8 ≡ 2 ^ (k - 3) = omega arith in
    (record { power = test_from_power (bits / 8) (k - 3, eighth); at_least = omega (arith, counted.at_least); at_most = omega (arith, counted.at_most) }, omega arith)

-- ---- the mask

pub mask_place : (word : ℕ) (body : List ℕ) → IsPowerOfTwo (length body) → bit_and word (8 * length body - 1) ≡ word % (8 * length body)
mask_place word body (k, is) =
    let bits : 8 * length body ≡ 2 ^ (k + 3) = omega (arith, pow-add 2 k 3) in
    rw bits (and_mask word (k + 3))

-- ---- one bit

pub has_bit_read : (body : List ℕ) (p : ℕ) → eqb (bit_and (get_or body (p / 8) 0 / 2 ^ (p % 8)) 1) 1 ≡ has_bit body p
unfolding has_bit
has_bit_read body p = ap (λ n. eqb n 1) (shr_and_one (get_or body (p / 8) 0) (p % 8))

same_place : (p q : ℕ) → p / 8 ≡ q / 8 → p % 8 ≡ q % 8 → p ≡ q
same_place p q high low = omega arith

or_true : (b : Bool) → (b || true) ≡ true
or_true true = refl
or_true false = refl

pub or_false : (b : Bool) → (b || false) ≡ b
or_false true = refl
or_false false = refl

-- a body with the bit of one place set
pub has_bit_set : (body : List ℕ) (place p : ℕ) → place < 8 * length body
    → has_bit (set body (place / 8) (bit_or (get_or body (place / 8) 0) (1 * 2 ^ (place % 8) % 256))) p ≡ (has_bit body p || eqb place p)
unfolding has_bit
has_bit_set body place p within =
    let byte = get_or body (place / 8) 0 in
    let changed = bit_or byte (1 * 2 ^ (place % 8) % 256) in
    elim (cases_eq (p / 8) (place / 8)) [
      | inl same ↦
          let read : get_or (set body (place / 8) changed) (p / 8) 0 ≡ changed = ap (λ i. get_or (set body (place / 8) changed) i 0) same ∙ get_or-set_same body (place / 8) changed 0 (omega arith) in
          let was : get_or body (p / 8) 0 ≡ byte = ap (λ i. get_or body i 0) same in
          elim (cases_eq (p % 8) (place % 8)) [
            | inl bit ↦
                let equal : place ≡ p = sym (same_place p place same bit) in
                let is_set : bit_at changed (p % 8) ≡ 1 = ap (bit_at changed) bit ∙ bit_at_set_same w8 byte (place % 8) (mod_below place 8 (omega arith)) in
                rw (read, is_set, eq-eqb place p equal) (sym (or_true (eqb (bit_at (get_or body (p / 8) 0) (p % 8)) 1)))
            | inr other ↦
                let apart : eqb place p ≡ false = ne_eqb place p (λ e. other (ap (λ n. n % 8) (sym e))) in
                let stays : bit_at changed (p % 8) ≡ bit_at byte (p % 8) = bit_at_set_other w8 byte (place % 8) (mod_below place 8 (omega arith)) (p % 8) other in
                rw (read, was, apart, stays) (sym (or_false (eqb (bit_at byte (p % 8)) 1)))
          ]
      | inr other ↦
          let apart : eqb place p ≡ false = ne_eqb place p (λ e. other (ap (λ n. n / 8) (sym e))) in
          rw (get_or-set_other body (place / 8) (p / 8) changed 0 other, apart) (sym (or_false (eqb (bit_at (get_or body (p / 8) 0) (p % 8)) 1)))
    ]

-- ---- the bits of words

pub AddsWords-none : (body : List ℕ) → AddsWords body body []
AddsWords-none body = record { same_length = refl; bits = λ p _. sym (or_false (has_bit body p)) }

or_assoc : (a b c : Bool) → ((a || b) || c) ≡ (a || (b || c))
or_assoc true b c = refl
or_assoc false b c = refl

-- one word more
pub AddsWords-more : (old mid new words : List ℕ) (word place : ℕ) → AddsWords old mid words → place ≡ place_of word mid → length new ≡ length mid
    → ((p : ℕ) → has_bit new p ≡ (has_bit mid p || eqb place p)) → AddsWords old new (words ++ word ∷ [])
AddsWords-more old mid new words word place added is same_length bits = record {
  same_length = same_length ∙ added.same_length;
  bits = λ p within.
      let one : (eqb place p || false) ≡ eqb place p = or_false (eqb place p) in
      let at : place ≡ word % (8 * length old) = is ∙ ap (λ n. word % (8 * n)) added.same_length in
      bits p ∙ ap (λ b. b || eqb place p) (added.bits p within) ∙ or_assoc (has_bit old p) (list_any (λ w. eqb (w % (8 * length old)) p) words) (eqb place p)
      ∙ ap (λ b. has_bit old p || b) (ap (λ b. list_any (λ w. eqb (w % (8 * length old)) p) words || b) (ap (λ n. eqb n p) at ∙ sym (or_false (eqb (word % (8 * length old)) p)))
      ∙ sym (list_any-append (λ w. eqb (w % (8 * length old)) p) words (word ∷ [])));
}

-- what a filter may hold it still may once words are added
pub has_words-kept : (old new words others : List ℕ) → 0 < length old → AddsWords old new words → has_words old others ≡ true → has_words new others ≡ true
unfolding has_words
has_words-kept old new words [] some added held = refl
has_words-kept old new words (other ∷ others) some added held =
    let parts = and_parts (has_bit old (other % (8 * length old))) (list_all (λ w. has_bit old (w % (8 * length old))) others) held in
    let within : other % (8 * length old) < 8 * length old = mod_below other (8 * length old) (omega arith) in
    let place : other % (8 * length new) ≡ other % (8 * length old) = ap (λ n. other % (8 * n)) added.same_length in
    let here : has_bit new (other % (8 * length new)) ≡ true =
    ap (has_bit new) place ∙ added.bits (other % (8 * length old)) within
    ∙ ap (λ b. b || list_any (λ w. eqb (w % (8 * length old)) (other % (8 * length old))) words) parts.0 in
    rw here (has_words-kept old new words others some added parts.1)

list_any_here : (test : ℕ → Bool) (front : List ℕ) (x : ℕ) (rest : List ℕ) → test x ≡ true → list_any test (front ++ x ∷ rest) ≡ true
list_any_here test front x rest passes = list_any-append test front (x ∷ rest) ∙ ap (λ b. list_any test front || (b || list_any test rest)) passes ∙ or_true (list_any test front)

-- the words that were added are held: those from some place on
held_from : (old new front words : List ℕ) → 0 < length old → AddsWords old new (front ++ words) → has_words new words ≡ true
unfolding has_words
held_from old new front [] some added = refl
held_from old new front (word ∷ words) some added =
    let place : word % (8 * length new) ≡ word % (8 * length old) = ap (λ n. word % (8 * n)) added.same_length in
    let within : word % (8 * length old) < 8 * length old = mod_below word (8 * length old) (omega arith) in
    let test = λ (w : ℕ). eqb (w % (8 * length old)) (word % (8 * length old)) in
    let here : has_bit new (word % (8 * length new)) ≡ true =
    ap (has_bit new) place ∙ added.bits (word % (8 * length old)) within
    ∙ ap (λ b. has_bit old (word % (8 * length old)) || b) (list_any_here test front word words (eq-eqb _ _ refl)) ∙ or_true (has_bit old (word % (8 * length old))) in
    let more : AddsWords old new ((front ++ word ∷ []) ++ words) = rw (append_assoc front (word ∷ []) words) added in
    rw here (held_from old new (front ++ word ∷ []) words some more)

pub has_words-added : (old new words : List ℕ) → 0 < length old → AddsWords old new words → has_words new words ≡ true
has_words-added old new words some added = held_from old new [] words some added

-- ---- a filter with no bit

pub no_bit : (n p : ℕ) → has_bit (replicate n 0) p ≡ false
unfolding has_bit
no_bit n p =
    let zero_byte : get_or (replicate n 0) (p / 8) 0 ≡ 0 = elim (cases_lt (p / 8) n) [
      | inl within ↦ get_or-replicate n (p / 8) 0 0 within
      | inr past ↦ get_or_past (replicate n 0) (p / 8) 0 (omega (arith, length-replicate {A = ℕ} n 0))
    ] in
    ap (λ b. eqb (bit_at b (p % 8)) 1) zero_byte ∙ ap (λ b. eqb b 1) (bit_at-zero (p % 8))

pub may_hold-empty : (n : ℕ) (key : List ℕ) → may_hold (replicate n 0) key ≡ false
unfolding may_hold has_words key_words
may_hold-empty n key = rw (no_bit n (digest_word (sha256 key) 0 % (8 * length {A = ℕ} (replicate n 0)))) refl

-- what follows where the body is as empty as it is made
pub sized_body : (keys bits : ℕ) (body : List ℕ) → IsBitCountFor keys bits → body ≡ replicate (bits / 8) 0 → IsBodyLength (length body) × IsBitCountFor keys (8 * length body)
sized_body keys bits body counted is =
    let len : length body ≡ bits / 8 = ap length is ∙ length-replicate (bits / 8) 0 in
    let whole = IsBodyLength-bits keys bits counted in
    (rw len whole.0, rw (len, whole.1) counted)

pub may_hold-of_empty : (n : ℕ) (body key : List ℕ) → body ≡ replicate n 0 → may_hold body key ≡ false
may_hold-of_empty n body key is = rw is (may_hold-empty n key)

pub AddsWords-returned : (old body new rest words given : List ℕ) (len : ℕ) → AddsWords body new given → body ≡ old → given ≡ words → len ≡ length old
    → AddsWords old (take len (new ++ rest)) words
AddsWords-returned old body new rest words given len added is same sized =
    let all : take len (new ++ rest) ≡ new = take_at new rest len (added.same_length ∙ ap length is ∙ sym sized) in
    rw (all, ← is, ← same) added
