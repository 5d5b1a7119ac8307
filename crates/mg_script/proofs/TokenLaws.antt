-- Numbers and tokens: each has one spelling, and is read back from it.
use Rattle.std.proofs.Common.{◌≡◌, ◌≢◌, ℕ, suc, ◌+◌, ◌-◌, ◌*◌, ◌/◌, ◌%◌, ◌^◌, ◌<◌, ◌≤◌, List, [], ◌∷◌, ◌++◌, length, Bool, true, false, ◌&&◌, nat_lt, nat_le, Option, Some, None, ⊎_elim, refl, ap, subst, sym, ◌∙◌, arith}
use Rattle.std.specs.Bool.{◌==◌, if◌then◌else◌}
use Rattle.std.specs.Option.{option_map, option_and_then}
use Rattle.std.specs.Fmt.{decimal}
use Rattle.std.specs.List.{flat_map}
use Rattle.std.specs.Str.{bytes_eq}
use Rattle.std.specs.Str.Parse.{digits_value}
use Rattle.std.specs.Cmp.Lexicographic.{same_text}
use Rattle.std.proofs.lemmas.Bool.{cases_lt, eqb-true, ltb-true}
use Rattle.std.proofs.lemmas.List.{nil_from_length}
use Rattle.std.proofs.lemmas.List.Elements.{All-head, All-tail}
use Rattle.std.proofs.lemmas.Bool.Decides.{nat_tests}
use Rattle.std.proofs.lemmas.Fmt.{digits_value-decimal}
use Rattle.mg_script.specs.Tokens.{number_of, is_plain, hex_digit, byte_text, token_of, hex_value, escaped, plain_then, bytes_spelled, bytes_of_token}
use Rattle.mg_types.specs.Bytes.{AreBytes}
use Rattle.mg_script.proofs.Numbers.{numerals, number_decimal, decimal_is_decimal}
use Rattle.mg_script.proofs.Spellings.{spelled_escape, spelled_plain}

-- what is read as a number is its decimal spelling
pub number_spelled : (text : List ℕ) (n : ℕ) → number_of text ≡ Some n → (decimal n ≡ text) × (n < 2 ^ 64)
unfolding number_of
number_spelled text n e = by_tests (bytes_eq (decimal (digits_value 10 text)) text) refl (nat_lt (digits_value 10 text) (2 ^ 64)) refl e
  where
    by_tests : (a : Bool) → bytes_eq (decimal (digits_value 10 text)) text ≡ a → (b : Bool) → nat_lt (digits_value 10 text) (2 ^ 64) ≡ b → (if a && b then Some (digits_value 10 text) else None) ≡ Some n → (decimal n ≡ text) × (n < 2 ^ 64)
    by_tests true p true q e =
        let value : digits_value 10 text ≡ n = cc in
        (ap decimal (sym value) ∙ same_text (decimal (digits_value 10 text)) text (sym p), omega (arith, ltb-true (digits_value 10 text) (2 ^ 64) q))
    by_tests true p false q e = absurd (cc)
    by_tests false p b q e = absurd (cc)

-- a number is read back from its decimal spelling
pub number_again : (n : ℕ) → n < 2 ^ 64 → number_of (decimal n) ≡ Some n
number_again n small =
    let value : digits_value 10 (decimal n) ≡ n = digits_value-decimal numerals n small in
    number_decimal (decimal n) (decimal_is_decimal n small) (omega (arith, value)) ∙ ap Some value

-- the digits of a byte
hex_spelled : (c v : ℕ) → hex_value c ≡ Some v → (hex_digit v ≡ c) × (v < 16)
hex_spelled c v e = by_tests (nat_le 48 c && nat_le c 57) refl (nat_le 65 c && nat_le c 70) refl e
  where
    digit : (c : ℕ) → (nat_le 48 c && nat_le c 57) ≡ true → (hex_digit (c - 48) ≡ c) × (c - 48 < 16)
    digit c t = grind (arith, nat_tests)

    letter : (c : ℕ) → (nat_le 65 c && nat_le c 70) ≡ true → (hex_digit (c - 55) ≡ c) × (c - 55 < 16)
    letter c t = grind (arith, nat_tests)

    at : (k : ℕ) → k ≡ v → (hex_digit k ≡ c) × (k < 16) → (hex_digit v ≡ c) × (v < 16)
    at k q h = subst (λ j. (hex_digit j ≡ c) × (j < 16)) q h

    by_tests : (a : Bool) → (nat_le 48 c && nat_le c 57) ≡ a → (b : Bool) → (nat_le 65 c && nat_le c 70) ≡ b → (if a then Some (c - 48) else (if b then Some (c - 55) else None)) ≡ Some v → (hex_digit v ≡ c) × (v < 16)
    by_tests true p b q e = at (c - 48) (cc) (digit c p)
    by_tests false p true q e = at (c - 55) (cc) (letter c q)
    by_tests false p false q e = absurd (cc)

hex_again : (v : ℕ) → v < 16 → hex_value (hex_digit v) ≡ Some v
hex_again v l = ⊎_elim small great (cases_lt v 10)
  where
    digit_test : (c : ℕ) → 48 ≤ c → c ≤ 57 → (nat_le 48 c && nat_le c 57) ≡ true
    digit_test c a b = grind (arith, nat_tests)

    letter_test : (c : ℕ) → 65 ≤ c → c ≤ 70 → (nat_le 65 c && nat_le c 70) ≡ true
    letter_test c a b = grind (arith, nat_tests)

    no_digit : (c : ℕ) → 65 ≤ c → (nat_le 48 c && nat_le c 57) ≡ false
    no_digit c a = grind (arith, nat_tests)

    below : (v : ℕ) → v < 10 → hex_digit v ≡ 48 + v
    below v l = grind (arith, nat_tests)

    above : (v : ℕ) → 10 ≤ v → hex_digit v ≡ 55 + v
    above v l = grind (arith, nat_tests)

    digit_value : (c : ℕ) → 48 ≤ c → c ≤ 57 → hex_value c ≡ Some (c - 48)
    digit_value c a b = ap (λ (t : Bool). if t then Some (c - 48) else (if nat_le 65 c && nat_le c 70 then Some (c - 55) else None)) (digit_test c a b)

    letter_value : (c : ℕ) → 65 ≤ c → c ≤ 70 → hex_value c ≡ Some (c - 55)
    letter_value c a b =
        ap (λ (t : Bool). if t then Some (c - 48) else (if nat_le 65 c && nat_le c 70 then Some (c - 55) else None)) (no_digit c a)
        ∙ ap (λ (t : Bool). if t then Some (c - 55) else None) (letter_test c a b)

    small : v < 10 → hex_value (hex_digit v) ≡ Some v
    small h = let back : 48 + v - 48 ≡ v = omega arith in ap hex_value (below v h) ∙ digit_value (48 + v) (omega arith) (omega arith) ∙ ap Some back

    great : 10 ≤ v → hex_value (hex_digit v) ≡ Some v
    great h = let back : 55 + v - 55 ≡ v = omega arith in ap hex_value (above v h) ∙ letter_value (55 + v) (omega arith) (omega arith) ∙ ap Some back

-- the two digits behind a % spell a byte that does not stand for itself
escape_spelled : (d e b : ℕ) → escaped d e ≡ Some b → (is_plain b ≡ false) × (hex_digit (b / 16) ≡ d) × (hex_digit (b % 16) ≡ e)
escape_spelled d e b eq = by_high (hex_value d) refl (hex_value e) refl eq
  where
    parts : (h l : ℕ) → l < 16 → ((16 * h + l) / 16 ≡ h) × ((16 * h + l) % 16 ≡ l)
    parts h l small = (omega arith, omega arith)

    by_plain : (h l : ℕ) (p : Bool) → is_plain (16 * h + l) ≡ p → hex_value d ≡ Some h → hex_value e ≡ Some l → (if p then None else Some (16 * h + l)) ≡ Some b → (is_plain b ≡ false) × (hex_digit (b / 16) ≡ d) × (hex_digit (b % 16) ≡ e)
    by_plain h l true p m n q = absurd (cc)
    by_plain h l false p m n q =
        let same : 16 * h + l ≡ b = cc in
        let low = hex_spelled e l n in
        let high = hex_spelled d h m in
        let divided : b / 16 ≡ h = ap (λ k. k / 16) (sym same) ∙ (parts h l low.1).0 in
        let left : b % 16 ≡ l = ap (λ k. k % 16) (sym same) ∙ (parts h l low.1).1 in
        (ap is_plain (sym same) ∙ p, ap hex_digit divided ∙ high.0, ap hex_digit left ∙ low.0)

    by_high : (m : Option ℕ) → hex_value d ≡ m → (n : Option ℕ) → hex_value e ≡ n → option_and_then (λ h. option_and_then (λ l. if is_plain (16 * h + l) then None else Some (16 * h + l)) n) m ≡ Some b → (is_plain b ≡ false) × (hex_digit (b / 16) ≡ d) × (hex_digit (b % 16) ≡ e)
    by_high None m n k q = absurd (cc)
    by_high (Some h) m None k q = absurd (cc)
    by_high (Some h) m (Some l) k q = by_plain h l (is_plain (16 * h + l)) refl m k q

escape_again : (b : ℕ) → b < 256 → is_plain b ≡ false → escaped (hex_digit (b / 16)) (hex_digit (b % 16)) ≡ Some b
escape_again b small plain =
    ap (λ (m : Option ℕ). option_and_then (λ h. option_and_then (λ l. if is_plain (16 * h + l) then None else Some (16 * h + l)) (hex_value (hex_digit (b % 16)))) m) (hex_again (b / 16) (omega arith))
    ∙ ap (λ (n : Option ℕ). option_and_then (λ l. if is_plain (16 * (b / 16) + l) then None else Some (16 * (b / 16) + l)) n) (hex_again (b % 16) (omega arith))
    ∙ ap (λ k. if is_plain k then None else Some k) whole
    ∙ ap (λ (t : Bool). if t then None else Some b) plain
  where
    whole : 16 * (b / 16) + b % 16 ≡ b
    whole = omega arith

-- a byte that does not stand for itself
plain_text : (b : ℕ) → is_plain b ≡ true → byte_text b ≡ b ∷ []
unfolding byte_text
plain_text b p = ap (λ (t : Bool). if t then b ∷ [] else 37 ∷ hex_digit (b / 16) ∷ hex_digit (b % 16) ∷ []) p

escaped_text : (b : ℕ) → is_plain b ≡ false → byte_text b ≡ 37 ∷ hex_digit (b / 16) ∷ hex_digit (b % 16) ∷ []
unfolding byte_text
escaped_text b p = ap (λ (t : Bool). if t then b ∷ [] else 37 ∷ hex_digit (b / 16) ∷ hex_digit (b % 16) ∷ []) p

-- a byte that stands for itself in front of a text that spells more
by_plain : (c : ℕ) (text bytes : List ℕ) (read : Option (List ℕ)) → ((more : List ℕ) → read ≡ Some more → flat_map byte_text more ≡ text) → plain_then c read ≡ Some bytes → flat_map byte_text bytes ≡ c ∷ text
by_plain c text bytes read back e = by_tests (is_plain c) refl read refl e
  where
    by_tests : (p : Bool) → is_plain c ≡ p → (r : Option (List ℕ)) → read ≡ r → (if p then option_map (λ bs. c ∷ bs) r else None) ≡ Some bytes → flat_map byte_text bytes ≡ c ∷ text
    by_tests true p None k q = absurd (cc)
    by_tests true p (Some more) k q =
        let whole : bytes ≡ c ∷ more = cc in
        ap (flat_map byte_text) whole ∙ ap (λ (t : List ℕ). t ++ flat_map byte_text more) (plain_text c p) ∙ ap (λ (t : List ℕ). c ∷ t) (back more k)
    by_tests false p r k q = absurd (cc)

-- what some text spells has that text as its spelling
pub bytes_back : (text bytes : List ℕ) → bytes_spelled text ≡ Some bytes → flat_map byte_text bytes ≡ text
unfolding bytes_spelled
bytes_back [] bytes e = let none : bytes ≡ [] = cc in ap (flat_map byte_text) none
bytes_back (c ∷ []) bytes e = by_plain c [] bytes (Some []) (λ more q. let none : more ≡ [] = cc in ap (flat_map byte_text) none) e
bytes_back (c ∷ d ∷ []) bytes e = by_plain c (d ∷ []) bytes (bytes_spelled (d ∷ [])) (λ more q. bytes_back (d ∷ []) more q) e
bytes_back (c ∷ d ∷ g ∷ rest) bytes e = by_first (c == 37) refl e (λ more q. bytes_back rest more q) (λ more q. bytes_back (d ∷ g ∷ rest) more q)
  where
    by_escape : (o : Option ℕ) → escaped d g ≡ o → (r : Option (List ℕ)) → bytes_spelled rest ≡ r → option_and_then (λ b. option_map (λ bs. b ∷ bs) r) o ≡ Some bytes → ((more : List ℕ) → bytes_spelled rest ≡ Some more → flat_map byte_text more ≡ rest) → flat_map byte_text bytes ≡ 37 ∷ d ∷ g ∷ rest
    by_escape None k r m q back = absurd (cc)
    by_escape (Some b) k None m q back = absurd (cc)
    by_escape (Some b) k (Some more) m q back =
        let whole : bytes ≡ b ∷ more = cc in
        let parts = escape_spelled d g b k in
        ap (flat_map byte_text) whole
        ∙ ap (λ (t : List ℕ). t ++ flat_map byte_text more) (escaped_text b parts.0)
        ∙ ap (λ k. 37 ∷ k ∷ hex_digit (b % 16) ∷ flat_map byte_text more) parts.1
        ∙ ap (λ k. 37 ∷ d ∷ k ∷ flat_map byte_text more) parts.2
        ∙ ap (λ (t : List ℕ). 37 ∷ d ∷ g ∷ t) (back more m)

    by_first : (t : Bool) → (c == 37) ≡ t → (if t then option_and_then (λ b. option_map (λ bs. b ∷ bs) (bytes_spelled rest)) (escaped d g) else plain_then c (bytes_spelled (d ∷ g ∷ rest))) ≡ Some bytes
        → ((more : List ℕ) → bytes_spelled rest ≡ Some more → flat_map byte_text more ≡ rest) → ((more : List ℕ) → bytes_spelled (d ∷ g ∷ rest) ≡ Some more → flat_map byte_text more ≡ d ∷ g ∷ rest) → flat_map byte_text bytes ≡ c ∷ d ∷ g ∷ rest
    by_first true h q back on = by_escape (escaped d g) refl (bytes_spelled rest) refl q back ∙ ap (λ k. k ∷ d ∷ g ∷ rest) (sym (eqb-true c 37 h))
    by_first false h q back on = by_plain c (d ∷ g ∷ rest) bytes (bytes_spelled (d ∷ g ∷ rest)) on q

-- bytes are read back from their spelling
pub bytes_again : (bytes : List ℕ) → AreBytes bytes → bytes_spelled (flat_map byte_text bytes) ≡ Some bytes
unfolding bytes_spelled
bytes_again [] small = refl
bytes_again (b ∷ bytes) small = by_test (is_plain b) refl (bytes_again bytes (All-tail (λ byte. byte < 2 ^ 8) b bytes small))
  where
    rest : List ℕ
    rest = flat_map byte_text bytes

    not_percent : (b : ℕ) → is_plain b ≡ true → b ≢ 37
    not_percent b p = grind (arith, nat_tests)

    by_test : (p : Bool) → is_plain b ≡ p → bytes_spelled rest ≡ Some bytes → bytes_spelled (byte_text b ++ rest) ≡ Some (b ∷ bytes)
    by_test true p again =
        ap (λ (t : List ℕ). bytes_spelled (t ++ rest)) (plain_text b p)
        ∙ spelled_plain (b ∷ rest) (omega arith) (λ l. not_percent b p)
        ∙ ap (λ (t : Bool). if t then option_map (λ bs. b ∷ bs) (bytes_spelled rest) else None) p
        ∙ ap (option_map (λ bs. b ∷ bs)) again
    by_test false p again =
        ap (λ (t : List ℕ). bytes_spelled (t ++ rest)) (escaped_text b p)
        ∙ spelled_escape (37 ∷ hex_digit (b / 16) ∷ hex_digit (b % 16) ∷ rest) (omega arith) refl
        ∙ ap (option_and_then (λ k. option_map (λ bs. k ∷ bs) (bytes_spelled rest))) (escape_again b (All-head (λ byte. byte < 2 ^ 8) b bytes small) p)
        ∙ ap (option_map (λ bs. b ∷ bs)) again

-- the token of some bytes is their spelling
token_nonempty : (b : ℕ) (bytes : List ℕ) → (if length (b ∷ bytes) == 0 then 37 ∷ [] else flat_map byte_text (b ∷ bytes)) ≡ flat_map byte_text (b ∷ bytes)
token_nonempty b bytes = ap (λ (t : Bool). if t then 37 ∷ [] else flat_map byte_text (b ∷ bytes)) (not_zero (length bytes))
  where
    not_zero : (n : ℕ) → (suc n == 0) ≡ false
    not_zero n = grind (arith, nat_tests)

-- what is read as a token is the token of those bytes
pub token_spelled : (text bytes : List ℕ) → bytes_of_token text ≡ Some bytes → token_of bytes ≡ text
unfolding bytes_of_token token_of
token_spelled text bytes e = by_tests (bytes_eq text (37 ∷ [])) refl (length text == 0) refl e
  where
    some : (bs : List ℕ) → flat_map byte_text bs ≡ text → (length text == 0) ≡ false → (if length bs == 0 then 37 ∷ [] else flat_map byte_text bs) ≡ text
    some [] h l = absurd (cc (h, l, ap (λ (t : List ℕ). length t == 0) h))
    some (b ∷ bs) h l = token_nonempty b bs ∙ h

    by_tests : (p : Bool) → bytes_eq text (37 ∷ []) ≡ p → (q : Bool) → (length text == 0) ≡ q → (if p then Some [] else (if q then None else bytes_spelled text)) ≡ Some bytes → (if length bytes == 0 then 37 ∷ [] else flat_map byte_text bytes) ≡ text
    by_tests true p q k h = let none : bytes ≡ [] = cc in ap (λ (bs : List ℕ). if length bs == 0 then 37 ∷ [] else flat_map byte_text bs) none ∙ sym (same_text text (37 ∷ []) (sym p))
    by_tests false p true k h = absurd (cc)
    by_tests false p false k h = some bytes (bytes_back text bytes h) k

-- bytes are read back from their token
pub token_again : (bytes : List ℕ) → AreBytes bytes → bytes_of_token (token_of bytes) ≡ Some bytes
unfolding bytes_of_token token_of bytes_spelled
token_again [] small = refl
token_again (b ∷ bytes) small =
    ap bytes_of_token (token_nonempty b bytes)
    ∙ by_tests (bytes_eq text (37 ∷ [])) refl (length text == 0) refl
  where
    text : List ℕ
    text = flat_map byte_text (b ∷ bytes)

    again : bytes_spelled text ≡ Some (b ∷ bytes)
    again = bytes_again (b ∷ bytes) small

    lone_percent : Some (b ∷ bytes) ≡ bytes_spelled (37 ∷ []) → ⊥
    lone_percent e = cc

    nothing : Some (b ∷ bytes) ≡ bytes_spelled [] → ⊥
    nothing e = cc

    by_tests : (p : Bool) → bytes_eq text (37 ∷ []) ≡ p → (q : Bool) → (length text == 0) ≡ q → (if p then Some [] else (if q then None else bytes_spelled text)) ≡ Some (b ∷ bytes)
    by_tests true p q k = absurd (lone_percent (sym again ∙ ap bytes_spelled (same_text text (37 ∷ []) (sym p))))
    by_tests false p true k = absurd (nothing (sym again ∙ ap bytes_spelled (nil_from_length text (eqb-true (length text) 0 k))))
    by_tests false p false k = again
