-- A field at the front of bytes: it is read, and what follows it is left.
use Rattle.std.proofs.Common.{◌≡◌, ℕ, ◌+◌, ◌-◌, ◌<◌, ◌^◌, List, ◌++◌, length, take, drop, sym, ap, ◌∙◌, arith, Option, Some, None}
use Rattle.std.proofs.lemmas.List.{append_assoc, length-append, length-drop, drop_at, take_all}
use Rattle.mg_frame.specs.BigEndian.{AreBytes, big_endian, counted, front_number, front_list}
use Rattle.mg_frame.proofs.BigEndianLaws.{front_number-big_endian, front_number_spelled, front_list-counted, length-big_endian}

some_same : (a b : ℕ) (o : Option ℕ) → Some a ≡ o → o ≡ Some b → a ≡ b
some_same a b o x y = let z : Some a ≡ Some b = x ∙ y in cc

-- the number that was read stands at the front
pub split_is : (width : ℕ) (bytes : List ℕ) (n : ℕ) → AreBytes bytes → Some n ≡ front_number width bytes → bytes ≡ big_endian width n ++ drop width bytes
split_is width bytes n small read = (front_number_spelled width bytes n small (sym read)).0

-- the number that was written is read, and what follows it is left
pub split_written : (width : ℕ) (bytes rest : List ℕ) (n number : ℕ) → number < 256 ^ width → bytes ≡ big_endian width number ++ rest → Some n ≡ front_number width bytes
    → (n ≡ number) × (drop width bytes ≡ rest)
split_written width bytes rest n number fits is read = (
  some_same n number (front_number width bytes) read (ap (front_number width) is ∙ front_number-big_endian width number rest fits),
  ap (drop width) is ∙ drop_at (big_endian width number) rest width (length-big_endian width number),
)

-- a number that was written is read
pub split_some : (width : ℕ) (bytes rest : List ℕ) (number : ℕ) → number < 256 ^ width → bytes ≡ big_endian width number ++ rest → None ≡ front_number width bytes → ⊥
split_some width bytes rest number fits is none =
    let z : None ≡ Some number = none ∙ ap (front_number width) is ∙ front_number-big_endian width number rest fits in cc

-- a number at the front, and what follows it, are spelled in one way
pub one_number : (width n m : ℕ) (rest more : List ℕ) → n < 256 ^ width → m < 256 ^ width → big_endian width n ++ rest ≡ big_endian width m ++ more → (n ≡ m) × (rest ≡ more)
one_number width n m rest more fits fits' is =
    let bytes = big_endian width n ++ rest in
    let h = split_written width bytes more n m fits' is (sym (front_number-big_endian width n rest fits)) in
    (h.0, sym (drop_at (big_endian width n) rest width (length-big_endian width n)) ∙ h.1)

-- the bytes behind a front, as a slice of them
pub tail_is : (n : ℕ) (bytes : List ℕ) → take (length bytes - n) (drop n bytes) ≡ drop n bytes
tail_is n bytes = take_all (length bytes - n) (drop n bytes) (omega (arith, length-drop n bytes))

-- ---- a field with more behind it that is spelled

pub number_begins : (width n : ℕ) (tail rest bytes : List ℕ) → n < 256 ^ width → bytes ≡ big_endian width n ++ tail ++ rest → front_number width bytes ≡ Some n
number_begins width n tail rest bytes fits is = ap (front_number width) (is ∙ append_assoc (big_endian width n) tail rest) ∙ front_number-big_endian width n (tail ++ rest) fits

pub after_number : (width n : ℕ) (tail rest bytes : List ℕ) → bytes ≡ big_endian width n ++ tail ++ rest → drop width bytes ≡ tail ++ rest
after_number width n tail rest bytes is = ap (drop width) (is ∙ append_assoc (big_endian width n) tail rest) ∙ drop_at (big_endian width n) (tail ++ rest) width (length-big_endian width n)

pub length-counted : (width : ℕ) (list : List ℕ) → length (counted width list) ≡ width + length list
unfolding counted
length-counted width list = omega (arith, length-append (big_endian width (length list)) list, length-big_endian width (length list))

pub list_begins : (width : ℕ) (list tail rest bytes : List ℕ) → length list < 256 ^ width → bytes ≡ counted width list ++ tail ++ rest → front_list width bytes ≡ Some list
list_begins width list tail rest bytes fits is = ap (front_list width) (is ∙ append_assoc (counted width list) tail rest) ∙ front_list-counted width list (tail ++ rest) fits

pub after_list : (width : ℕ) (list tail rest bytes : List ℕ) → bytes ≡ counted width list ++ tail ++ rest → drop (width + length list) bytes ≡ tail ++ rest
after_list width list tail rest bytes is =
    ap (drop (width + length list)) (is ∙ append_assoc (counted width list) tail rest) ∙ drop_at (counted width list) (tail ++ rest) (width + length list) (length-counted width list)
