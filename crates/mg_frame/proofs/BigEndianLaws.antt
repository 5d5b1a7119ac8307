-- Laws of big-endian numbers and counted lists, over any width.
use Rattle.std.proofs.Common.{◌≡◌, ℕ, ◌+◌, ◌*◌, ◌/◌, ◌%◌, ◌^◌, ◌<◌, ◌≤◌, List, [], ◌∷◌, ◌++◌, length, take, drop, get_or, fold, Option, Some, None, inl, inr, refl, sym, ap, ◌∙◌, arith, suc, zero, pow-suc, mul_comm, w8, w16, w32, w64}
use Rattle.std.proofs.Math.Nat.{one-le-pow, mod-eq_of_lt}
use Rattle.std.proofs.Math.Arith.{mod-mul}
use Rattle.std.proofs.lemmas.Nat.{same_from_place, mul-add-lt, mod_below}
use Rattle.std.proofs.lemmas.List.{take_all, take_at, drop_at, length-take-le, length-append, length-drop, take-append-drop, drop-drop, append_assoc}
use Rattle.std.proofs.lemmas.List.Sums.{fold_more}
use Rattle.std.proofs.lemmas.List.Elements.{All-head, All-tail, All-take, All-drop, All-append, All-cons, All-nil, All-from_get_or}
use Rattle.std.proofs.lemmas.Bool.{le-leb, lt-leb, cases_lt}
use Rattle.std.specs.List.{All}
use Rattle.std.specs.Int.{byte_at, bytes_high_first, from_be_bytes}
use Rattle.std.specs.Array.{IsFirstChunk}
use Rattle.std.specs.Borrow.{Bor}
use Rattle.std.specs.Prelude.{option_and_then}
use Rattle.std.specs.Option.{option_copied}
use Rattle.std.specs.Slice.{IsGetRangeResult}
use Rattle.std.proofs.lemmas.Bool.Decides.{nat_tests}
use Rattle.std.proofs.lemmas.Grind.{common_steps}
use Rattle.mg_frame.specs.BigEndian.{AreBytes, big_endian, big_endian_value, front_number, counted, front_bytes, front_list}

-- one more byte in front of the low k bytes
byte_on : (k n high : ℕ) → (high * 256 + byte_at k n) * 256 ^ k + n % 256 ^ k ≡ high * 256 ^ suc k + n % 256 ^ suc k
byte_on zero n high = omega arith
byte_on (suc k) n high =
    let unit = 256 ^ suc k in
    let wider : 256 ^ suc (suc k) ≡ 256 * unit = pow-suc 256 (suc k) ∙ mul_comm unit 256 in
    let some : 0 < unit = one-le-pow (suc k) 256 (omega arith) in
    rw (wider, mod-mul n {m = 256} {c = unit} (omega arith) some) (omega arith)

value_from : (k n high : ℕ) → fold (λ h byte. h * 256 + byte) high (bytes_high_first k n) ≡ high * 256 ^ k + n % 256 ^ k
value_from zero n high = omega arith
value_from (suc k) n high = value_from k n (high * 256 + byte_at k n) ∙ byte_on k n high

-- the low bytes of a number spell its remainder
pub big_endian_value-big_endian : (width n : ℕ) → big_endian_value (big_endian width n) ≡ n % 256 ^ width
unfolding big_endian_value big_endian
big_endian_value-big_endian width n = value_from width n 0 ∙ omega arith

length-bytes : (width n : ℕ) → length (bytes_high_first width n) ≡ width
length-bytes zero n = refl
length-bytes (suc width) n = ap suc (length-bytes width n)

pub length-big_endian : (width n : ℕ) → length (big_endian width n) ≡ width
unfolding big_endian
length-big_endian width n = length-bytes width n

byte_at-lt : (k n : ℕ) → byte_at k n < 2 ^ 8
byte_at-lt zero n = mod_below n 256 (omega arith)
byte_at-lt (suc k) n = mod_below (n / 256 ^ suc k) 256 (omega arith)

are_bytes : (width n : ℕ) → All (λ x. x < 2 ^ 8) (bytes_high_first width n)
are_bytes zero n = All-nil (λ x. x < 2 ^ 8)
are_bytes (suc width) n = All-cons (λ x. x < 2 ^ 8) (byte_at width n) (bytes_high_first width n) (byte_at-lt width n) (are_bytes width n)

pub AreBytes-big_endian : (width n : ℕ) → AreBytes (big_endian width n)
unfolding big_endian
AreBytes-big_endian width n = are_bytes width n

-- the value from a number on: it moves up by the width of the bytes
fold_split : (xs : List ℕ) (high : ℕ) → fold (λ h byte. h * 256 + byte) high xs ≡ high * 256 ^ length xs + fold (λ h byte. h * 256 + byte) 0 xs
fold_split [] high = omega arith
fold_split (x ∷ xs) high =
    let wider : 256 ^ suc (length xs) ≡ 256 ^ length xs * 256 = pow-suc 256 (length xs) in
    rw (fold_split xs (high * 256 + x), fold_split xs (0 * 256 + x), wider) (omega arith)

value_cons : (x : ℕ) (xs : List ℕ) → big_endian_value (x ∷ xs) ≡ x * 256 ^ length xs + big_endian_value xs
unfolding big_endian_value
value_cons x xs = fold_split xs (0 * 256 + x) ∙ omega arith

-- bytes spell a number of their width
pub big_endian_value-lt : (xs : List ℕ) → AreBytes xs → big_endian_value xs < 256 ^ length xs
unfolding big_endian_value
big_endian_value-lt [] small = omega arith
big_endian_value-lt (x ∷ xs) small =
    let wider : 256 ^ suc (length xs) ≡ 256 ^ length xs * 256 = pow-suc 256 (length xs) in
    rw (value_cons x xs, wider)
    (mul-add-lt x (256 ^ length xs) (big_endian_value xs) 256 (All-head (λ y. y < 2 ^ 8) x xs small) (big_endian_value-lt xs (All-tail (λ y. y < 2 ^ 8) x xs small)))

-- equal values, lengths and ranges: equal bytes
pub same_from_value : (xs ys : List ℕ) → length xs ≡ length ys → AreBytes xs → AreBytes ys → big_endian_value xs ≡ big_endian_value ys → xs ≡ ys
same_from_value [] [] len small small' same = refl
same_from_value [] (y ∷ ys) len small small' same = cc
same_from_value (x ∷ xs) [] len small small' same = cc
same_from_value (x ∷ xs) (y ∷ ys) len small small' same =
    let byte = λ (n : ℕ). n < 2 ^ 8 in
    let tails : length xs ≡ length ys = cc in
    let low : big_endian_value ys < 256 ^ length xs = rw tails (big_endian_value-lt ys (All-tail byte y ys small')) in
    let sums : x * 256 ^ length xs + big_endian_value xs ≡ y * 256 ^ length xs + big_endian_value ys =
    sym (value_cons x xs) ∙ same ∙ value_cons y ys ∙ ap (λ n. y * 256 ^ n + big_endian_value ys) (sym tails) in
    let parts = same_from_place x (big_endian_value xs) y (big_endian_value ys) (256 ^ length xs) (big_endian_value-lt xs (All-tail byte x xs small)) low sums in
    let rest : xs ≡ ys = same_from_value xs ys tails (All-tail byte x xs small) (All-tail byte y ys small') parts.1 in
    let first : x ≡ y = parts.0 in
    cc

-- bytes are the big-endian form of the number that they spell
pub big_endian-big_endian_value : (xs : List ℕ) → AreBytes xs → big_endian (length xs) (big_endian_value xs) ≡ xs
big_endian-big_endian_value xs small =
    same_from_value _ xs (length-big_endian (length xs) (big_endian_value xs)) (AreBytes-big_endian (length xs) (big_endian_value xs)) small
    (big_endian_value-big_endian (length xs) (big_endian_value xs) ∙ mod-eq_of_lt (big_endian_value-lt xs small))

-- the first bytes are the big-endian form of what they spell
pub front_back : (width : ℕ) (bytes : List ℕ) → width ≤ length bytes → AreBytes bytes → big_endian width (big_endian_value (take width bytes)) ≡ take width bytes
front_back width bytes enough small =
    ap (λ w. big_endian w (big_endian_value (take width bytes))) (sym (length-take-le width bytes enough))
    ∙ big_endian-big_endian_value (take width bytes) (All-take (λ x. x < 2 ^ 8) width bytes small)

pub AreBytes-drop : (n : ℕ) (bytes : List ℕ) → AreBytes bytes → AreBytes (drop n bytes)
AreBytes-drop n bytes small = All-drop (λ x. x < 2 ^ 8) n bytes small

pub AreBytes-take : (n : ℕ) (bytes : List ℕ) → AreBytes bytes → AreBytes (take n bytes)
AreBytes-take n bytes small = All-take (λ x. x < 2 ^ 8) n bytes small

pub AreBytes-append : (xs ys : List ℕ) → AreBytes xs → AreBytes ys → AreBytes (xs ++ ys)
AreBytes-append xs ys small small' = All-append (λ x. x < 2 ^ 8) xs ys small small'

pub AreBytes-from_reads : (xs : List ℕ) → ((i : ℕ) → get_or xs i 0 < 2 ^ 8) → AreBytes xs
AreBytes-from_reads xs small = All-from_get_or (λ x. x < 2 ^ 8) xs 0 (λ i _. small i)

pub front_number_some : (width : ℕ) (bytes : List ℕ) → width ≤ length bytes → front_number width bytes ≡ Some (big_endian_value (take width bytes))
unfolding front_number
front_number_some width bytes enough = rw (le-leb width (length bytes) enough)

pub front_number_none : (width : ℕ) (bytes : List ℕ) → length bytes < width → front_number width bytes ≡ None
unfolding front_number
front_number_none width bytes short = rw (lt-leb width (length bytes) short)

value_step : (xs : List ℕ) (i : ℕ) → i < length xs → big_endian_value (take (i + 1) xs) ≡ big_endian_value (take i xs) * 256 + get_or xs i 0
unfolding big_endian_value
value_step xs i within = fold_more (λ high byte. high * 256 + byte) 0 xs i 0 within

value_none : (xs : List ℕ) → big_endian_value (take 0 xs) ≡ 0
unfolding big_endian_value
value_none xs = refl

-- what `from_be_bytes` gives, at 1, 2, 4 and 8 bytes
pub value_of_1 : (xs : List ℕ) → length xs ≡ 1 → from_be_bytes w8 xs ≡ big_endian_value xs
value_of_1 xs len =
    let all : big_endian_value (take 1 xs) ≡ big_endian_value xs = ap big_endian_value (take_all 1 xs (omega arith)) in
    let step0 : big_endian_value (take 1 xs) ≡ big_endian_value (take 0 xs) * 256 + get_or xs 0 0 = value_step xs 0 (omega arith) in
    omega (arith, value_none xs)

pub value_of_2 : (xs : List ℕ) → length xs ≡ 2 → from_be_bytes w16 xs ≡ big_endian_value xs
value_of_2 xs len =
    let all : big_endian_value (take 2 xs) ≡ big_endian_value xs = ap big_endian_value (take_all 2 xs (omega arith)) in
    let step0 : big_endian_value (take 1 xs) ≡ big_endian_value (take 0 xs) * 256 + get_or xs 0 0 = value_step xs 0 (omega arith) in
    let step1 : big_endian_value (take 2 xs) ≡ big_endian_value (take 1 xs) * 256 + get_or xs 1 0 = value_step xs 1 (omega arith) in
    omega (arith, value_none xs)

pub value_of_4 : (xs : List ℕ) → length xs ≡ 4 → from_be_bytes w32 xs ≡ big_endian_value xs
value_of_4 xs len =
    let all : big_endian_value (take 4 xs) ≡ big_endian_value xs = ap big_endian_value (take_all 4 xs (omega arith)) in
    let step0 : big_endian_value (take 1 xs) ≡ big_endian_value (take 0 xs) * 256 + get_or xs 0 0 = value_step xs 0 (omega arith) in
    let step1 : big_endian_value (take 2 xs) ≡ big_endian_value (take 1 xs) * 256 + get_or xs 1 0 = value_step xs 1 (omega arith) in
    let step2 : big_endian_value (take 3 xs) ≡ big_endian_value (take 2 xs) * 256 + get_or xs 2 0 = value_step xs 2 (omega arith) in
    let step3 : big_endian_value (take 4 xs) ≡ big_endian_value (take 3 xs) * 256 + get_or xs 3 0 = value_step xs 3 (omega arith) in
    omega (arith, value_none xs)

pub value_of_8 : (xs : List ℕ) → length xs ≡ 8 → from_be_bytes w64 xs ≡ big_endian_value xs
value_of_8 xs len =
    let all : big_endian_value (take 8 xs) ≡ big_endian_value xs = ap big_endian_value (take_all 8 xs (omega arith)) in
    let step0 : big_endian_value (take 1 xs) ≡ big_endian_value (take 0 xs) * 256 + get_or xs 0 0 = value_step xs 0 (omega arith) in
    let step1 : big_endian_value (take 2 xs) ≡ big_endian_value (take 1 xs) * 256 + get_or xs 1 0 = value_step xs 1 (omega arith) in
    let step2 : big_endian_value (take 3 xs) ≡ big_endian_value (take 2 xs) * 256 + get_or xs 2 0 = value_step xs 2 (omega arith) in
    let step3 : big_endian_value (take 4 xs) ≡ big_endian_value (take 3 xs) * 256 + get_or xs 3 0 = value_step xs 3 (omega arith) in
    let step4 : big_endian_value (take 5 xs) ≡ big_endian_value (take 4 xs) * 256 + get_or xs 4 0 = value_step xs 4 (omega arith) in
    let step5 : big_endian_value (take 6 xs) ≡ big_endian_value (take 5 xs) * 256 + get_or xs 5 0 = value_step xs 5 (omega arith) in
    let step6 : big_endian_value (take 7 xs) ≡ big_endian_value (take 6 xs) * 256 + get_or xs 6 0 = value_step xs 6 (omega arith) in
    let step7 : big_endian_value (take 8 xs) ≡ big_endian_value (take 7 xs) * 256 + get_or xs 7 0 = value_step xs 7 (omega arith) in
    omega (arith, value_none xs)

-- the number that was read from a field of this width
pub number_read : (width : ℕ) (bytes field : List ℕ) (n : ℕ) → width ≤ length bytes → field ≡ take width bytes → n ≡ big_endian_value field → Some n ≡ front_number width bytes
number_read width bytes field n enough same is = rw (front_number_some width bytes enough) (ap (λ x. Some x) (is ∙ ap big_endian_value same))

-- a number that was found has all its bytes
pub front_number_fits : (width : ℕ) (bytes : List ℕ) (n : ℕ) → front_number width bytes ≡ Some n → (width ≤ length bytes) × (n ≡ big_endian_value (take width bytes))
front_number_fits width bytes n found = elim (cases_lt (length bytes) width) [
  | inl short ↦ let none = front_number_none width bytes short in cc
  | inr enough ↦ let some = front_number_some width bytes enough in (enough, cc)
]

-- a number that was written is read again, whatever follows it
pub front_number-big_endian : (width n : ℕ) (rest : List ℕ) → n < 256 ^ width → front_number width (big_endian width n ++ rest) ≡ Some n
front_number-big_endian width n rest fits =
    let len = length-big_endian width n in
    let enough : width ≤ length (big_endian width n ++ rest) = omega (arith, length-append (big_endian width n) rest) in
    front_number_some width (big_endian width n ++ rest) enough
    ∙ ap (λ xs. Some (big_endian_value xs)) (take_at (big_endian width n) rest width len)
    ∙ ap (λ x. Some x) (big_endian_value-big_endian width n ∙ mod-eq_of_lt fits)

subst_lt : (xs : List ℕ) (width : ℕ) → length xs ≡ width → big_endian_value xs < 256 ^ length xs → big_endian_value xs < 256 ^ width
subst_lt xs width len low = rw (← len) low

-- what was read as a number is that number's bytes, and then the rest
pub front_number_spelled : (width : ℕ) (bytes : List ℕ) (n : ℕ) → AreBytes bytes → front_number width bytes ≡ Some n → (bytes ≡ big_endian width n ++ drop width bytes) × (n < 256 ^ width)
front_number_spelled width bytes n small found =
    let fits = front_number_fits width bytes n found in
    let len : length (take width bytes) ≡ width = length-take-le width bytes fits.0 in
    let front : AreBytes (take width bytes) = All-take (λ x. x < 2 ^ 8) width bytes small in
    let back : big_endian width n ≡ take width bytes =
    ap (big_endian width) fits.1 ∙ ap (λ w. big_endian w (big_endian_value (take width bytes))) (sym len) ∙ big_endian-big_endian_value (take width bytes) front in (
      sym (take-append-drop width bytes) ∙ ap (λ xs. xs ++ drop width bytes) (sym back),
      rw (fits.1) (subst_lt (take width bytes) width len (big_endian_value-lt (take width bytes) front)),
    )

-- what a read of the first bytes gives
pub chunk_read : (width : ℕ) (bytes field : List ℕ) (n : ℕ) → IsFirstChunk bytes field width → (length field ≡ width → n ≡ big_endian_value field)
    → Some n ≡ front_number width bytes
chunk_read width bytes field n chunk reads =
    number_read width bytes field n chunk.enough chunk.same (reads (ap length chunk.same ∙ length-take-le width bytes chunk.enough))

pub front_read : (width : ℕ) (bytes field : List ℕ) (n : ℕ) → IsFirstChunk bytes field width → (length field ≡ width → n ≡ big_endian_value field)
    → n ≡ big_endian_value (take width bytes)
front_read width bytes field n chunk reads = reads (ap length chunk.same ∙ length-take-le width bytes chunk.enough) ∙ ap big_endian_value chunk.same

pub front_list_none : (width : ℕ) (bytes : List ℕ) → None ≡ front_number width bytes → None ≡ front_list width bytes
unfolding front_list
front_list_none width bytes none = ap (option_and_then (λ count. front_bytes count (drop width bytes))) none

pub front_list_some : (width : ℕ) (bytes : List ℕ) (count : ℕ) (found : Option (List ℕ)) → Some count ≡ front_number width bytes
    → found ≡ front_bytes count (drop width bytes) → found ≡ front_list width bytes
unfolding front_list
front_list_some width bytes count found some is = is ∙ ap (option_and_then (λ n. front_bytes n (drop width bytes))) some

front_bytes_some : (count : ℕ) (bytes : List ℕ) → count ≤ length bytes → front_bytes count bytes ≡ Some (take count bytes)
unfolding front_bytes
front_bytes_some count bytes enough = rw (le-leb count (length bytes) enough)

front_bytes_none : (count : ℕ) (bytes : List ℕ) → length bytes < count → front_bytes count bytes ≡ None
unfolding front_bytes
front_bytes_none count bytes short = rw (lt-leb count (length bytes) short)

-- a counted list that was written is read again, whatever follows it
pub front_list-counted : (width : ℕ) (list rest : List ℕ) → length list < 256 ^ width → front_list width (counted width list ++ rest) ≡ Some list
unfolding counted
front_list-counted width list rest fits =
    let count = big_endian width (length list) in
    let split : count ++ list ++ rest ≡ count ++ (list ++ rest) = append_assoc count list rest in
    let number : front_number width (count ++ list ++ rest) ≡ Some (length list) =
    ap (front_number width) split ∙ front_number-big_endian width (length list) (list ++ rest) fits in
    let after : drop width (count ++ list ++ rest) ≡ list ++ rest = ap (drop width) split ∙ drop_at count (list ++ rest) width (length-big_endian width (length list)) in
    let enough : length list ≤ length (list ++ rest) = omega (arith, length-append list rest) in
    sym (front_list_some width (count ++ list ++ rest) (length list) (Some list) (sym number)
    (rw after (sym (front_bytes_some (length list) (list ++ rest) enough ∙ ap (λ xs. Some xs) (take_at list rest (length list) refl)))))

front_bytes_spelled : (count : ℕ) (bytes list : List ℕ) → front_bytes count bytes ≡ Some list → (bytes ≡ list ++ drop count bytes) × (length list ≡ count)
front_bytes_spelled count bytes list found = elim (cases_lt (length bytes) count) [
  | inl short ↦ let none = front_bytes_none count bytes short in cc
  | inr enough ↦
      let some = front_bytes_some count bytes enough in
      let same : take count bytes ≡ list = cc in
      (sym (take-append-drop count bytes) ∙ ap (λ xs. xs ++ drop count bytes) same, sym (ap length same) ∙ length-take-le count bytes enough)
]

spelled_list : (width : ℕ) (bytes list : List ℕ) (count : ℕ) → bytes ≡ big_endian width count ++ drop width bytes → drop width bytes ≡ list ++ drop count (drop width bytes)
    → length list ≡ count → bytes ≡ counted width list ++ drop (width + length list) bytes
unfolding counted
spelled_list width bytes list count number listed len =
    let rest : drop count (drop width bytes) ≡ drop (width + length list) bytes = drop-drop count width bytes ∙ ap (λ n. drop (width + n) bytes) (sym len) in
    number ∙ ap (λ xs. big_endian width count ++ xs) (listed ∙ ap (λ xs. list ++ xs) rest)
    ∙ sym (append_assoc (big_endian width count) list (drop (width + length list) bytes))
    ∙ ap (λ n. big_endian width n ++ list ++ drop (width + length list) bytes) (sym len)

-- what was read as a counted list is its count and the list, and then the rest
pub front_list_spelled : (width : ℕ) (bytes list : List ℕ) → AreBytes bytes → front_list width bytes ≡ Some list
    → (bytes ≡ counted width list ++ drop (width + length list) bytes) × (length list < 256 ^ width)
unfolding front_list
front_list_spelled width bytes list small found = by_number (front_number width bytes) refl
  where
    by_number : (number : Option ℕ) → front_number width bytes ≡ number
        → (bytes ≡ counted width list ++ drop (width + length list) bytes) × (length list < 256 ^ width)
    by_number None is = let gone : option_and_then (λ n. front_bytes n (drop width bytes)) (front_number width bytes) ≡ None = ap (option_and_then (λ n. front_bytes n (drop width bytes))) is in cc
    by_number (Some count) is =
        let front : front_bytes count (drop width bytes) ≡ Some list = sym (ap (option_and_then (λ n. front_bytes n (drop width bytes))) is) ∙ found in
        let spelled = front_number_spelled width bytes count small is in
        let listed = front_bytes_spelled count (drop width bytes) list front in
        (spelled_list width bytes list count spelled.0 listed.0 listed.1, rw listed.1 spelled.1)

-- what a read of the first `count` bytes gives
pub bytes_read : (bytes : List ℕ) (count : ℕ) (found : Option (Bor (List ℕ))) → IsGetRangeResult bytes 0 count found → option_copied found ≡ front_bytes count bytes
unfolding front_bytes
bytes_read bytes count found is = grind (arith, nat_tests, common_steps)

-- the same place, counted from a later start
pub drop_past : (bytes : List ℕ) (at width : ℕ) → drop width (drop at bytes) ≡ drop (at + width) bytes
drop_past bytes at width = drop-drop width at bytes

-- a number that was found ends within the bytes
pub field_ends : (width : ℕ) (bytes : List ℕ) (at n : ℕ) → at ≤ length bytes → Some n ≡ front_number width (drop at bytes) → at + width ≤ length bytes
field_ends width bytes at n within found =
    let fits = (front_number_fits width (drop at bytes) n (sym found)).0 in
    omega (arith, length-drop at bytes)
