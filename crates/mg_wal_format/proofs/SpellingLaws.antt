-- Changes, records and heads are spelled in one way.
use Rattle.std.proofs.Common.{◌≡◌, ℕ, ◌+◌, ◌*◌, ◌<◌, ◌≤◌, ◌^◌, List, [], ◌∷◌, ◌++◌, length, Some, ◌⊎◌, inl, inr, refl, sym, ap, ◌∙◌, arith}
use Rattle.std.proofs.lemmas.List.{append-nil, append_cancel_left, length-append}
use Rattle.mg_frame.specs.BigEndian.{big_endian, counted, front_list}
use Rattle.mg_frame.proofs.BigEndianLaws.{front_list-counted, length-big_endian}
use Rattle.mg_frame.proofs.SplitLaws.{one_number, length-counted}
use Rattle.mg_model.specs.declared.calls.Change.{Change}
use Rattle.mg_model.specs.declared.calls.Change.TheVariants.{Set, Del, Mark, Forget, Back, Clear}
use Rattle.mg_types.specs.Bytes.{IsKey, IsDoc}
use Rattle.mg_wal_format.specs.declared.head.Head.{Head}
use Rattle.mg_wal_format.specs.declared.record.Rec.{Rec}
use Rattle.mg_wal_format.specs.Heads.{head_bytes, numbers_bytes, AreNumbers, IsHead}
use Rattle.mg_wal_format.specs.Records.{change_bytes, change_code, change_rest, record_body, record_bytes, IsChange, IsOfKind, IsRecord}

-- ---- fields

-- a counted list at the front, and what follows it, are spelled in one way
pub one_list : (width : ℕ) (list other rest more : List ℕ) → length list < 256 ^ width → length other < 256 ^ width
    → counted width list ++ rest ≡ counted width other ++ more → (list ≡ other) × (rest ≡ more)
one_list width list other rest more fits fits' same =
    let first : front_list width (counted width list ++ rest) ≡ Some list = front_list-counted width list rest fits in
    let second : front_list width (counted width list ++ rest) ≡ Some other = ap (front_list width) same ∙ front_list-counted width other more fits' in
    let equal : list ≡ other = cc in
    (equal, append_cancel_left (counted width list) rest more (same ∙ ap (λ (l : List ℕ). counted width l ++ more) (sym equal)))

last_list : (width : ℕ) (list other : List ℕ) → length list < 256 ^ width → length other < 256 ^ width → counted width list ≡ counted width other → list ≡ other
last_list width list other fits fits' same = (one_list width list other [] [] fits fits' (append-nil (counted width list) ∙ same ∙ sym (append-nil (counted width other)))).0

last_number : (n m : ℕ) → n < 256 ^ 8 → m < 256 ^ 8 → big_endian 8 n ≡ big_endian 8 m → n ≡ m
last_number n m fits fits' same = (one_number 8 n m [] [] fits fits' (append-nil (big_endian 8 n) ∙ same ∙ sym (append-nil (big_endian 8 m)))).0

-- ---- lengths

pub length-set : (key doc : List ℕ) → length (change_bytes (Set key doc)) ≡ 6 + length key + length doc
unfolding change_bytes
length-set key doc =
    omega (
      arith,
      length-append (big_endian 1 1) (counted 1 key ++ counted 4 doc),
      length-append (counted 1 key) (counted 4 doc),
      length-counted 1 key,
      length-counted 4 doc,
      length-big_endian 1 1,
    )

pub length-delete : (key : List ℕ) → length (change_bytes (Del key)) ≡ 2 + length key
unfolding change_bytes
length-delete key = omega (arith, length-append (big_endian 1 2) (counted 1 key), length-counted 1 key, length-big_endian 1 2)

-- a change that names a mark
pub length-of_mark : (what : Change) (mark : ℕ) → change_rest what ≡ big_endian 8 mark → length (change_bytes what) ≡ 9
unfolding change_bytes
length-of_mark what mark is =
    omega (arith, length-append (big_endian 1 (change_code what)) (change_rest what), ap length is, length-big_endian 8 mark, length-big_endian 1 (change_code what))

-- a change that has nothing behind its kind
pub length-bare : (what : Change) → change_rest what ≡ [] → length (change_bytes what) ≡ 1
unfolding change_bytes
length-bare what is = omega (arith, length-append (big_endian 1 (change_code what)) (change_rest what), ap length is, length-big_endian 1 (change_code what))

pub length-marked : (what : Change) → ((mark : ℕ) × (what ≡ Forget mark)) ⊎ ((mark : ℕ) × (what ≡ Back mark)) → length (change_bytes what) ≡ 9
length-marked what (inl (mark, is)) = length-of_mark what mark (ap change_rest is)
length-marked what (inr (mark, is)) = length-of_mark what mark (ap change_rest is)

pub length-unmarked : (what : Change) → (what ≡ Mark) ⊎ (what ≡ Clear) → length (change_bytes what) ≡ 1
length-unmarked what (inl is) = length-bare what (ap change_rest is)
length-unmarked what (inr is) = length-bare what (ap change_rest is)

pub length-record_body : (part change : ℕ) (what : Change) → length (record_body part change what) ≡ 10 + length (change_bytes what)
unfolding record_body
length-record_body part change what =
    omega (
      arith,
      length-append (big_endian 2 part) (big_endian 8 change ++ change_bytes what),
      length-append (big_endian 8 change) (change_bytes what),
      length-big_endian 2 part,
      length-big_endian 8 change,
    )

-- ---- changes

pub change_code-lt : (what : Change) → change_code what < 256 ^ 1
change_code-lt (Set key doc) = omega arith
change_code-lt (Del key) = omega arith
change_code-lt Mark = omega arith
change_code-lt (Forget mark) = omega arith
change_code-lt (Back mark) = omega arith
change_code-lt Clear = omega arith

one_rest : (what other : Change) → IsChange what → IsChange other → change_code what ≡ change_code other → change_rest what ≡ change_rest other → what ≡ other
one_rest (Set key doc) (Set key' doc') fits fits' code same =
    let keys = one_list 1 key key' (counted 4 doc) (counted 4 doc') (let most = fits.0.1 in omega arith) (let most = fits'.0.1 in omega arith) same in
    let docs = last_list 4 doc doc' (let most = fits.1 in omega arith) (let most = fits'.1 in omega arith) keys.1 in
    let key_is = keys.0 in cc
one_rest (Set key doc) (Del key') fits fits' code same = absurd (omega (arith, code))
one_rest (Set key doc) Mark fits fits' code same = absurd (omega (arith, code))
one_rest (Set key doc) (Forget mark') fits fits' code same = absurd (omega (arith, code))
one_rest (Set key doc) (Back mark') fits fits' code same = absurd (omega (arith, code))
one_rest (Set key doc) Clear fits fits' code same = absurd (omega (arith, code))
one_rest (Del key) (Set key' doc') fits fits' code same = absurd (omega (arith, code))
one_rest (Del key) (Del key') fits fits' code same = ap (λ (k : List ℕ). let what : Change = Del k in what) (last_list 1 key key' (let most = fits.1 in omega arith) (let most = fits'.1 in omega arith) same)
one_rest (Del key) Mark fits fits' code same = absurd (omega (arith, code))
one_rest (Del key) (Forget mark') fits fits' code same = absurd (omega (arith, code))
one_rest (Del key) (Back mark') fits fits' code same = absurd (omega (arith, code))
one_rest (Del key) Clear fits fits' code same = absurd (omega (arith, code))
one_rest Mark (Set key' doc') fits fits' code same = absurd (omega (arith, code))
one_rest Mark (Del key') fits fits' code same = absurd (omega (arith, code))
one_rest Mark Mark fits fits' code same = refl
one_rest Mark (Forget mark') fits fits' code same = absurd (omega (arith, code))
one_rest Mark (Back mark') fits fits' code same = absurd (omega (arith, code))
one_rest Mark Clear fits fits' code same = absurd (omega (arith, code))
one_rest (Forget mark) (Set key' doc') fits fits' code same = absurd (omega (arith, code))
one_rest (Forget mark) (Del key') fits fits' code same = absurd (omega (arith, code))
one_rest (Forget mark) Mark fits fits' code same = absurd (omega (arith, code))
one_rest (Forget mark) (Forget mark') fits fits' code same = ap (λ (m : ℕ). let what : Change = Forget m in what) (last_number mark mark' (omega (arith, fits)) (omega (arith, fits')) same)
one_rest (Forget mark) (Back mark') fits fits' code same = absurd (omega (arith, code))
one_rest (Forget mark) Clear fits fits' code same = absurd (omega (arith, code))
one_rest (Back mark) (Set key' doc') fits fits' code same = absurd (omega (arith, code))
one_rest (Back mark) (Del key') fits fits' code same = absurd (omega (arith, code))
one_rest (Back mark) Mark fits fits' code same = absurd (omega (arith, code))
one_rest (Back mark) (Forget mark') fits fits' code same = absurd (omega (arith, code))
one_rest (Back mark) (Back mark') fits fits' code same = ap (λ (m : ℕ). let what : Change = Back m in what) (last_number mark mark' (omega (arith, fits)) (omega (arith, fits')) same)
one_rest (Back mark) Clear fits fits' code same = absurd (omega (arith, code))
one_rest Clear (Set key' doc') fits fits' code same = absurd (omega (arith, code))
one_rest Clear (Del key') fits fits' code same = absurd (omega (arith, code))
one_rest Clear Mark fits fits' code same = absurd (omega (arith, code))
one_rest Clear (Forget mark') fits fits' code same = absurd (omega (arith, code))
one_rest Clear (Back mark') fits fits' code same = absurd (omega (arith, code))
one_rest Clear Clear fits fits' code same = refl

pub one_change : (what other : Change) → IsChange what → IsChange other → change_bytes what ≡ change_bytes other → what ≡ other
unfolding change_bytes
one_change what other fits fits' same =
    let parts = one_number 1 (change_code what) (change_code other) (change_rest what) (change_rest other) (change_code-lt what) (change_code-lt other) same in
    one_rest what other fits fits' parts.0 parts.1

-- a change of a kind that was found is the only one
pub only_rest : (bytes : List ℕ) (kind : ℕ) (found what : Change) → IsOfKind kind found → bytes ≡ change_rest found → IsOfKind kind what → bytes ≡ change_rest what → Some found ≡ Some what
only_rest bytes kind found what fits is fits' is' = ap (λ (w : Change). Some w) (one_rest found what fits.0 fits'.0 (fits.1 ∙ sym fits'.1) (sym is ∙ is'))

-- ---- changes by their kind

pub set_parts : (what : Change) → IsOfKind 1 what → (key : List ℕ) × (doc : List ℕ) × IsKey key × IsDoc doc × (what ≡ Set key doc) × (change_rest what ≡ counted 1 key ++ counted 4 doc)
set_parts (Set key doc) fits = (key, doc, fits.0.0, fits.0.1, refl, refl)
set_parts (Del key) fits = absurd (omega (arith, fits.1))
set_parts Mark fits = absurd (omega (arith, fits.1))
set_parts (Forget mark) fits = absurd (omega (arith, fits.1))
set_parts (Back mark) fits = absurd (omega (arith, fits.1))
set_parts Clear fits = absurd (omega (arith, fits.1))

pub delete_parts : (what : Change) → IsOfKind 2 what → (key : List ℕ) × IsKey key × (what ≡ Del key) × (change_rest what ≡ counted 1 key ++ [])
delete_parts (Set key doc) fits = absurd (omega (arith, fits.1))
delete_parts (Del key) fits = (key, fits.0, refl, sym (append-nil (counted 1 key)))
delete_parts Mark fits = absurd (omega (arith, fits.1))
delete_parts (Forget mark) fits = absurd (omega (arith, fits.1))
delete_parts (Back mark) fits = absurd (omega (arith, fits.1))
delete_parts Clear fits = absurd (omega (arith, fits.1))

pub mark_parts : (what : Change) → IsOfKind 3 what → (what ≡ Mark) × (change_rest what ≡ [])
mark_parts (Set key doc) fits = absurd (omega (arith, fits.1))
mark_parts (Del key) fits = absurd (omega (arith, fits.1))
mark_parts Mark fits = (refl, refl)
mark_parts (Forget mark) fits = absurd (omega (arith, fits.1))
mark_parts (Back mark) fits = absurd (omega (arith, fits.1))
mark_parts Clear fits = absurd (omega (arith, fits.1))

pub forget_parts : (what : Change) → IsOfKind 4 what → (mark : ℕ) × (mark < 2 ^ 64) × (what ≡ Forget mark) × (change_rest what ≡ big_endian 8 mark)
forget_parts (Set key doc) fits = absurd (omega (arith, fits.1))
forget_parts (Del key) fits = absurd (omega (arith, fits.1))
forget_parts Mark fits = absurd (omega (arith, fits.1))
forget_parts (Forget mark) fits = (mark, fits.0, refl, refl)
forget_parts (Back mark) fits = absurd (omega (arith, fits.1))
forget_parts Clear fits = absurd (omega (arith, fits.1))

pub back_parts : (what : Change) → IsOfKind 5 what → (mark : ℕ) × (mark < 2 ^ 64) × (what ≡ Back mark) × (change_rest what ≡ big_endian 8 mark)
back_parts (Set key doc) fits = absurd (omega (arith, fits.1))
back_parts (Del key) fits = absurd (omega (arith, fits.1))
back_parts Mark fits = absurd (omega (arith, fits.1))
back_parts (Forget mark) fits = absurd (omega (arith, fits.1))
back_parts (Back mark) fits = (mark, fits.0, refl, refl)
back_parts Clear fits = absurd (omega (arith, fits.1))

pub clear_parts : (what : Change) → IsOfKind 6 what → (what ≡ Clear) × (change_rest what ≡ [])
clear_parts (Set key doc) fits = absurd (omega (arith, fits.1))
clear_parts (Del key) fits = absurd (omega (arith, fits.1))
clear_parts Mark fits = absurd (omega (arith, fits.1))
clear_parts (Forget mark) fits = absurd (omega (arith, fits.1))
clear_parts (Back mark) fits = absurd (omega (arith, fits.1))
clear_parts Clear fits = (refl, refl)

-- kinds are 1 to 6
pub some_kind : (what : Change) → (1 ≤ change_code what) × (change_code what ≤ 6)
some_kind (Set key doc) = (omega arith, omega arith)
some_kind (Del key) = (omega arith, omega arith)
some_kind Mark = (omega arith, omega arith)
some_kind (Forget mark) = (omega arith, omega arith)
some_kind (Back mark) = (omega arith, omega arith)
some_kind Clear = (omega arith, omega arith)

-- ---- records

same_record : (rec other : Rec) → rec.number ≡ other.number → rec.part ≡ other.part → rec.change ≡ other.change → rec.what ≡ other.what → rec ≡ other
same_record rec other number part change what =
    ap (λ (n : ℕ). let r : Rec = record { number = n; part = rec.part; change = rec.change; what = rec.what } in r) number
    ∙ ap (λ (p : ℕ). let r : Rec = record { number = other.number; part = p; change = rec.change; what = rec.what } in r) part
    ∙ ap (λ (n : ℕ). let r : Rec = record { number = other.number; part = other.part; change = n; what = rec.what } in r) change
    ∙ ap (λ (w : Change). let r : Rec = record { number = other.number; part = other.part; change = other.change; what = w } in r) what

pub one_record : (rec other : Rec) → IsRecord rec → IsRecord other → rec.number ≡ other.number → record_bytes rec ≡ record_bytes other → rec ≡ other
unfolding record_body
one_record rec other fits fits' number same =
    let parts = one_number 2 rec.part other.part _ _ (omega (arith, fits.part)) (omega (arith, fits'.part)) same in
    let changes = one_number 8 rec.change other.change _ _ (omega (arith, fits.change)) (omega (arith, fits'.change)) parts.1 in
    same_record rec other number parts.0 changes.0 (one_change rec.what other.what fits.what fits'.what changes.1)

-- ---- heads

pub length-numbers_bytes : (ns : List ℕ) → length (numbers_bytes ns) ≡ 8 * length ns
length-numbers_bytes [] = refl
length-numbers_bytes (n ∷ ns) = omega (arith, length-append (big_endian 8 n) (numbers_bytes ns), length-big_endian 8 n, length-numbers_bytes ns)

pub length-head_bytes : (head : Head) → length (head_bytes head) ≡ 11 + 8 * length head.before
unfolding head_bytes
length-head_bytes head =
    omega (
      arith,
      length-append (big_endian 1 1) (big_endian 8 head.first ++ (big_endian 2 (length head.before) ++ numbers_bytes head.before)),
      length-append (big_endian 8 head.first) (big_endian 2 (length head.before) ++ numbers_bytes head.before),
      length-append (big_endian 2 (length head.before)) (numbers_bytes head.before),
      length-big_endian 1 1,
      length-big_endian 8 head.first,
      length-big_endian 2 (length head.before),
      length-numbers_bytes head.before,
    )

pub one_numbers : (ns others : List ℕ) → AreNumbers ns → AreNumbers others → numbers_bytes ns ≡ numbers_bytes others → ns ≡ others
one_numbers [] [] fits fits' same = refl
one_numbers [] (m ∷ others) fits fits' same = absurd (let longer = length-numbers_bytes (m ∷ others) in let len = ap length same in omega arith)
one_numbers (n ∷ ns) [] fits fits' same = absurd (let longer = length-numbers_bytes (n ∷ ns) in let len = ap length same in omega arith)
one_numbers (n ∷ ns) (m ∷ others) fits fits' same =
    let parts = one_number 8 n m (numbers_bytes ns) (numbers_bytes others) (omega (arith, fits.0)) (omega (arith, fits'.0)) same in
    let first = parts.0 in
    let rest = one_numbers ns others fits.1 fits'.1 parts.1 in
    cc

same_head : (head other : Head) → head.first ≡ other.first → head.before ≡ other.before → head ≡ other
same_head head other first before =
    ap (λ (n : ℕ). let h : Head = record { first = n; before = head.before } in h) first
    ∙ ap (λ (b : List ℕ). let h : Head = record { first = other.first; before = b } in h) before

pub one_head : (head other : Head) → IsHead head → IsHead other → head_bytes head ≡ head_bytes other → head ≡ other
unfolding head_bytes
one_head head other fits fits' same =
    let format = one_number 1 1 1 _ _ (omega arith) (omega arith) same in
    let firsts = one_number 8 head.first other.first _ _ (omega (arith, fits.first)) (omega (arith, fits'.first)) format.1 in
    let counts = one_number 2 (length head.before) (length other.before) _ _ (omega (arith, fits.parts)) (omega (arith, fits'.parts)) firsts.1 in
    same_head head other firsts.0 (one_numbers head.before other.before fits.before fits'.before counts.1)
