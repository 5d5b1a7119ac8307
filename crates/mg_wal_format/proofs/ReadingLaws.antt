-- What the exits of readers have in common.
use Rattle.std.proofs.Common.{eqb, ◌≡◌, ℕ, zero, suc, ◌<◌, ◌≤◌, ◌^◌, List, [], ◌∷◌, ◌++◌, length, take, drop, Bool, true, false, ◌⊎◌, inl, inr, Result, Err, ◌==◌, nat_lt, if◌then◌else◌, Option, Some, None, refl, sym, subst, ap, ◌∙◌, arith}
use Rattle.std.proofs.lemmas.Bool.{eqb-true, ltb-true, false≢true}
use Rattle.std.proofs.lemmas.List.{append-nil, append_assoc, drop_at}
use Rattle.std.specs.Option.{IsSome}
use Rattle.std.specs.List.{AllByRecursion}
use Rattle.std.specs.Result.{IfErr}
use Rattle.mg_frame.specs.BigEndian.{big_endian, big_endian_value, counted, AreBytes}
use Rattle.mg_frame.proofs.BigEndianLaws.{AreBytes-drop, front_number_some, front_number_spelled}
use Rattle.mg_types.specs.declared.faults.Fault.{Fault}
use Rattle.mg_types.specs.declared.faults.Fault.TheVariants.{Malformed}
use Rattle.mg_types.specs.declared.names.FileId.{FileId}
use Rattle.mg_wal_format.specs.declared.head.Head.{Head}
use Rattle.mg_wal_format.specs.declared.record.Rec.{Rec}
use Rattle.mg_wal_format.specs.Faults.{head_fault, numbers_fault, too_great}
use Rattle.mg_wal_format.specs.Heads.{numbers_bytes, AreNumbers, IsHead, IsSoundHead}

pub err_is : {V : Type 0} (result : Result V Fault) (fault : Fault) (P : Fault → Type 0) → result ≡ Err fault → P fault → IfErr result P
err_is {V} result fault P is h = subst (λ (r : Result V Fault). IfErr r P) (sym is) h

-- want of memory, or what follows from the other
pub or_else : {M A B : Type 0} → (A → B) → M ⊎ A → M ⊎ B
or_else step (inl memory) = inl memory
or_else step (inr other) = inr (step other)

pub none_is_not_some : {X : Type 0} (found : Option X) → found ≡ None → IsSome found → ⊥
none_is_not_some None is some = false≢true some
none_is_not_some (Some x) is some = cc

-- a list that is not empty is not the empty one
pub not_empty : (xs : List ℕ) → false ≡ eqb (length xs) 0 → xs ≡ [] → ⊥
not_empty [] none is = false≢true none
not_empty (x ∷ xs) some is = let len = ap length is in omega arith

-- a list of no length is the empty one
pub empty : (xs : List ℕ) → true ≡ eqb (length xs) 0 → xs ≡ []
empty [] none = refl
empty (x ∷ xs) some = absurd (let long : length (x ∷ xs) ≡ 0 = eqb-true _ _ (sym some) in omega arith)

-- a key, and behind it a document and nothing else
pub set_read : (bytes key rest doc behind : List ℕ) → bytes ≡ counted 1 key ++ rest → rest ≡ counted 4 doc ++ behind → behind ≡ [] → bytes ≡ counted 1 key ++ counted 4 doc
set_read bytes key rest doc behind is is' none =
    is ∙ ap (λ (t : List ℕ). counted 1 key ++ t) (is' ∙ ap (λ (t : List ℕ). counted 4 doc ++ t) none ∙ append-nil (counted 4 doc))

pub none_is_not_found : {X : Type 0} (found : Option X) → found ≡ None → (x : X) → found ≡ Some x → ⊥
none_is_not_found None is x some = cc
none_is_not_found (Some y) is x some = cc

-- the same record with another number
abbrev pub numbered : ℕ → Rec → Rec
numbered number rec = record { number = number; part = rec.part; change = rec.change; what = rec.what }

-- eight bytes at the front are a number
pub front_is_number : (bytes : List ℕ) → AreBytes bytes → 8 ≤ length bytes → (n : ℕ) × (n < 2 ^ 64) × (bytes ≡ big_endian 8 n ++ drop 8 bytes)
front_is_number bytes small long =
    let n = big_endian_value (take 8 bytes) in
    let front = front_number_spelled 8 bytes n small (front_number_some 8 bytes long) in
    (n, omega (arith, front.1), front.0)

-- one number more
pub numbers_bytes-push : (ns : List ℕ) (n : ℕ) (rest : List ℕ) → numbers_bytes (ns ++ n ∷ []) ++ rest ≡ numbers_bytes ns ++ (big_endian 8 n ++ rest)
numbers_bytes-push [] n rest = ap (λ (l : List ℕ). l ++ rest) (append-nil (big_endian 8 n))
numbers_bytes-push (m ∷ ns) n rest =
    append_assoc (big_endian 8 m) (numbers_bytes (ns ++ n ∷ [])) rest ∙ ap (λ (l : List ℕ). big_endian 8 m ++ l) (numbers_bytes-push ns n rest)
    ∙ sym (append_assoc (big_endian 8 m) (numbers_bytes ns) (big_endian 8 n ++ rest))

pub AreNumbers-push : (ns : List ℕ) (n : ℕ) → AreNumbers ns → n < 2 ^ 64 → AreNumbers (ns ++ n ∷ [])
AreNumbers-push [] n all small = (small, tt)
AreNumbers-push (m ∷ ns) n all small = (all.0, AreNumbers-push ns n all.1 small)

pub behind_are_bytes : (front rest bytes : List ℕ) → front ++ rest ≡ bytes → AreBytes bytes → AreBytes rest
behind_are_bytes front rest bytes is small = subst AreBytes (ap (drop (length front)) (sym is) ∙ drop_at front rest (length front) refl) (AreBytes-drop (length front) bytes small)

-- ---- what no fault says

right_if_none : {X : Type 0} (b : Bool) (x : Option X) (fault : X) → None ≡ (if b then x else Some fault) → (b ≡ true) × (None ≡ x)
right_if_none true x fault none = (refl, none)
right_if_none false x fault none = absurd cc

wrong_if_none : {X : Type 0} (b : Bool) (x : Option X) (fault : X) → None ≡ (if b then Some fault else x) → (b ≡ false) × (None ≡ x)
wrong_if_none true x fault none = absurd cc
wrong_if_none false x fault none = (refl, none)

numbers_kept : (file : FileId) (at : ℕ) (ns : List ℕ) → None ≡ numbers_fault file at ns → AllByRecursion (λ n. n < 2 ^ 62) ns
numbers_kept file at [] none = tt
numbers_kept file at (n ∷ ns) none =
    let first = right_if_none (nat_lt n (2 ^ 62)) (numbers_fault file at ns) (too_great file at n) none in
    (ltb-true _ _ first.0, numbers_kept file at ns first.1)

some_from : (n : ℕ) → (n == 0) ≡ false → 1 ≤ n
some_from zero none = absurd (false≢true (sym none))
some_from (suc n) none = omega arith

-- a head without a fault
pub head_sound : (file : FileId) (head : Head) → IsHead head → None ≡ head_fault file head → (file.number < 2 ^ 62) × IsSoundHead head
head_sound file head fits none =
    let first = if nat_lt head.first (2 ^ 62) then (if head.first == 0 then Some (Malformed file 0) else numbers_fault file 0 head.before) else Some (too_great file 0 head.first) in
    let named = right_if_none (nat_lt file.number (2 ^ 62)) first (too_great file 0 file.number) none in
    let kept = right_if_none (nat_lt head.first (2 ^ 62)) (if head.first == 0 then Some (Malformed file 0) else numbers_fault file 0 head.before) (too_great file 0 head.first) named.1 in
    let some = wrong_if_none (head.first == 0) (numbers_fault file 0 head.before) (Malformed file 0) kept.1 in (
      ltb-true _ _ named.0,
      record { fits = fits; first = some_from (head.first) some.0; first_is_kept = ltb-true _ _ kept.0; before_are_kept = numbers_kept file 0 head.before some.1 },
    )
