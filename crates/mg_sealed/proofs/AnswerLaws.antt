-- What is told of a file, and how calls answer: steps that all kinds of sealed files take.
use Rattle.std.proofs.Common.{◌≡◌, ℕ, ◌≤◌, ◌⊎◌, cond, eqb, List, length, refl, sym, ap, ◌∙◌, subst, inl, inr, Option, Some, None, IfSome, Result, Ok, Err, IfOk, IfErr}
use Rattle.std.proofs.lemmas.Bool.{le-ltb, eq-eqb, ne_eqb, cases_eq}
use Rattle.std.specs.Prelude.{nat_lt}
use Rattle.mg_types.specs.declared.faults.Fault.{Fault}
use Rattle.mg_types.specs.declared.faults.Fault.TheVariants.{Damaged}
use Rattle.mg_types.specs.declared.names.FileId.{FileId}
use Rattle.mg_sealed.specs.Answers.{Answers, IsOutside}
use Rattle.mg_sealed.specs.Reading.{opened}
use Rattle.mg_sealed.specs.declared.reading.SealedFile.{SealedFile}

-- ---- what follows where something is told

pub some_any : {A : Type 0} (told : Option A) (P : A → Type 0) → ((a : A) → P a) → IfSome told P
some_any None P all = tt
some_any (Some a) P all = all a

pub some_then : {A : Type 0} (told : Option A) (P Q : A → Type 0) → ((a : A) → P a → Q a) → IfSome told P → IfSome told Q
some_then None P Q step h = tt
some_then (Some a) P Q step h = step a h

pub some_both : {A : Type 0} (told : Option A) (P Q : A → Type 0) → IfSome told P → IfSome told Q → IfSome told (λ a. P a × Q a)
some_both None P Q one other = tt
some_both (Some a) P Q one other = (one, other)

-- ---- results

pub err_is : {V : Type 0} (result : Result V Fault) (fault : Fault) (P : Fault → Type 0) → result ≡ Err fault → P fault → IfErr result P
err_is {V} result fault P is h = subst (λ (r : Result V Fault). IfErr r P) (sym is) h

pub err_then : {V : Type 0} (result : Result V Fault) (P Q : Fault → Type 0) → ((fault : Fault) → result ≡ Err fault → P fault → Q fault) → IfErr result P → IfErr result Q
err_then (Ok value) P Q step h = tt
err_then (Err fault) P Q step h = step fault refl h

pub ok_then : {V : Type 0} (result : Result V Fault) (P Q : V → Type 0) → ((value : V) → P value → Q value) → IfOk result P → IfOk result Q
ok_then (Ok value) P Q step h = step value h
ok_then (Err fault) P Q step h = tt

pub ok_same : {V : Type 0} (value other : V) → let r : Result V Fault = Ok value in r ≡ Ok other → value ≡ other
ok_same value other is = cc

pub err_same : {V : Type 0} (result : Result V Fault) (fault other : Fault) → result ≡ Err fault → result ≡ Err other → fault ≡ other
err_same {V} result fault other one two = let x : Result V Fault = Err fault in let y : Result V Fault = Err other in let e : x ≡ y = sym one ∙ two in cc

pub ok_not_err : {V : Type 0} (result : Result V Fault) (value : V) (fault : Fault) → result ≡ Ok value → result ≡ Err fault → ⊥
ok_not_err result value fault ok err = let e : Ok value ≡ Err fault = sym ok ∙ err in absurd cc

-- ---- answers

-- an error beside an answer that is no error comes from outside
pub refused : {V : Type 0} (value : V) (answer : Result V Fault) (fault : Fault) → answer ≡ Ok value → Answers answer (Err fault) → IsOutside fault
refused value answer fault is (inl outside) = outside
refused value answer fault is (inr same) = let e : Ok value ≡ Err fault = sym is ∙ same in absurd cc

-- a value beside the answer is that value
pub answered : {V : Type 0} (value other : V) (answer : Result V Fault) → answer ≡ Ok value → Answers answer (Ok other) → other ≡ value
answered value other answer is same = let e : Ok value ≡ Ok other = sym is ∙ same in cc

-- an error that comes from outside stands beside each answer
pub outside : {V : Type 0} (answer result : Result V Fault) (fault : Fault) → result ≡ Err fault → IsOutside fault → Answers answer result
outside {V} answer result fault is from = subst (λ (r : Result V Fault). Answers answer r) (sym is) (inl from)

pub answers : {V : Type 0} (value : V) (result : Result V Fault) → result ≡ Ok value → Answers (Ok value) result
answers {V} value result is = subst (λ (r : Result V Fault). Answers (Ok value) r) (sym is) refl

-- an answer that was refused is the fault that the bytes cause, where nothing came from outside
pub refused_by : {V : Type 0} (answer : Result V Fault) (fault : Fault) (P : Fault → Type 0) → ((f : Fault) → answer ≡ Err f → P f) → Answers answer (Err fault) → IsOutside fault ⊎ P fault
refused_by answer fault P step (inl from) = inl from
refused_by answer fault P step (inr is) = inr (step fault is)

-- ---- opening

-- a file that is long enough is opened
pub opened-ok : {S : Type 0} (id : FileId) (file : S) (len least : ℕ) (bytes : List ℕ) → length bytes ≡ len → least ≤ length bytes
    → opened id file len least bytes ≡ Ok (record { id = id; file = file; len = len })
unfolding opened
opened-ok {S} id file len least bytes same enough =
    let whole : SealedFile S = record { id = id; file = file; len = len } in
    let short : Result (SealedFile S) Fault = Err (Damaged id 0 least (length bytes)) in
    let other : Result (SealedFile S) Fault = Err (Damaged id 0 len (length bytes)) in
    ap (λ b. cond b (cond (nat_lt (length bytes) least) short (Ok whole)) other) (eq-eqb (length bytes) len same)
    ∙ ap (λ b. cond b short (Ok whole)) (le-ltb (length bytes) least enough)

-- a file that was opened has the length that is kept of it
pub opened-len : {S : Type 0} (told : Option (List ℕ)) (id : FileId) (file : S) (len least : ℕ) (found : SealedFile S)
    → IfSome told (λ bytes. Answers (opened id file len least bytes) (Ok found)) → IfSome told (λ bytes. length bytes ≡ len)
unfolding opened
opened-len None id file len least found known = tt
opened-len {S} (Some bytes) id file len least found known = elim (cases_eq (length bytes) len) [
  | inl same ↦ same
  | inr differs ↦
      let whole : SealedFile S = record { id = id; file = file; len = len } in
      let short : Result (SealedFile S) Fault = Err (Damaged id 0 least (length bytes)) in
      let other : Result (SealedFile S) Fault = Err (Damaged id 0 len (length bytes)) in
      let is : cond (eqb (length bytes) len) (cond (nat_lt (length bytes) least) short (Ok whole)) other ≡ other =
      ap (λ b. cond b (cond (nat_lt (length bytes) least) short (Ok whole)) other) (ne_eqb (length bytes) len differs) in
      let bad : other ≡ Ok found = sym is ∙ known in
      absurd cc
]

-- what is told of the file that was opened is told of the one that was given, which has the length that is kept
pub opened_told : {S : Type 0} (told : S → Option (List ℕ)) (file : SealedFile S) (id : FileId) (given : S) (len : ℕ) (P : FileId → List ℕ → Type 0)
    → file ≡ record { id = id; file = given; len = len } → IfSome (told given) (λ bytes. length bytes ≡ len)
    → IfSome (told file.file) (λ bytes. file.len ≡ length bytes → P file.id bytes) → IfSome (told given) (λ bytes. P id bytes)
opened_told {S} told file id given len P same long is =
    let here = subst (λ (f : SealedFile S). IfSome (told f.file) (λ bytes. f.len ≡ length bytes → P f.id bytes)) same is in
    some_then (told given) (λ bytes. (length bytes ≡ len) × (len ≡ length bytes → P id bytes)) (λ bytes. P id bytes) (λ bytes h. h.1 (sym h.0))
    (some_both (told given) (λ bytes. length bytes ≡ len) (λ bytes. len ≡ length bytes → P id bytes) long here)
