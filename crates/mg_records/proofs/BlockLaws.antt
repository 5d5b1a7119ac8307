-- Lists of records, one record or one block more at a time.
use Rattle.std.proofs.Common.{◌+◌, ◌≡◌, ◌≢◌, ℕ, ◌*◌, ◌<◌, ◌≤◌, ◌⊎◌, List, [], ◌∷◌, ◌++◌, length, refl, sym, ap, ◌∙◌, inl, inr, arith, append_assoc}
use Rattle.std.proofs.lemmas.List.{append-nil, length-append}
use Rattle.std.proofs.lemmas.List.Sums.{sum_by-cons}
use Rattle.std.specs.Prelude.{sum_by}
use Rattle.std.specs.List.{AllByRecursion}
use Rattle.mg_records.specs.File.{block_of, first_number, last_number, last_number_after, RiseAfter, AreRising}
use Rattle.mg_records.proofs.RecordLaws.{some_bytes_of}
use Rattle.mg_sealed.specs.Filling.{Fits, AreFilled, items_of}
use Rattle.mg_records.specs.Record.{Kind, IsLawful, record_bytes, IsRecord}

-- ---- what holds of each record

pub each-left : {T : Type 0} (P : T → Type 0) (xs ys : List T) → AllByRecursion P (xs ++ ys) → AllByRecursion P xs
each-left P [] ys h = tt
each-left P (x ∷ xs) ys h = (h.0, each-left P xs ys h.1)

pub each-right : {T : Type 0} (P : T → Type 0) (xs ys : List T) → AllByRecursion P (xs ++ ys) → AllByRecursion P ys
each-right P [] ys h = h
each-right P (x ∷ xs) ys h = each-right P xs ys h.1

pub each-append : {T : Type 0} (P : T → Type 0) (xs ys : List T) → AllByRecursion P xs → AllByRecursion P ys → AllByRecursion P (xs ++ ys)
each-append P [] ys h k = k
each-append P (x ∷ xs) ys h k = (h.0, each-append P xs ys h.1 k)

-- ---- the body of a block

pub block_of-append : {T : Type 0} (kind : Kind T) (xs ys : List T) → block_of kind (xs ++ ys) ≡ block_of kind xs ++ block_of kind ys
block_of-append kind [] ys = refl
block_of-append kind (x ∷ xs) ys =
    ap (λ bytes. record_bytes kind x ++ bytes) (block_of-append kind xs ys) ∙ sym (append_assoc (record_bytes kind x) (block_of kind xs) (block_of kind ys))

pub block_of-one : {T : Type 0} (kind : Kind T) (it : T) → block_of kind (it ∷ []) ≡ record_bytes kind it
block_of-one kind it = append-nil (record_bytes kind it)

pub block_of-push : {T : Type 0} (kind : Kind T) (xs : List T) (it : T) → block_of kind (xs ++ it ∷ []) ≡ block_of kind xs ++ record_bytes kind it
block_of-push kind xs it = block_of-append kind xs (it ∷ []) ∙ ap (λ bytes. block_of kind xs ++ bytes) (block_of-one kind it)

pub length-push : {T : Type 0} (kind : Kind T) (xs : List T) (it : T) → length (block_of kind (xs ++ it ∷ [])) ≡ length (block_of kind xs) + length (record_bytes kind it)
length-push kind xs it = ap length (block_of-push kind xs it) ∙ length-append (block_of kind xs) (record_bytes kind it)

-- each record has a byte at least
pub count_in_bytes : {T : Type 0} (kind : Kind T) → IsLawful kind → (xs : List T) → AllByRecursion (IsRecord kind) xs → length xs ≤ length (block_of kind xs)
count_in_bytes kind lawful [] fit = omega arith
count_in_bytes kind lawful (x ∷ xs) fit =
    omega (arith, some_bytes_of kind x, count_in_bytes kind lawful xs fit.1, length-append (record_bytes kind x) (block_of kind xs))

pub sizes_in_count : {T : Type 0} (kind : Kind T) → IsLawful kind → (xs : List T) → AllByRecursion (IsRecord kind) xs → sum_by kind.size xs ≤ 1048826 * length xs
sizes_in_count kind lawful [] fit = omega arith
sizes_in_count kind lawful (x ∷ xs) fit =
    omega (arith, lawful.most_size x fit.0.fits, sizes_in_count kind lawful xs fit.1, sum_by-cons kind.size x xs)

-- ---- numbers

pub last_number_after-push : {T : Type 0} (kind : Kind T) (number : ℕ) (xs : List T) (it : T) → last_number_after kind number (xs ++ it ∷ []) ≡ kind.seq it
last_number_after-push kind number [] it = refl
last_number_after-push kind number (x ∷ xs) it = last_number_after-push kind (kind.seq x) xs it

pub first_number-push : {T : Type 0} (kind : Kind T) (xs : List T) (it : T) → xs ≢ [] → first_number kind (xs ++ it ∷ []) ≡ first_number kind xs
first_number-push kind [] it some = absurd (some refl)
first_number-push kind (x ∷ xs) it some = refl

pub rise-push : {T : Type 0} (kind : Kind T) (x : T) (xs : List T) (it : T) → RiseAfter kind x xs → last_number_after kind (kind.seq x) xs < kind.seq it
    → RiseAfter kind x (xs ++ it ∷ [])
rise-push kind x [] it rise above = (above, tt)
rise-push kind x (y ∷ xs) it rise above = (rise.0, rise-push kind y xs it rise.1 above)

pub AreRising-push : {T : Type 0} (kind : Kind T) (xs : List T) (it : T) → AreRising kind xs → (length xs ≡ 0) ⊎ (last_number kind xs < kind.seq it) → AreRising kind (xs ++ it ∷ [])
AreRising-push kind [] it rise above = tt
AreRising-push kind (x ∷ xs) it rise (inl none) = absurd (omega (arith, none))
AreRising-push kind (x ∷ xs) it rise (inr above) = rise-push kind x xs it rise above

-- ---- blocks

-- a block has at most 4,096 records
pub most_in_block : {T : Type 0} (kind : Kind T) → IsLawful kind → (xs : List T) → AllByRecursion (IsRecord kind) xs → Fits (block_of kind) xs → length xs ≤ 4096
most_in_block kind lawful xs fit fits = elim fits.small [
  | inl small ↦ omega (arith, small, count_in_bytes kind lawful xs fit)
  | inr one ↦ omega (arith, one)
]

-- blocks have at most 4,096 records each
pub most_records : {T : Type 0} (kind : Kind T) → IsLawful kind → (blocks : List (List T)) → AreFilled (block_of kind) blocks → AllByRecursion (IsRecord kind) (items_of blocks)
    → length (items_of blocks) ≤ 4096 * length blocks
most_records kind lawful [] filled fit = omega arith
most_records kind lawful (b ∷ blocks) filled fit =
    omega (
      arith,
      most_in_block kind lawful b (each-left (IsRecord kind) b (items_of blocks) fit) filled.0,
      most_records kind lawful blocks filled.2 (each-right (IsRecord kind) b (items_of blocks) fit),
      length-append b (items_of blocks),
    )
