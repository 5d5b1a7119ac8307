-- The records of a block, from its front on.
use Rattle.std.proofs.Common.{◌≡◌, ◌≢◌, ℕ, ◌+◌, ◌-◌, ◌<◌, ◌≤◌, ◌⊎◌, subst, cond, List, [], ◌∷◌, ◌++◌, length, refl, sym, ap, ◌∙◌, inl, inr, arith, append_assoc, Bool, Option, Some, None}
use Rattle.std.proofs.lemmas.List.{append-nil, length-append}
use Rattle.std.proofs.lemmas.List.Elements.{filter-append}
use Rattle.std.proofs.lemmas.Bool.{lt-ltb, le-ltb, eq-eqb, ne_eqb, cases_eq}
use Rattle.std.specs.Prelude.{filter, nat_lt}
use Rattle.std.specs.List.{AllByRecursion}
use Rattle.mg_types.specs.declared.faults.Fault.{Fault}
use Rattle.mg_types.specs.declared.names.FileId.{FileId}
use Rattle.mg_records.specs.File.{AreRising, RiseAfter, block_of, first_number, last_number, record_of}
use Rattle.mg_records.specs.Lookup.{Follows, IsBlockOf, IsBlockUnfit, IsBodyRefused, IsFilledBlock, IsFoundIn, IsRecordUnfit, IsScanned, IsUnfilled, IsUnfitFor, IsWithin, bound_after, low_after}
use Rattle.mg_records.specs.Record.{Kind, IsLawful, IsRecord, record_bytes}
use Rattle.mg_records.specs.declared.block.Span.{Span}
use Rattle.mg_records.proofs.BlockLaws.{block_of-push, each-append, each-left, each-right}
use Rattle.mg_records.proofs.RecordLaws.{number_is, one_record, some_bytes_of}
use Rattle.mg_records.proofs.WithinLaws.{low_is_next, within_here, within_push}
use Rattle.mg_sealed.specs.Filling.{Fits}

pub record_of-here : {T : Type 0} (kind : Kind T) (number : ℕ) (x : T) (xs : List T) → kind.seq x ≡ number → record_of kind number (x ∷ xs) ≡ Some x
record_of-here kind number x xs is = ap (λ b. cond b (Some x) (record_of kind number xs)) (eq-eqb (kind.seq x) number is)

pub record_of-later : {T : Type 0} (kind : Kind T) (number : ℕ) (x : T) (xs : List T) → kind.seq x ≢ number → record_of kind number (x ∷ xs) ≡ record_of kind number xs
record_of-later kind number x xs is = ap (λ b. cond b (Some x) (record_of kind number xs)) (ne_eqb (kind.seq x) number is)

-- records behind those that are not of a number
pub record_of-behind : {T : Type 0} (kind : Kind T) (number : ℕ) (xs ys : List T) → record_of kind number xs ≡ None → record_of kind number (xs ++ ys) ≡ record_of kind number ys
record_of-behind kind number [] ys none = refl
record_of-behind {T} kind number (x ∷ xs) ys none = elim (cases_eq (kind.seq x) number) [
  | inl here ↦ (let e : Some x ≡ None = sym (record_of-here kind number x xs here) ∙ none in absurd cc)
  | inr other ↦
      record_of-later kind number x (xs ++ ys) other
      ∙ record_of-behind kind number xs ys (sym (record_of-later kind number x xs other) ∙ none)
]

pub filter-take : {T : Type 0} (kind : Kind T) (after : ℕ) (x : T) (xs : List T) → after < kind.seq x
    → filter (λ it. nat_lt after (kind.seq it)) (x ∷ xs) ≡ x ∷ filter (λ it. nat_lt after (kind.seq it)) xs
filter-take kind after x xs is =
    let rest = filter (λ it. nat_lt after (kind.seq it)) xs in ap (λ b. cond b (x ∷ rest) rest) (lt-ltb after (kind.seq x) is)

pub filter-pass : {T : Type 0} (kind : Kind T) (after : ℕ) (x : T) (xs : List T) → kind.seq x ≤ after
    → filter (λ it. nat_lt after (kind.seq it)) (x ∷ xs) ≡ filter (λ it. nat_lt after (kind.seq it)) xs
filter-pass kind after x xs is =
    let rest = filter (λ it. nat_lt after (kind.seq it)) xs in ap (λ b. cond b (x ∷ rest) rest) (le-ltb after (kind.seq x) is)

filter_after : {T : Type 0} (kind : Kind T) (after : ℕ) (x : T) (xs : List T) → after ≤ kind.seq x → RiseAfter kind x xs → filter (λ it. nat_lt after (kind.seq it)) xs ≡ xs
filter_after kind after x [] over rise = refl
filter_after kind after x (y ∷ xs) over rise =
    filter-take kind after y xs (omega (arith, over, rise.0)) ∙ ap (λ ys. y ∷ ys) (filter_after kind after y xs (omega (arith, over, rise.0)) rise.1)

pub filter_all : {T : Type 0} (kind : Kind T) (after : ℕ) (xs : List T) → AreRising kind xs → after < first_number kind xs → filter (λ it. nat_lt after (kind.seq it)) xs ≡ xs
filter_all kind after [] rise below = refl
filter_all kind after (x ∷ xs) rise below = filter-take kind after x xs below ∙ ap (λ ys. x ∷ ys) (filter_after kind after x xs (omega (arith, below)) rise)

-- ---- one record more

-- the bytes of a block behind records that fit, and one record more
pub block_more : {T : Type 0} (kind : Kind T) (body : List ℕ) (front : List T) (rest more : List ℕ) (it : T) → body ≡ block_of kind front ++ rest
    → rest ≡ record_bytes kind it ++ more → body ≡ block_of kind (front ++ it ∷ []) ++ more
block_more kind body front rest more it is next =
    is ∙ ap (λ (b : List ℕ). block_of kind front ++ b) next
    ∙ sym (append_assoc (block_of kind front) (record_bytes kind it) more)
    ∙ ap (λ (b : List ℕ). b ++ more) (sym (block_of-push kind front it))

pub fits_more : {T : Type 0} (kind : Kind T) (front : List T) (it : T) → AllByRecursion (IsRecord kind) front → IsRecord kind it → AllByRecursion (IsRecord kind) (front ++ it ∷ [])
fits_more kind front it fit fits = each-append (IsRecord kind) front (it ∷ []) fit (fits, tt)

pub record_of-none : {T : Type 0} (kind : Kind T) (number : ℕ) (front : List T) (it : T) → record_of kind number front ≡ None → kind.seq it ≢ number → record_of kind number (front ++ it ∷ []) ≡ None
record_of-none kind number front it none other = record_of-behind kind number front (it ∷ []) none ∙ record_of-later kind number it [] other

pub filter_over : {T : Type 0} (kind : Kind T) (after : ℕ) (front : List T) (x it : T) (start old new : List T) → after < kind.seq x → it ≡ x
    → old ≡ start ++ filter (λ r. nat_lt after (kind.seq r)) front → new ≡ old ++ it ∷ [] → new ≡ start ++ filter (λ r. nat_lt after (kind.seq r)) (front ++ x ∷ [])
filter_over {T} kind after front x it start old new over same is pushed =
    let above : T → Bool = λ r. nat_lt after (kind.seq r) in
    pushed ∙ ap (λ (r : T). old ++ r ∷ []) same ∙ ap (λ (rs : List T). rs ++ x ∷ []) is ∙ append_assoc start (filter above front) (x ∷ [])
    ∙ ap (λ (rs : List T). start ++ (filter above front ++ rs)) (sym (filter-take kind after x [] over))
    ∙ ap (λ (rs : List T). start ++ rs) (sym (filter-append above front (x ∷ [])))

pub filter_under : {T : Type 0} (kind : Kind T) (after : ℕ) (front : List T) (x : T) (start old new : List T) → kind.seq x ≤ after
    → old ≡ start ++ filter (λ r. nat_lt after (kind.seq r)) front → new ≡ old → new ≡ start ++ filter (λ r. nat_lt after (kind.seq r)) (front ++ x ∷ [])
filter_under {T} kind after front x start old new under is kept =
    let above : T → Bool = λ r. nat_lt after (kind.seq r) in
    kept ∙ is ∙ ap (λ (rs : List T). start ++ rs) (sym (append-nil (filter above front)))
    ∙ ap (λ (rs : List T). start ++ (filter above front ++ rs)) (sym (filter-pass kind after x [] under))
    ∙ ap (λ (rs : List T). start ++ rs) (sym (filter-append above front (x ∷ [])))

-- ---- records that a body is known to have

-- a body that begins with records that fit is of them and others
pub front_left : {T : Type 0} (kind : Kind T) → IsLawful kind → (front : List T) (rest : List ℕ) (records : List T) → AllByRecursion (IsRecord kind) front → AllByRecursion (IsRecord kind) records
    → block_of kind front ++ rest ≡ block_of kind records → (left : List T) × (records ≡ front ++ left) × AllByRecursion (IsRecord kind) left × (rest ≡ block_of kind left)
front_left kind lawful [] rest records fit fit' is = (records, refl, fit', is)
front_left kind lawful (x ∷ front) rest [] fit fit' is =
    absurd (omega (arith, some_bytes_of kind x, ap length is, length-append (record_bytes kind x ++ block_of kind front) rest, length-append (record_bytes kind x) (block_of kind front)))
front_left kind lawful (x ∷ front) rest (y ∷ records) fit fit' is =
    let one = one_record kind lawful x y (block_of kind front ++ rest) (block_of kind records) fit.0 fit'.0 (sym (append_assoc (record_bytes kind x) (block_of kind front) rest) ∙ is) in
    let more = front_left kind lawful front rest records fit.1 fit'.1 one.1 in
    (more.0, ap (λ r. r ∷ records) (sym one.0) ∙ ap (λ rs. x ∷ rs) more.1, more.2, more.3)

none_left : {T : Type 0} (kind : Kind T) → IsLawful kind → (front left records : List T) → AllByRecursion (IsRecord kind) left → records ≡ front ++ left → [] ≡ block_of kind left → records ≡ front
none_left kind lawful front [] records fit is none = is ∙ append-nil front
none_left kind lawful front (x ∷ left) records fit is none =
    absurd (omega (arith, some_bytes_of kind x, ap length none, length-append (record_bytes kind x) (block_of kind left)))

-- one body is one list of records
pub same_records : {T : Type 0} (kind : Kind T) → IsLawful kind → (front records : List T) → AllByRecursion (IsRecord kind) front → AllByRecursion (IsRecord kind) records
    → block_of kind front ≡ block_of kind records → records ≡ front
same_records kind lawful front records fit fit' is =
    let more = front_left kind lawful front [] records fit fit' (append-nil (block_of kind front) ∙ is) in
    none_left kind lawful front more.0 records more.2 more.1 more.3

found_left : {T : Type 0} (kind : Kind T) → IsLawful kind → (number : ℕ) (it : T) (rest : List ℕ) (left : List T) → IsRecord kind it → kind.seq it ≡ number → AllByRecursion (IsRecord kind) left
    → record_bytes kind it ++ rest ≡ block_of kind left → record_of kind number left ≡ Some it
found_left kind lawful number it rest [] fits here fit is = absurd (omega (arith, some_bytes_of kind it, ap length is, length-append (record_bytes kind it) rest))
found_left kind lawful number it rest (x ∷ left) fits here fit is =
    let one = one_record kind lawful it x rest (block_of kind left) fits fit.0 is in
    record_of-here kind number x left (sym (ap kind.seq one.0) ∙ here) ∙ ap (λ r. Some r) (sym one.0)

-- what is found in the body of a block is its record of that number
pub found_right : {T : Type 0} (kind : Kind T) → IsLawful kind → (number : ℕ) (span : Span) (body : List ℕ) (records : List T) (found : Option T) → AllByRecursion (IsRecord kind) records
    → body ≡ block_of kind records → IsFoundIn kind number span body found → found ≡ record_of kind number records
found_right kind lawful number span body records None fit is found =
    sym (ap (record_of kind number) (same_records kind lawful found.0 records found.1.fit fit (sym found.1.spelling ∙ is)) ∙ found.2)
found_right {T} kind lawful number span body records (Some it) fit is found =
    let fits = each-left (IsRecord kind) found.0 (it ∷ []) found.2 in
    let here = (each-right (IsRecord kind) found.0 (it ∷ []) found.2).0 in
    let more = front_left kind lawful found.0 (record_bytes kind it ++ found.1) records fits fit (sym found.6 ∙ is) in
    sym (ap (record_of kind number) more.1 ∙ record_of-behind kind number found.0 more.0 found.5
    ∙ found_left kind lawful number it found.1 more.0 here found.4 more.2 more.3)

-- what is scanned of the body of a block is its records above a number
pub scanned_right : {T : Type 0} (kind : Kind T) → IsLawful kind → (before : ℕ) (span : Span) (after : ℕ) (body : List ℕ) (records old new : List T) (last : ℕ) → AllByRecursion (IsRecord kind) records
    → body ≡ block_of kind records → IsScanned kind before span after body old new last → new ≡ old ++ filter (λ it. nat_lt after (kind.seq it)) records
scanned_right kind lawful before span after body records old new last fit is scanned =
    scanned.new_is ∙ ap (λ rs. old ++ filter (λ it. nat_lt after (kind.seq it)) rs)
    (sym (same_records kind lawful scanned.block records scanned.is_block.fit fit (sym scanned.is_block.spelling ∙ is)))

-- ---- the body of a block is not refused

pub none_length : {T : Type 0} (kind : Kind T) (xs : List T) → block_of kind xs ≡ [] → length xs ≡ 0
none_length kind [] none = refl
none_length kind (x ∷ xs) none = absurd (omega (arith, ap length none, length-append (record_bytes kind x) (block_of kind xs), some_bytes_of kind x))

pub block_some : {T : Type 0} (kind : Kind T) (block : List T) → block ≢ [] → block_of kind block ≢ []
block_some kind [] some e = some refl
block_some kind (x ∷ xs) some e = omega (arith, ap length e, length-append (record_bytes kind x) (block_of kind xs), some_bytes_of kind x)

no_record_unfit : {T : Type 0} (kind : Kind T) → IsLawful kind → (id : FileId) (at low bound : ℕ) (it : T) (rest : List ℕ) (fault : Fault) → IsRecord kind it → low ≤ kind.seq it → kind.seq it < bound
    → IsRecordUnfit kind id at low bound (record_bytes kind it ++ rest) fault → ⊥
no_record_unfit kind lawful id at low bound it rest fault fits over under (inl great) =
    let number = number_is kind it rest great.0 great.1 fits in omega (arith, number, great.2, fits.small)
no_record_unfit kind lawful id at low bound it rest fault fits over under (inr none) = none.0 it rest fits over under refl

unfit_left : {T : Type 0} (kind : Kind T) → IsLawful kind → (span : Span) (block front left : List T) (rest : List ℕ) (fault : Fault) → block ≢ [] → IsWithin kind span.first (span.first + 1) span.end block
    → block ≡ front ++ left → AllByRecursion (IsRecord kind) left → rest ≡ block_of kind left → (rest ≢ []) ⊎ (front ≡ [])
    → IsRecordUnfit kind span.file span.at (low_after kind span.first front) (bound_after (span.first + 1) span.end front) rest fault → ⊥
unfit_left kind lawful span block front [] rest fault some within all fit is (inl more) unfit = more is
unfit_left kind lawful span block front [] rest fault some within all fit is (inr none) unfit = some (all ∙ append-nil front ∙ none)
unfit_left {T} kind lawful span block front (x ∷ left) rest fault some within all fit is more unfit =
    let here = within_here kind span.first (span.first + 1) span.end front x left (subst (λ (xs : List T). IsWithin kind span.first (span.first + 1) span.end xs) all within) in
    no_record_unfit kind lawful span.file span.at (low_after kind span.first front) (bound_after (span.first + 1) span.end front) x (block_of kind left) fault fit.0 here.0 here.1
    (subst (λ (b : List ℕ). IsRecordUnfit kind span.file span.at (low_after kind span.first front) (bound_after (span.first + 1) span.end front) b fault) is unfit)

pub block_not_unfit : {T : Type 0} (kind : Kind T) → IsLawful kind → (span : Span) (body : List ℕ) (block : List T) (fault : Fault) → IsBlockOf kind span body block → IsBlockUnfit kind span body fault → ⊥
block_not_unfit kind lawful span body block fault right unfit =
    let more = front_left kind lawful unfit.front unfit.rest block unfit.fit right.fit (sym unfit.body_is ∙ right.spelling) in
    unfit_left kind lawful span block unfit.front more.0 unfit.rest fault right.some right.within more.1 more.2 more.3 unfit.some unfit.unfit

-- the first record of a body is that of its block
first_left : {T : Type 0} (kind : Kind T) → IsLawful kind → (it : T) (rest : List ℕ) (block : List T) → IsRecord kind it → AllByRecursion (IsRecord kind) block
    → record_bytes kind it ++ rest ≡ block_of kind block → (left : List T) × (block ≡ it ∷ left) × (rest ≡ block_of kind left)
first_left kind lawful it rest [] fits fit is = absurd (omega (arith, ap length is, length-append (record_bytes kind it) rest, some_bytes_of kind it))
first_left kind lawful it rest (x ∷ xs) fits fit is = let one = one_record kind lawful it x rest (block_of kind xs) fits fit.0 is in (xs, ap (λ r. r ∷ xs) (sym one.0), one.1)

no_unfilled : {T : Type 0} (kind : Kind T) (before : ℕ) (it : T) (left : List T) (body rest : List ℕ) → Fits (block_of kind) (it ∷ left) → Follows kind before (it ∷ left) → body ≡ block_of kind (it ∷ left)
    → rest ≡ block_of kind left → (before + length (record_bytes kind it) ≤ 4096) ⊎ ((rest ≢ []) × (4096 < length body)) → ⊥
no_unfilled kind before it left body rest fits follows is behind (inl room) = omega (arith, room, follows)
no_unfilled kind before it [] body rest fits follows is behind (inr long) = long.0 behind
no_unfilled kind before it (x ∷ left) body rest fits follows is behind (inr long) = elim fits.small [
  | inl small ↦ omega (arith, small, ap length is, long.1)
  | inr one ↦ omega (arith, one)
]

pub block_not_refused : {T : Type 0} (kind : Kind T) → IsLawful kind → (before : ℕ) (span : Span) (body : List ℕ) (block : List T) (fault : Fault) → IsBlockOf kind span body block → Fits (block_of kind) block
    → Follows kind before block → IsBodyRefused kind before span body fault → ⊥
block_not_refused {T} kind lawful before span body block fault right fits follows (inl unfilled) =
    let first = first_left kind lawful unfilled.0 unfilled.1 block unfilled.2 right.fit (sym unfilled.4 ∙ right.spelling) in
    no_unfilled kind before unfilled.0 first.0 body unfilled.1 (subst (λ (b : List T). Fits (block_of kind) b) first.1 fits) (subst (λ (b : List T). Follows kind before b) first.1 follows)
    (right.spelling ∙ ap (block_of kind) first.1) first.2 unfilled.6
block_not_refused kind lawful before span body block fault right fits follows (inr unfit) = block_not_unfit kind lawful span body block fault right unfit.0

-- ---- a body that is right

-- a block that was read to its end
pub block_read_whole : {T : Type 0} (kind : Kind T) → IsLawful kind → (before : ℕ) (span : Span) (body : List ℕ) (front : List T) → IsFilledBlock kind before span.first body → AllByRecursion (IsRecord kind) front
    → IsWithin kind span.first (span.first + 1) span.end front → body ≡ block_of kind front → IsBlockOf kind span body front × Fits (block_of kind) front × Follows kind before front
block_read_whole {T} kind lawful before span body front filled fit within is =
    let first = first_left kind lawful filled.0 filled.1 front filled.2 fit (sym filled.4 ∙ is) in
    let some : front ≢ [] = λ e. (let both : filled.0 ∷ first.0 ≡ [] = sym first.1 ∙ e in cc) in
    let small : (length (block_of kind front) ≤ 4096) ⊎ (length front ≡ 1) = elim filled.6 [
      | inl less ↦ inl (omega (arith, less, ap length is))
      | inr none ↦ inr (omega (arith, ap length first.1, none_length kind first.0 (sym first.2 ∙ none)))
    ] in (
      record { some = some; fit = fit; within = within; spelling = is },
      record { some = some; small = small },
      subst (λ (b : List T). Follows kind before b) (sym first.1) filled.5,
    )

pub scanned_block : {T : Type 0} (kind : Kind T) → IsLawful kind → (before : ℕ) (span : Span) (after : ℕ) (body : List ℕ) (old new : List T) (low : ℕ) (front : List T) → IsFilledBlock kind before span.first body
    → AllByRecursion (IsRecord kind) front → IsWithin kind span.first (span.first + 1) span.end front → body ≡ block_of kind front → low ≡ low_after kind span.first front
    → new ≡ old ++ filter (λ it. nat_lt after (kind.seq it)) front → IsScanned kind before span after body old new (low - 1)
scanned_block kind lawful before span after body old new low front filled fit within is low_is new_is =
    let whole = block_read_whole kind lawful before span body front filled fit within is in
    record {
      block = front;
      is_block = whole.0;
      fits = whole.1;
      follows = whole.2;
      new_is = new_is;
      last_is = omega (arith, low_is, low_is_next kind span.first front whole.0.some);
    }

-- a body that begins with none, from its front on
pub unfit_first : {T : Type 0} (kind : Kind T) (before : ℕ) (span : Span) (body : List ℕ) (fault : Fault) → IsRecordUnfit kind span.file span.at span.first (span.first + 1) body fault → IsBodyRefused kind before span body fault
unfit_first kind before span body fault unfit = inr (record { front = []; rest = body; fit = tt; within = tt; body_is = refl; some = inr refl; unfit = unfit }, inl refl)

unfoldable pub unfit_later : {T : Type 0} (kind : Kind T) (span : Span) (body : List ℕ) (front : List T) (rest : List ℕ) (low bound : ℕ) (fault : Fault) → AllByRecursion (IsRecord kind) front
    → IsWithin kind span.first (span.first + 1) span.end front → body ≡ block_of kind front ++ rest → rest ≢ [] → low ≡ low_after kind span.first front → bound ≡ bound_after (span.first + 1) span.end front
    → IsRecordUnfit kind span.file span.at low bound rest fault → IsBlockUnfit kind span body fault
unfit_later kind span body front rest low bound fault fit within is some low_is bound_is unfit = record {
  front = front;
  rest = rest;
  fit = fit;
  within = within;
  body_is = is;
  some = inl some;
  unfit = subst (λ (n : ℕ). IsRecordUnfit kind span.file span.at n (bound_after (span.first + 1) span.end front) rest fault) low_is
      (subst (λ (n : ℕ). IsRecordUnfit kind span.file span.at low n rest fault) bound_is unfit);
}

pub unfit_later_for : {T : Type 0} (kind : Kind T) (number : ℕ) (span : Span) (body : List ℕ) (front : List T) (rest : List ℕ) (low bound : ℕ) (fault : Fault) → AllByRecursion (IsRecord kind) front
    → IsWithin kind span.first (span.first + 1) span.end front → body ≡ block_of kind front ++ rest → rest ≢ [] → low ≡ low_after kind span.first front → bound ≡ bound_after (span.first + 1) span.end front
    → IsRecordUnfit kind span.file span.at low bound rest fault → IsFilledBlock kind 4096 span.first body → record_of kind number front ≡ None → IsUnfitFor kind number span body fault
unfolding unfit_later
unfit_later_for kind number span body front rest low bound fault fit within is some low_is bound_is unfit filled none =
    inr (unfit_later kind span body front rest low bound fault fit within is some low_is bound_is unfit, inr filled, none)

-- a body that begins with none has no record of a number
pub unfit_for : {T : Type 0} (kind : Kind T) (number : ℕ) (span : Span) (body : List ℕ) (fault : Fault)
    → IsUnfilled kind 4096 span body fault ⊎ IsRecordUnfit kind span.file span.at span.first (span.first + 1) body fault → IsUnfitFor kind number span body fault
unfit_for kind number span body fault (inl unfilled) = inl unfilled
unfit_for kind number span body fault (inr unfit) = inr (record { front = []; rest = body; fit = tt; within = tt; body_is = refl; some = inr refl; unfit = unfit }, inl refl, refl)

-- the record of a number was found behind others
pub found_so_far : {T : Type 0} (kind : Kind T) (number : ℕ) (span : Span) (body : List ℕ) (front : List T) (rest more : List ℕ) (it taken : T) (low bound here : ℕ) → AllByRecursion (IsRecord kind) front
    → IsWithin kind span.first (span.first + 1) span.end front → body ≡ block_of kind front ++ rest → low ≡ low_after kind span.first front → bound ≡ bound_after (span.first + 1) span.end front
    → record_of kind number front ≡ None → IsRecord kind it → here ≡ kind.seq it → low ≤ here → here < bound → rest ≡ record_bytes kind it ++ more → taken ≡ it → here ≡ number
    → IsFoundIn kind number span body (Some taken)
found_so_far {T} kind number span body front rest more it taken low bound here fit within is low_is bound_is none fits seq over under next same found =
    subst (λ (r : T). IsFoundIn kind number span body (Some r)) (sym same) (
      front,
      more,
      fits_more kind front it fit fits,
      within_push kind span.first (span.first + 1) span.end front it within (omega (arith, low_is, seq, over)) (omega (arith, bound_is, seq, under)),
      sym seq ∙ found,
      none,
      is ∙ ap (λ (b : List ℕ). block_of kind front ++ b) next,
    )

-- the last number of a body that was scanned
pub scanned_last : {T : Type 0} (kind : Kind T) → IsLawful kind → (before : ℕ) (span : Span) (after : ℕ) (body : List ℕ) (records old new : List T) (last : ℕ) → AllByRecursion (IsRecord kind) records
    → body ≡ block_of kind records → IsScanned kind before span after body old new last → last ≡ last_number kind records
scanned_last kind lawful before span after body records old new last fit is scanned =
    scanned.last_is ∙ ap (last_number kind) (sym (same_records kind lawful scanned.block records scanned.is_block.fit fit (sym scanned.is_block.spelling ∙ is)))
