-- A file of records is a file of blocks, and its footer and its index agree.
use Rattle.std.proofs.Common.{◌≡◌, ◌≢◌, ℕ, ◌+◌, ◌*◌, ◌<◌, ◌≤◌, ◌^◌, List, [], ◌∷◌, ◌++◌, length, refl, sym, ap, subst, inl, inr, arith, false}
use Rattle.std.proofs.lemmas.List.{append-nil, length-append, length-map}
use Rattle.std.proofs.lemmas.List.Sums.{sum_by-cons}
use Rattle.std.specs.Prelude.{map}
use Rattle.std.specs.List.{AllByRecursion}
use Rattle.mg_frame.specs.Frames.{numbered_frames}
use Rattle.mg_sealed.specs.Filling.{Fits, AreFilled, items_of}
use Rattle.mg_indexed.specs.Footer.{others, IsFooter}
use Rattle.mg_indexed.specs.Forms.{Form}
use Rattle.mg_indexed.specs.Index.{first_after, IsIndexFrom}
use Rattle.mg_indexed.specs.Loading.{IsIndexed}
use Rattle.mg_indexed.specs.NumberKeys.{number_keys}
use Rattle.mg_records.specs.File.{block_of, first_number, last_number, last_number_after, frame_length, index_from, end_of, RiseAfter, AreRising, AreBlocks, footer_of, bodies_of}
use Rattle.mg_records.specs.Framed.{IsFramed}
use Rattle.mg_records.specs.Indexes.{first_of}
use Rattle.mg_records.specs.Reading.{Agrees}
use Rattle.mg_records.specs.Record.{record_bytes, Kind, IsLawful, IsRecord}
use Rattle.mg_records.proofs.FileLaws.{length-index_from, length-index_bytes, length-blocks, file_ends}
use Rattle.mg_records.proofs.RecordLaws.{most_in_record}
use Rattle.mg_records.proofs.WithinLaws.{last_is_above, last_on}
use Rattle.mg_records.proofs.BlockLaws.{each-left, each-right, most_records, sizes_in_count}

first_in_range : {T : Type 0} (kind : Kind T) → IsLawful kind → (xs : List T) → AllByRecursion (IsRecord kind) xs → first_number kind xs < 2 ^ 62
first_in_range kind lawful [] fit = omega arith
first_in_range kind lawful (x ∷ xs) fit = fit.0.small

last_in_range : {T : Type 0} (kind : Kind T) → IsLawful kind → (n : ℕ) → n < 2 ^ 62 → (xs : List T) → AllByRecursion (IsRecord kind) xs → last_number_after kind n xs < 2 ^ 62
last_in_range kind lawful n near [] fit = near
last_in_range kind lawful n near (x ∷ xs) fit = last_in_range kind lawful (kind.seq x) (fit.0.small) xs fit.1

one_in_block : {T : Type 0} (kind : Kind T) → IsLawful kind → (xs : List T) → AllByRecursion (IsRecord kind) xs → length xs ≡ 1 → length (block_of kind xs) < 2 ^ 21
one_in_block kind lawful [] fit one = omega (arith, one)
one_in_block kind lawful (x ∷ []) fit one = omega (arith, most_in_record kind lawful x fit.0, length-append (record_bytes kind x) [])
one_in_block kind lawful (x ∷ (y ∷ xs)) fit one = absurd (omega (arith, one))

-- a block's body has fewer than 2 ^ 21 bytes
pub most_bytes : {T : Type 0} (kind : Kind T) → IsLawful kind → (xs : List T) → AllByRecursion (IsRecord kind) xs → Fits (block_of kind) xs → length (block_of kind xs) < 2 ^ 21
most_bytes kind lawful xs fit fits = elim fits.small [
  | inl small ↦ omega (arith, small)
  | inr one ↦ one_in_block kind lawful xs fit one
]

pub end_in_range : {T : Type 0} (kind : Kind T) → IsLawful kind → (blocks : List (List T)) → AreFilled (block_of kind) blocks → AllByRecursion (IsRecord kind) (items_of blocks)
    → end_of kind blocks ≤ length blocks * 2 ^ 22
end_in_range kind lawful [] filled fit = omega arith
end_in_range kind lawful (b ∷ blocks) filled fit =
    omega (
      arith,
      sum_by-cons (frame_length kind) b blocks,
      most_bytes kind lawful b (each-left (IsRecord kind) b (items_of blocks) fit) filled.0,
      end_in_range kind lawful blocks filled.2 (each-right (IsRecord kind) b (items_of blocks) fit),
    )

some_in_blocks : {T : Type 0} (kind : Kind T) (blocks : List (List T)) → blocks ≢ [] → AreFilled (block_of kind) blocks → (1 ≤ length blocks) × (1 ≤ length (items_of blocks))
some_in_blocks kind [] some filled = absurd (some refl)
some_in_blocks kind ([] ∷ blocks) some filled = absurd (filled.0.some refl)
some_in_blocks kind ((x ∷ b) ∷ blocks) some filled = (omega arith, omega arith)

footer_of_is_footer : {T : Type 0} (kind : Kind T) → IsLawful kind → (blocks : List (List T)) → AreBlocks kind blocks → IsFooter false (footer_of kind blocks)
footer_of_is_footer kind lawful blocks are =
    let most = most_records kind lawful blocks are.filled are.fit in
    let few = are.few in
    let some = some_in_blocks kind blocks are.some are.filled in
    record {
      count = omega (arith, most, few);
      sum = omega (arith, most, few, sizes_in_count kind lawful (items_of blocks) are.fit);
      low = first_in_range kind lawful (items_of blocks) are.fit;
      high = last_in_range kind lawful 0 (omega arith) (items_of blocks) are.fit;
      index_at = omega (arith, few, end_in_range kind lawful blocks are.filled are.fit);
      filter_at = omega arith;
      blocks = omega (arith, few);
      form = refl;
      some_items = some.1;
      some_blocks = some.0;
    }

-- records that rise and are above this number
abbrev RiseAbove : {T : Type 0} → Kind T → ℕ → List T → Type 0
RiseAbove kind number [] = Unit {0}
RiseAbove kind number (x ∷ xs) = (number < kind.seq x) × RiseAfter kind x xs

rise_behind : {T : Type 0} (kind : Kind T) (number : ℕ) (x : T) (xs ys : List T) → number ≤ kind.seq x → RiseAfter kind x (xs ++ ys) → RiseAbove kind number ys
rise_behind kind number x [] [] near rise = tt
rise_behind kind number x [] (y ∷ ys) near rise = (omega (arith, near, rise.0), rise.1)
rise_behind kind number x (z ∷ xs) ys near rise = rise_behind kind number z xs ys (omega (arith, near, rise.0)) rise.1

index_is : {T : Type 0} (kind : Kind T) → IsLawful kind → (form : Form) → IsFramed kind form → (previous at : ℕ) (blocks : List (List T)) → AreFilled (block_of kind) blocks
    → AllByRecursion (IsRecord kind) (items_of blocks) → RiseAbove kind previous (items_of blocks) → at + length blocks * 2 ^ 22 < 2 ^ 62
    → IsIndexFrom number_keys form previous at (index_from kind at blocks) (at + end_of kind blocks)
index_is kind lawful form framed previous at [] filled fit rise room = omega arith
index_is kind lawful form framed previous at ([] ∷ blocks) filled fit rise room = absurd (filled.0.some refl)
index_is {T} kind lawful form framed previous at ((x ∷ b) ∷ blocks) filled fit rise room =
    let here = each-left (IsRecord kind) (x ∷ b) (items_of blocks) fit in
    let fits = most_bytes kind lawful (x ∷ b) here filled.0 in
    let later = at + frame_length kind (x ∷ b) in
    let rest : IsIndexFrom number_keys form (kind.seq x) later (index_from kind later blocks) (later + end_of kind blocks) =
    index_is kind lawful form framed (kind.seq x) later blocks filled.2 (each-right (IsRecord kind) (x ∷ b) (items_of blocks) fit)
    (rise_behind kind (kind.seq x) x b (items_of blocks) (omega arith) rise.1) (omega (arith, fits, room)) in
    let ends : later + end_of kind blocks ≡ at + end_of kind ((x ∷ b) ∷ blocks) = omega (arith, sum_by-cons (frame_length kind) (x ∷ b) blocks) in (
      ((fit.0.small, rise.0), refl, omega (arith, room), framed.frames (x ∷ b) here filled.0),
      subst (λ end. IsIndexFrom number_keys form (kind.seq x) later (index_from kind later blocks) end) ends rest,
    )

rise_from_one : {T : Type 0} (kind : Kind T) (xs : List T) → AllByRecursion (IsRecord kind) xs → AreRising kind xs → RiseAbove kind 0 xs
rise_from_one kind [] fit rise = tt
rise_from_one kind (x ∷ xs) fit rise = (omega (arith, fit.0.some), rise)

index_from_is_index : {T : Type 0} (kind : Kind T) → IsLawful kind → (form : Form) → IsFramed kind form → (blocks : List (List T)) → AreBlocks kind blocks
    → IsIndexFrom number_keys form 0 0 (index_from kind 0 blocks) (end_of kind blocks)
index_from_is_index kind lawful form framed blocks are =
    subst (λ end. IsIndexFrom number_keys form 0 0 (index_from kind 0 blocks) end) (omega arith)
    (index_is kind lawful form framed 0 0 blocks are.filled are.fit (rise_from_one kind (items_of blocks) are.fit are.rise) (omega (arith, are.few)))

-- the bytes of a file of records are those of a file of blocks
pub indexed_of : {T : Type 0} (kind : Kind T) → IsLawful kind → (form : Form) → IsFramed kind form → (bytes : List ℕ) (blocks : List (List T)) → AreBlocks kind blocks
    → bytes ≡ numbered_frames (bodies_of kind blocks) → IsIndexed number_keys form bytes (footer_of kind blocks) (index_from kind 0 blocks)
indexed_of kind lawful form framed bytes blocks are is = record {
  blocks = map (block_of kind) blocks;
  filter = [];
  bytes_are = is;
  is_footer = subst (λ b. IsFooter b (footer_of kind blocks)) (sym framed.unfiltered) (footer_of_is_footer kind lawful blocks are);
  is_index = index_from_is_index kind lawful form framed blocks are;
  few = omega (arith, are.few, length-index_bytes (index_from kind 0 blocks), length-index_from kind 0 blocks);
  frames = length-map blocks (block_of kind);
  handles = length-index_from kind 0 blocks;
  filters = ap others (sym framed.unfiltered);
  at = sym (length-blocks kind blocks);
  ends = let long = file_ends kind blocks in omega (arith, ap length is, long);
}

-- ---- footer and index agree

rise_of_block : {T : Type 0} (kind : Kind T) (x : T) (xs : List T) → RiseAfter kind x (xs ++ []) → RiseAfter kind x xs
rise_of_block kind x xs rise = subst (λ ys. RiseAfter kind x ys) (append-nil xs) rise

last_of_block : {T : Type 0} (kind : Kind T) (number : ℕ) (xs : List T) → last_number_after kind number (xs ++ []) ≡ last_number_after kind number xs
last_of_block kind number xs = ap (last_number_after kind number) (append-nil xs)

items_some : {T : Type 0} (kind : Kind T) (block : List T) (blocks : List (List T)) → AreFilled (block_of kind) (block ∷ blocks) → items_of (block ∷ blocks) ≢ []
items_some kind [] blocks filled e = filled.0.some refl
items_some kind (x ∷ b) blocks filled e = cc

rising_later : {T : Type 0} (kind : Kind T) (x : T) (xs ys : List T) → RiseAfter kind x (xs ++ ys) → AreRising kind ys
rising_later kind x [] [] rise = tt
rising_later kind x [] (y ∷ ys) rise = rise.1
rising_later kind x (z ∷ xs) ys rise = rising_later kind z xs ys rise.1

-- no block begins behind the last number
ends_by : {T : Type 0} (kind : Kind T) (previous at : ℕ) (blocks : List (List T)) → AreFilled (block_of kind) blocks → AreRising kind (items_of blocks) → blocks ≢ []
    → first_after previous (index_from kind at blocks) ≤ last_number kind (items_of blocks)
ends_by kind previous at [] filled rise some = absurd (some refl)
ends_by kind previous at ([] ∷ blocks) filled rise some = absurd (filled.0.some refl)
ends_by kind previous at ((x ∷ b) ∷ []) filled rise some =
    omega (arith, last_is_above kind x b (rise_of_block kind x b rise), last_of_block kind (kind.seq x) b)
ends_by kind previous at ((x ∷ b) ∷ (c ∷ blocks)) filled rise some =
    let rest = ends_by kind (kind.seq x) (at + frame_length kind (x ∷ b)) (c ∷ blocks) filled.2 (rising_later kind x b (items_of (c ∷ blocks)) rise) (λ e. cc) in
    omega (arith, rest, last_on kind (kind.seq x) b (items_of (c ∷ blocks)) (items_some kind c blocks filled.2))

pub first_agrees : {T : Type 0} (kind : Kind T) (at : ℕ) (blocks : List (List T)) → AreFilled (block_of kind) blocks → first_of (index_from kind at blocks) ≡ first_number kind (items_of blocks)
first_agrees kind at [] filled = refl
first_agrees kind at ([] ∷ blocks) filled = absurd (filled.0.some refl)
first_agrees kind at ((x ∷ b) ∷ blocks) filled = refl

-- the footer and the index of blocks agree
pub agree_of : {T : Type 0} (kind : Kind T) (blocks : List (List T)) → AreBlocks kind blocks → Agrees (footer_of kind blocks) (index_from kind 0 blocks)
agree_of kind blocks are = record { first = first_agrees kind 0 blocks are.filled; last = ends_by kind 0 0 blocks are.filled are.rise are.some }
