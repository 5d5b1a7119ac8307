-- Why a file is not loaded as a table, and what is read of one that is.
use Rattle.std.proofs.Common.{◌≡◌, ◌≢◌, ℕ, ◌+◌, ◌-◌, ◌⊎◌, true, List, length, refl, ap, ◌∙◌, subst, inl, inr, Option, IfSome, Result, Ok, Err}
use Rattle.mg_bloom.specs.Bloom.{IsBodyLength}
use Rattle.mg_types.specs.declared.faults.Fault.{Fault}
use Rattle.mg_types.specs.declared.faults.Fault.TheVariants.{Malformed}
use Rattle.mg_types.specs.declared.names.FileId.{FileId}
use Rattle.mg_sealed.specs.Answers.{Answers, IsOutside}
use Rattle.mg_frame.specs.Frame.{StandsAt}
use Rattle.mg_sealed.specs.Blocks.{IsUnfitAt}
use Rattle.mg_sealed.specs.Reading.{frame_body}
use Rattle.mg_sealed.specs.declared.reading.SealedFile.{SealedFile}
use Rattle.mg_sealed.proofs.AnswerLaws.{opened_told, refused_by, some_both, some_then}
use Rattle.mg_indexed.specs.Footer.{offset_of}
use Rattle.mg_indexed.specs.Forms.{table_form}
use Rattle.mg_indexed.specs.Loading as indexed
use Rattle.mg_indexed.specs.Loading.{IsFooterRead, IsIndexRead, IsKept}
use Rattle.mg_indexed.specs.TableKeys.{table_keys}
use Rattle.mg_indexed.specs.declared.footer.Footer.{Footer}
use Rattle.mg_indexed.specs.declared.handle.BlockHandle.{BlockHandle}
use Rattle.mg_indexed.proofs.LoadingSteps.{Under, under_both, under_then}
use Rattle.mg_table.specs.Loading.{IsFilterRead, IsFilterRefused, IsRead, IsRefused}
use Rattle.mg_table.specs.declared.table.Table.{Table}

-- a frame that is read, by the number of it and the body of it that others are
frame-as : (id : FileId) (bytes : List ℕ) (at number other : ℕ) (frame body : List ℕ) → number ≡ other → frame ≡ body → frame_body id bytes at number ≡ Ok frame
    → frame_body id bytes at other ≡ Ok body
frame-as id bytes at number other frame body count is read =
    subst (λ (n : ℕ). frame_body id bytes at n ≡ Ok body) count (read ∙ ap (λ (b : List ℕ). let r : Result (List ℕ) Fault = Ok b in r) is)

-- a frame that stands there, by the number of it and the body of it that others are
stands-as : (bytes : List ℕ) (at number other : ℕ) (frame body : List ℕ) → number ≡ other → frame ≡ body → StandsAt bytes at (number, frame) → StandsAt bytes at (other, body)
stands-as bytes at number other frame body count is there =
    subst (λ (n : ℕ). StandsAt bytes at (n, body)) count (subst (λ (b : List ℕ). StandsAt bytes at (number, b)) is there)

-- ---- the filter

pub filter_frame_refused : (told : Option (List ℕ)) (id : FileId) (len : ℕ) (at blocks number : ℕ) (fault : Fault) → number ≡ blocks + 1
    → Under told len (λ bytes. Answers (frame_body id bytes at number) (Err fault)) → Under told len (λ bytes. IsOutside fault ⊎ IsFilterRefused id bytes at blocks fault)
filter_frame_refused told id len at blocks number fault count read =
    under_then told len (λ bytes. Answers (frame_body id bytes at number) (Err fault)) (λ bytes. IsOutside fault ⊎ IsFilterRefused id bytes at blocks fault)
    (λ bytes same h. refused_by (frame_body id bytes at number) fault (λ f. IsFilterRefused id bytes at blocks f)
    (λ f is. inl (subst (λ (n : ℕ). frame_body id bytes at n ≡ Err f) count is)) h) read

pub filter_apart : (told : Option (List ℕ)) (id : FileId) (len : ℕ) (at blocks number : ℕ) (frame : List ℕ) → number ≡ blocks + 1
    → at + length frame + 20 ≢ len - 73
    → Under told len (λ bytes. frame_body id bytes at number ≡ Ok frame)
    → Under told len (λ bytes. IsOutside (Malformed id (len - 73)) ⊎ IsFilterRefused id bytes at blocks (Malformed id (len - 73)))
filter_apart told id len at blocks number frame count apart read =
    under_then told len (λ bytes. frame_body id bytes at number ≡ Ok frame)
    (λ bytes. IsOutside (Malformed id (len - 73)) ⊎ IsFilterRefused id bytes at blocks (Malformed id (len - 73)))
    (λ bytes same h. inr (inr (
      frame,
      frame-as id bytes at number (blocks + 1) frame frame count refl h,
      inl (subst (λ (n : ℕ). at + length frame + 20 ≢ n - 73) same apart, ap (λ (n : ℕ). Malformed id (n - 73)) same),
    ))) read

pub filter_unfit : (told : Option (List ℕ)) (id : FileId) (len : ℕ) (at blocks number : ℕ) (frame : List ℕ) → number ≡ blocks + 1
    → at + length frame + 20 ≡ len - 73 → (IsBodyLength (length frame) → ⊥)
    → Under told len (λ bytes. frame_body id bytes at number ≡ Ok frame)
    → Under told len (λ bytes. IsOutside (Malformed id at) ⊎ IsFilterRefused id bytes at blocks (Malformed id at))
filter_unfit told id len at blocks number frame count ends unfit read =
    under_then told len (λ bytes. frame_body id bytes at number ≡ Ok frame)
    (λ bytes. IsOutside (Malformed id at) ⊎ IsFilterRefused id bytes at blocks (Malformed id at))
    (λ bytes same h. inr (inr (
      frame,
      frame-as id bytes at number (blocks + 1) frame frame count refl h,
      inr (subst (λ (n : ℕ). at + length frame + 20 ≡ n - 73) same ends, unfit, refl),
    ))) read

pub filter_read : (told : Option (List ℕ)) (id : FileId) (len : ℕ) (at blocks number : ℕ) (frame filter : List ℕ) → number ≡ blocks + 1
    → frame ≡ filter → at + length filter + 20 ≡ len - 73 → IsBodyLength (length filter)
    → Under told len (λ bytes. frame_body id bytes at number ≡ Ok frame) → Under told len (λ bytes. StandsAt bytes at (number, frame))
    → Under told len (λ bytes. IsFilterRead id bytes at blocks filter)
filter_read told id len at blocks number frame filter count is ends fits read there =
    under_then told len (λ bytes. (frame_body id bytes at number ≡ Ok frame) × StandsAt bytes at (number, frame)) (λ bytes. IsFilterRead id bytes at blocks filter)
    (λ bytes same h. record {
      body = frame-as id bytes at number (blocks + 1) frame filter count is h.0;
      stands = stands-as bytes at number (blocks + 1) frame filter count is h.1;
      is_filter = fits;
      ends = subst (λ (n : ℕ). at + length filter + 20 ≡ n - 73) same ends;
    })
    (under_both told len (λ bytes. frame_body id bytes at number ≡ Ok frame) (λ bytes. StandsAt bytes at (number, frame)) read there)

-- ---- the file

-- why a file is not loaded for its length, its footer or its index
pub indexed_refused : {S : Type 0} (told : Option (List ℕ)) (id : FileId) (file : S) (len : ℕ) (fault : Fault)
    → IfSome told (λ bytes. IsOutside fault ⊎ indexed.IsRefused table_keys table_form id file len bytes fault) → IfSome told (λ bytes. IsRefused id file len bytes fault)
indexed_refused told id file len fault is =
    some_then told (λ bytes. IsOutside fault ⊎ indexed.IsRefused table_keys table_form id file len bytes fault) (λ bytes. IsRefused id file len bytes fault)
    (λ bytes h. elim h [ inl outside ↦ inl outside | inr refused ↦ inr (inl refused) ]) is

-- why a file is not loaded for its filter
pub filter_refused : {S : Type 0} (told : S → Option (List ℕ)) (file : SealedFile S) (id : FileId) (given : S) (len at : ℕ) (footer : Footer) (index : List (BlockHandle (List ℕ))) (fault : Fault)
    → file ≡ record { id = id; file = given; len = len } → at ≡ offset_of footer.filter_at → IfSome (told given) (λ bytes. length bytes ≡ len)
    → IfSome (told given) (λ bytes. IsFooterRead true id bytes footer × IsIndexRead table_keys id bytes footer index)
    → Under (told file.file) file.len (λ bytes. IsOutside fault ⊎ IsFilterRefused file.id bytes at footer.blocks fault)
    → IfSome (told given) (λ bytes. IsRefused id given len bytes fault)
filter_refused told file id given len at footer index fault same there long read is =
    let Refused : FileId → List ℕ → Type 0 = λ i bytes. IsOutside fault ⊎ IsFilterRefused i bytes at footer.blocks fault in
    some_then (told given) (λ bytes. (length bytes ≡ len) × ((IsFooterRead true id bytes footer × IsIndexRead table_keys id bytes footer index) × Refused id bytes))
    (λ bytes. IsRefused id given len bytes fault)
    (λ bytes h. elim h.1.1 [
      | inl outside ↦ inl outside
      | inr refused ↦ inr (inr (h.0, footer, index, h.1.0.0, h.1.0.1, subst (λ (n : ℕ). IsFilterRefused id bytes n footer.blocks fault) there refused))
    ])
    (some_both (told given) (λ bytes. length bytes ≡ len) (λ bytes. (IsFooterRead true id bytes footer × IsIndexRead table_keys id bytes footer index) × Refused id bytes) long
    (some_both (told given) (λ bytes. IsFooterRead true id bytes footer × IsIndexRead table_keys id bytes footer index) (λ bytes. Refused id bytes) read
    (opened_told told file id given len Refused same long is)))

-- what is read of a file that is loaded
pub table_read : {S : Type 0} (told : S → Option (List ℕ)) (file : SealedFile S) (id : FileId) (given : S) (len at : ℕ) (table : Table S)
    → file ≡ record { id = id; file = given; len = len } → at ≡ offset_of table.indexed.footer.filter_at → IsKept table_keys table_form table.indexed.footer table.indexed.index
    → IfSome (told given) (λ bytes. length bytes ≡ len)
    → IfSome (told given) (λ bytes. IsFooterRead true id bytes table.indexed.footer × IsIndexRead table_keys id bytes table.indexed.footer table.indexed.index)
    → Under (told file.file) file.len (λ bytes. IsFilterRead file.id bytes at table.indexed.footer.blocks table.filter)
    → IfSome (told given) (λ bytes. IsRead id bytes table)
table_read told file id given len at table same there kept long read is =
    let Filtered : FileId → List ℕ → Type 0 = λ i bytes. IsFilterRead i bytes at table.indexed.footer.blocks table.filter in
    some_then (told given) (λ bytes. (IsFooterRead true id bytes table.indexed.footer × IsIndexRead table_keys id bytes table.indexed.footer table.indexed.index) × Filtered id bytes) (λ bytes. IsRead id bytes table)
    (λ bytes h. record {
      kept = kept;
      footer = h.0.0;
      index = h.0.1;
      filter = subst (λ (n : ℕ). IsFilterRead id bytes n table.indexed.footer.blocks table.filter) there h.1;
    })
    (some_both (told given) (λ bytes. IsFooterRead true id bytes table.indexed.footer × IsIndexRead table_keys id bytes table.indexed.footer table.indexed.index) (λ bytes. Filtered id bytes) read
    (opened_told told file id given len Filtered same long is))

-- a fault of one of two places of a file is one of some place
pub part-kind : (one id : FileId) (at end : ℕ) (fault : Fault) → one ≡ id → IsOutside fault ⊎ IsUnfitAt one at fault ⊎ IsUnfitAt one end fault
    → IsOutside fault ⊎ ((at : ℕ) × IsUnfitAt id at fault)
part-kind one id at end fault same is = elim is [
  | inl outside ↦ inl outside
  | inr part ↦ elim part [
    | inl unfit ↦ inr (at, subst (λ i. IsUnfitAt i at fault) same unfit)
    | inr unfit ↦ inr (end, subst (λ i. IsUnfitAt i end fault) same unfit)
  ]
]
