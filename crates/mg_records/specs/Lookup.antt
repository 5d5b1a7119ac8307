-- What is read of the blocks of a file of records.
use Rattle.std.specs.Prelude.{◌≡◌, ◌≢◌, ℕ, zero, suc, ◌+◌, ◌<◌, ◌≤◌, ◌^◌, ◌⊎◌, List, [], ◌∷◌, ◌++◌, length, sum_by, ◌-◌, slice_index_or, false, filter, nat_lt, Option, Some, None, Ok, Err}
use Rattle.std.specs.List.{AllByRecursion, Any}
use Rattle.mg_frame.specs.BigEndian.{big_endian}
use Rattle.mg_frame.specs.Frame.{StandsAt}
use Rattle.mg_types.specs.declared.faults.Fault.{Fault}
use Rattle.mg_types.specs.declared.faults.Fault.TheVariants.{Damaged, Malformed}
use Rattle.mg_types.specs.declared.names.FileId.{FileId}
use Rattle.mg_sealed.specs.Blocks.{block_body, IsUnfitAt}
use Rattle.mg_sealed.specs.Filling.{Fits, items_of}
use Rattle.mg_indexed.specs.Footer.{footer_size}
use Rattle.mg_indexed.specs.Index.{BeginUpTo}
use Rattle.mg_indexed.specs.NumberKeys.{number_keys}
use Rattle.mg_records.specs.File.{block_of, record_of, last_number}
use Rattle.mg_records.specs.Record.{Kind, IsRecord, record_bytes}
use Rattle.mg_records.specs.Writing.{Filed}
use Rattle.mg_records.specs.declared.block.Span.{Span}
use Rattle.mg_indexed.specs.declared.handle.BlockHandle.{BlockHandle}

-- ---- a block's body

-- numbers rise from `low` on, the first one is below `bound`, and all are below `end`
abbrev pub IsWithin : {T : Type 0} → Kind T → ℕ → ℕ → ℕ → List T → Type 0
IsWithin kind low bound end [] = Unit {0}
IsWithin kind low bound end (it ∷ records) = (low ≤ kind.seq it) × (kind.seq it < bound) × IsWithin kind (kind.seq it + 1) end end records

-- the least number that may follow these records, where `low` is that of the first one
abbrev pub low_after : {T : Type 0} → Kind T → ℕ → List T → ℕ
low_after kind low [] = low
low_after kind low (it ∷ records) = low_after kind (kind.seq it + 1) records

-- what the number that follows these records has to stay below
abbrev pub bound_after : {T : Type 0} → ℕ → ℕ → List T → ℕ
bound_after bound end [] = bound
bound_after bound end (it ∷ records) = end

-- The body of a block whose first number and the end of whose numbers the index says.
pub record IsBlockOf {T : Type 0} (kind : Kind T) (span : Span) (body : List ℕ) (block : List T) : Type 0 where
  pub some : block ≢ []
  pub fit : AllByRecursion (IsRecord kind) block
  pub within : IsWithin kind span.first (span.first + 1) span.end block
  pub spelling : body ≡ block_of kind block

-- the bytes begin with this number
abbrev pub HasNumber : List ℕ → ℕ → Type 0
HasNumber bytes number = (rest : List ℕ) × (number < 2 ^ 64) × (bytes ≡ big_endian 8 number ++ rest)

-- the bytes begin with no record that may stand there
abbrev pub BeginsWithNone : {T : Type 0} → Kind T → ℕ → ℕ → List ℕ → Type 0
BeginsWithNone {T} kind low bound bytes = (it : T) (rest : List ℕ) → IsRecord kind it → low ≤ kind.seq it → kind.seq it < bound → bytes ≡ record_bytes kind it ++ rest → ⊥

-- the bytes are this number, these contents and this rest, and the first two are a record whose number is from `low` on and below `bound`
abbrev pub IsSplit : {T : Type 0} → Kind T → ℕ → ℕ → List ℕ → ℕ → List ℕ → List ℕ → Type 0
IsSplit {T} kind low bound bytes number contents rest =
    (it : T) × IsRecord kind it × (number ≡ kind.seq it) × (low ≤ number) × (number < bound) × (contents ≡ kind.contents it) × (bytes ≡ record_bytes kind it ++ rest)

-- What is wrong with bytes that begin with no record of a number from `low` on and below `bound`: the number that stands there is too great, or else
-- they are malformed.
abbrev pub IsRecordUnfit : {T : Type 0} → Kind T → FileId → ℕ → ℕ → ℕ → List ℕ → Fault → Type 0
IsRecordUnfit kind id at low bound bytes fault =
    ((number : ℕ) × HasNumber bytes number × (2 ^ 62 ≤ number) × (fault ≡ Damaged id at number (2 ^ 62)))
    ⊎ (BeginsWithNone kind low bound bytes × ((number : ℕ) → HasNumber bytes number → number < 2 ^ 62) × (fault ≡ Malformed id at))

-- The body begins with records that are right, and goes on, or begins, with none.
pub record IsBlockUnfit {T : Type 0} (kind : Kind T) (span : Span) (body : List ℕ) (fault : Fault) : Type 0 where
  pub front : List T
  pub rest : List ℕ
  pub fit : AllByRecursion (IsRecord kind) front
  pub within : IsWithin kind span.first (span.first + 1) span.end front
  pub body_is : body ≡ block_of kind front ++ rest
  pub some : (rest ≢ []) ⊎ (front ≡ [])
  pub unfit : IsRecordUnfit kind span.file span.at (low_after kind span.first front) (bound_after (span.first + 1) span.end front) rest fault

-- The block is not filled as blocks are: its first record had room in the block before it, whose body has `before` bytes, or it has several
-- records and more than 4,096 bytes.
abbrev pub IsUnfilled : {T : Type 0} → Kind T → ℕ → Span → List ℕ → Fault → Type 0
IsUnfilled {T} kind before span body fault = (it : T) × (rest : List ℕ) × IsRecord kind it × (kind.seq it ≡ span.first) × (body ≡ record_bytes kind it ++ rest)
    × (fault ≡ Malformed span.file span.at)
    × ((before + length (record_bytes kind it) ≤ 4096) ⊎ ((rest ≢ []) × (4096 < length body)))

-- the first record had no room in a block of `before` bytes
abbrev pub Follows : {T : Type 0} → Kind T → ℕ → List T → Type 0
Follows kind before [] = Unit {0}
Follows kind before (it ∷ records) = 4096 < before + length (record_bytes kind it)

-- the body begins with a record of this number, which had no room in a block of `before` bytes, and is alone where the body is longer than 4,096 bytes
abbrev pub IsFilledBlock : {T : Type 0} → Kind T → ℕ → ℕ → List ℕ → Type 0
IsFilledBlock {T} kind before first body = (it : T) × (rest : List ℕ) × IsRecord kind it × (kind.seq it ≡ first) × (body ≡ record_bytes kind it ++ rest)
    × (4096 < before + length (record_bytes kind it)) × ((length body ≤ 4096) ⊎ (rest ≡ []))

-- what is wrong with a body behind a block of `before` bytes, judged in this order: its first record, whether it is filled, or the records behind
abbrev pub IsBodyRefused : {T : Type 0} → Kind T → ℕ → Span → List ℕ → Fault → Type 0
IsBodyRefused kind before span body fault =
    IsUnfilled kind before span body fault
    ⊎ ((unfit : IsBlockUnfit kind span body fault) × ((unfit.front ≡ []) ⊎ IsFilledBlock kind before span.first body))

-- the body is refused so, and none of the records that it begins with has this number
abbrev pub IsUnfitFor : {T : Type 0} → Kind T → ℕ → Span → List ℕ → Fault → Type 0
IsUnfitFor kind number span body fault =
    IsUnfilled kind 4096 span body fault
    ⊎ ((unfit : IsBlockUnfit kind span body fault) × ((unfit.front ≡ []) ⊎ IsFilledBlock kind 4096 span.first body)
    × (record_of kind number unfit.front ≡ None))

-- what is found of a number in a body: the first record of this number, of records that are right so far, or none where the whole block is right
abbrev pub IsFoundIn : {T : Type 0} → Kind T → ℕ → Span → List ℕ → Option T → Type 0
IsFoundIn {T} kind number span body None = (records : List T) × IsBlockOf kind span body records × (record_of kind number records ≡ None)
IsFoundIn {T} kind number span body (Some it) =
    (front : List T) × (rest : List ℕ) × AllByRecursion (IsRecord kind) (front ++ it ∷ []) × IsWithin kind span.first (span.first + 1) span.end (front ++ it ∷ [])
    × (kind.seq it ≡ number) × (record_of kind number front ≡ None) × (body ≡ block_of kind front ++ (record_bytes kind it ++ rest))

-- the body is that of a block behind one of `before` bytes, whose records above `after` were put behind the old ones, and whose last number is this one
pub record IsScanned {T : Type 0} (kind : Kind T) (before : ℕ) (span : Span) (after : ℕ) (body : List ℕ) (old new : List T) (last : ℕ) : Type 0 where
  pub block : List T
  pub is_block : IsBlockOf kind span body block
  pub fits : Fits (block_of kind) block
  pub follows : Follows kind before block
  pub new_is : new ≡ old ++ filter (λ it. nat_lt after (kind.seq it)) block
  pub last_is : last ≡ last_number kind block

-- ---- the blocks of a file

-- what is kept of the block of this number, from 0 on: its offset and first number, and as its end the next block's first number, or that behind the last one
pub record IsSpan {S : Type 0} (filed : Filed S) (number : ℕ) (span : Span) : Type 0 where
  pub within : number < length filed.index
  pub file : span.file ≡ filed.file.id
  pub at : (d : BlockHandle ℕ) → span.at ≡ (slice_index_or filed.index number d).at
  pub first : (d : BlockHandle ℕ) → span.first ≡ (slice_index_or filed.index number d).first
  pub len : (d : BlockHandle ℕ) → span.len ≡ (slice_index_or filed.index number d).len
  pub inner : (d : BlockHandle ℕ) → number + 1 < length filed.index → span.end ≡ (slice_index_or filed.index (number + 1) d).first
  pub outer : length filed.index ≤ number + 1 → span.end ≡ filed.footer.high + 1

-- these records are the block of this number: its frame stands where the index says
pub record IsBlockAt {T S : Type 0} (kind : Kind T) (bytes : List ℕ) (filed : Filed S) (number : ℕ) (block : List T) : Type 0 where
  pub span : Span
  pub is_span : IsSpan filed number span
  pub body : List ℕ
  pub is_block : IsBlockOf kind span body block
  pub long : length body + 20 ≡ span.len
  pub stands : StandsAt bytes span.at (number, body)

-- the bytes of the last of these blocks, or as many as fill one where there is none
abbrev pub last_length : {T : Type 0} → Kind T → List (List T) → ℕ
last_length kind [] = 4096
last_length kind (block ∷ []) = length (block_of kind block)
last_length kind (block ∷ (next ∷ blocks)) = last_length kind (next ∷ blocks)

-- so many blocks of the file, from the block `start` on, which are filled in order
abbrev pub AreBlocksOf : {T S : Type 0} → Kind T → List ℕ → Filed S → ℕ → ℕ → List (List T) → Type 0
AreBlocksOf kind bytes filed start zero blocks = blocks ≡ []
AreBlocksOf {T} kind bytes filed start (suc count) blocks =
    (before : List (List T)) × (block : List T) × (blocks ≡ before ++ block ∷ []) × AreBlocksOf kind bytes filed start count before
    × IsBlockAt kind bytes filed (start + count) block × Fits (block_of kind) block × Follows kind (last_length kind before) block

-- where a scan begins: at the last block that begins at most at `after`, or at the first block where `after` is below the first number
abbrev pub StartsAt : {S : Type 0} → Filed S → ℕ → ℕ → Type 0
StartsAt filed after start = ((start ≡ 0) × (after < filed.footer.low)) ⊎ ((filed.footer.low ≤ after) × BeginUpTo number_keys filed.index after (start + 1))

-- What a scan gives: of the records of the blocks from the one on at which it begins, those with numbers above `after`. The last record is the footer's.
pub record IsListed {T S : Type 0} (kind : Kind T) (bytes : List ℕ) (filed : Filed S) (after : ℕ) (found : List T) : Type 0 where
  pub start : ℕ
  pub count : ℕ
  pub blocks : List (List T)
  pub starts : StartsAt filed after start
  pub up_to : start + count ≡ length filed.index
  pub are : AreBlocksOf kind bytes filed start count blocks
  pub found_are : found ≡ filter (λ it. nat_lt after (kind.seq it)) (items_of blocks)
  pub last : last_number kind (items_of blocks) ≡ filed.footer.high

-- The body is that of the block in which a number is sought that is not below the first one: of the last block that begins at most at it.
pub record IsSoughtBody {S : Type 0} (bytes : List ℕ) (filed : Filed S) (number : ℕ) (body : List ℕ) : Type 0 where
  pub block : ℕ
  pub point : BeginUpTo number_keys filed.index number (block + 1)
  pub span : Span
  pub is_span : IsSpan filed block span
  pub long : length body + 20 ≡ span.len
  pub stands : StandsAt bytes span.at (block, body)

-- what a search for a number that is not below the first one answers: what is found in the block in which it is sought
abbrev pub IsGot : {T S : Type 0} → Kind T → List ℕ → Filed S → ℕ → Option T → Type 0
IsGot {T} kind bytes filed number found = (body : List ℕ) × (sought : IsSoughtBody bytes filed number body) × IsFoundIn kind number sought.span body found

-- ---- refusals

-- a block of this index is damaged, or its body is outside its grammar
abbrev pub IsBlockFault : FileId → List (BlockHandle ℕ) → Fault → Type 0
IsBlockFault id index fault = Any (λ handle. IsUnfitAt id handle.at fault) index

-- What is wrong with a block of this file: its frame, or its body. P says what is wrong with a body.
pub record IsBlockRefused {S : Type 0} (bytes : List ℕ) (filed : Filed S) (P : Span → List ℕ → Fault → Type 0) (fault : Fault) : Type 0 where
  -- from 0 on
  pub number : ℕ
  pub span : Span
  pub is_span : IsSpan filed number span
  pub why : (block_body span.file bytes span.at span.len number ≡ Err fault)
      ⊎ ((body : List ℕ) × (block_body span.file bytes span.at span.len number ≡ Ok body) × P span body fault)

-- what is wrong with the block in which a number is sought
abbrev pub IsSoughtRefused : {T S : Type 0} → Kind T → List ℕ → Filed S → ℕ → Fault → Type 0
IsSoughtRefused kind bytes filed number fault = (refused : IsBlockRefused bytes filed (IsUnfitFor kind number) fault) × BeginUpTo number_keys filed.index number (refused.number + 1)

-- what is wrong with the frame of the block in which a number is sought
abbrev pub IsSoughtDamaged : {S : Type 0} → List ℕ → Filed S → ℕ → Fault → Type 0
IsSoughtDamaged bytes filed number fault = (refused : IsBlockRefused bytes filed (λ span body fault. ⊥) fault) × BeginUpTo number_keys filed.index number (refused.number + 1)

-- the blocks before this one, from where a scan begins on, are these
abbrev pub WereListed : {T S : Type 0} → Kind T → List ℕ → Filed S → ℕ → ℕ → List (List T) → Type 0
WereListed kind bytes filed after number blocks = (start : ℕ) × (count : ℕ) × StartsAt filed after start × (start + count ≡ number) × AreBlocksOf kind bytes filed start count blocks

-- the footer tells of this last number and, where no record is left out, of this count and this sum
abbrev pub HasTotals : {S : Type 0} → Filed S → ℕ → ℕ → ℕ → ℕ → Type 0
HasTotals filed after last count sum = (last ≡ filed.footer.high) × (after < filed.footer.low → (count ≡ filed.footer.count) × (sum ≡ filed.footer.sum))

-- the footer tells of this last number and, where no record is left out, of these records
abbrev pub AreTotals : {T S : Type 0} → Kind T → Filed S → ℕ → ℕ → List T → Type 0
AreTotals kind filed after last records = HasTotals filed after last (length records) (sum_by kind.size records)

-- the footer does not tell of these blocks, which end the file: their last number is another one, or, where they are all blocks, so is their count or the sum
-- of their sizes
abbrev pub IsUntold : {T S : Type 0} → Kind T → Filed S → ℕ → List (List T) → Fault → Type 0
IsUntold kind filed after blocks fault = (fault ≡ Malformed filed.file.id (filed.file.len - footer_size false)) × (AreTotals kind filed after (last_number kind (items_of blocks)) (items_of blocks) → ⊥)

-- What is wrong behind blocks that are right, from the one on at which a scan begins: the next block, or, behind all of them, the footer, whose last number
-- is not the last record's, or whose count or sum is not that of the records of the whole file.
abbrev pub IsScanRefused : {T S : Type 0} → Kind T → List ℕ → Filed S → ℕ → Fault → Type 0
IsScanRefused {T} kind bytes filed after fault =
    ((blocks : List (List T)) × (refused : IsBlockRefused bytes filed (IsBodyRefused kind (last_length kind blocks)) fault) × WereListed kind bytes filed after refused.number blocks)
    ⊎ ((blocks : List (List T)) × WereListed kind bytes filed after (length filed.index) blocks × IsUntold kind filed after blocks fault)

-- The body is that of the block of this number, from 0 on.
pub record IsBlock {T : Type 0} (kind : Kind T) (blocks : List (List T)) (number : ℕ) (body : List ℕ) : Type 0 where
  pub before : List (List T)
  pub block : List T
  pub later : List (List T)
  pub all : blocks ≡ before ++ block ∷ later
  pub many : length before ≡ number
  pub spelling : body ≡ block_of kind block
