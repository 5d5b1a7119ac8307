-- A sealed file of numbered records: the blocks, an index of them, a footer, each in a frame.
use Rattle.std.specs.Prelude.{◌≡◌, ◌≢◌, ℕ, ◌+◌, ◌*◌, ◌<◌, ◌^◌, List, [], ◌∷◌, ◌++◌, length, map, sum_by, nat_eq, false, Option, None, find}
use Rattle.std.specs.List.{AllByRecursion}
use Rattle.mg_frame.specs.Frames.{numbered_frames}
use Rattle.mg_sealed.specs.Filling.{AreFilled, items_of}
use Rattle.mg_indexed.specs.Index.{handles_of}
use Rattle.mg_indexed.specs.NumberKeys.{number_keys}
use Rattle.mg_indexed.specs.Writing.{file_bodies}
use Rattle.mg_records.specs.Record.{Kind, IsRecord, record_bytes}
use Rattle.mg_indexed.specs.declared.footer.Footer.{Footer}
use Rattle.mg_indexed.specs.declared.handle.BlockHandle.{BlockHandle}

-- the body of a block of these records: their spellings, one after the other
abbrev pub block_of : {T : Type 0} → Kind T → List T → List ℕ
block_of kind [] = []
block_of kind (it ∷ records) = record_bytes kind it ++ block_of kind records

-- the number of the first record, or 0 where there is none
abbrev pub first_number : {T : Type 0} → Kind T → List T → ℕ
first_number kind [] = 0
first_number kind (it ∷ _) = kind.seq it

-- the number of the last record, or this one where there is none
abbrev pub last_number_after : {T : Type 0} → Kind T → ℕ → List T → ℕ
last_number_after kind number [] = number
last_number_after kind number (it ∷ records) = last_number_after kind (kind.seq it) records

-- the number of the last record, or 0 where there is none
abbrev pub last_number : {T : Type 0} → Kind T → List T → ℕ
last_number kind records = last_number_after kind 0 records

-- each number is above the one before it
abbrev pub RiseAfter : {T : Type 0} → Kind T → T → List T → Type 0
RiseAfter kind it [] = Unit {0}
RiseAfter kind it (next ∷ records) = (kind.seq it < kind.seq next) × RiseAfter kind next records

-- numbers strictly rise
abbrev pub AreRising : {T : Type 0} → Kind T → List T → Type 0
AreRising kind [] = Unit {0}
AreRising kind (it ∷ records) = RiseAfter kind it records

-- the whole length of the frame of a block
abbrev pub frame_length : {T : Type 0} → Kind T → List T → ℕ
frame_length kind block = length (block_of kind block) + 20

-- the index of blocks whose frames stand one after the other from this offset on
abbrev pub index_from : {T : Type 0} → Kind T → ℕ → List (List T) → List (BlockHandle ℕ)
index_from kind at blocks = handles_of (first_number kind) (frame_length kind) at blocks

-- where the frames of blocks end
abbrev pub end_of : {T : Type 0} → Kind T → List (List T) → ℕ
end_of kind blocks = sum_by (frame_length kind) blocks

-- the footer of these blocks
abbrev pub footer_of : {T : Type 0} → Kind T → List (List T) → Footer
footer_of kind blocks =
    let records = items_of blocks in
    record {
      count = length records;
      sum = sum_by kind.size records;
      low = first_number kind records;
      high = last_number kind records;
      index_at = end_of kind blocks;
      filter_at = None;
      blocks = length blocks;
    }

-- the bodies of the frames of a file of these blocks
abbrev pub bodies_of : {T : Type 0} → Kind T → List (List T) → List (List ℕ)
bodies_of kind blocks = file_bodies number_keys false (map (block_of kind) blocks) (index_from kind 0 blocks) [] (footer_of kind blocks)

-- These blocks may be those of a file.
pub record AreBlocks {T : Type 0} (kind : Kind T) (blocks : List (List T)) : Type 0 where
  pub some : blocks ≢ []
  -- the body of the index fits a frame
  pub few : 20 * length blocks < 2 ^ 32
  pub filled : AreFilled (block_of kind) blocks
  pub fit : AllByRecursion (IsRecord kind) (items_of blocks)
  pub rise : AreRising kind (items_of blocks)

-- The bytes are the file of these records.
pub record IsFile {T : Type 0} (kind : Kind T) (bytes : List ℕ) (records : List T) : Type 0 where
  pub blocks : List (List T)
  pub are : AreBlocks kind blocks
  pub all : items_of blocks ≡ records
  pub spelling : bytes ≡ numbered_frames (bodies_of kind blocks)

-- the record of this number
abbrev pub record_of : {T : Type 0} → Kind T → ℕ → List T → Option T
record_of kind number records = find (λ it. nat_eq (kind.seq it) number) records
