-- A file of records in writing, and one that is whole.
use Rattle.std.specs.Prelude.{◌≡◌, ◌≢◌, ℕ, ◌+◌, ◌-◌, ◌*◌, ◌^◌, ◌<◌, ◌≤◌, ◌⊎◌, List, [], ◌∷◌, ◌++◌, length, map, sum_by, Option, IfSome}
use Rattle.std.specs.List.{AllByRecursion}
use Rattle.mg_frame.specs.Frames.{numbered_frames}
use Rattle.mg_records.specs.File.{block_of, first_number, last_number, AreRising, index_from, footer_of, bodies_of, AreBlocks}
use Rattle.mg_sealed.specs.Filling.{AreFilled, items_of}
use Rattle.mg_indexed.specs.Index.{first_after}
use Rattle.mg_indexed.specs.Loading.{Loaded}
use Rattle.mg_records.specs.Indexes.{first_of}
use Rattle.mg_types.specs.declared.names.FileId.{FileId}
use Rattle.mg_records.specs.Record.{Kind, IsRecord, record_bytes}
use Rattle.mg_indexed.specs.declared.handle.BlockHandle.{BlockHandle}
use Rattle.mg_sealed.specs.Writing.{Written, HasFrames}

-- what a writer keeps: the file's id, the frames of the blocks that are full, their index, the body of the block in writing, how many records
-- there are, the sum of their sizes, the first number of the block in writing, and of all records the first and the last one
pub record Filing (D : Type 0) : Type 0 where
  pub id : FileId
  pub frames : Written D
  pub index : List (BlockHandle ℕ)
  pub block : List ℕ
  pub block_first : ℕ
  pub records : ℕ
  pub sum : ℕ
  pub first : ℕ
  pub last : ℕ

-- the number may follow those of the records that the writer has
abbrev pub MayFollow : {D : Type 0} → Filing D → ℕ → Type 0
MayFollow writer number = (writer.records ≡ 0) ⊎ (writer.last < number)

-- The writer has these records: blocks that are full, and the block in writing, which is empty only where there is none before it.
pub record HasRecords {T D : Type 0} (kind : Kind T) (drafted : D → Option (List ℕ)) (writer : Filing D) (records : List T) : Type 0 where
  pub full : List (List T)
  pub last_block : List T
  pub all : records ≡ items_of full ++ last_block
  pub filled : ((full ≡ []) × (last_block ≡ [])) ⊎ AreFilled (block_of kind) (full ++ last_block ∷ [])
  pub fit : AllByRecursion (IsRecord kind) records
  pub rise : AreRising kind records
  pub frames : HasFrames drafted writer.frames (map (block_of kind) full)
  pub index : writer.index ≡ index_from kind 0 full
  pub block : writer.block ≡ block_of kind last_block
  pub block_first : writer.block_first ≡ first_number kind last_block
  pub count : writer.records ≡ length records
  pub sum : writer.sum ≡ sum_by kind.size records
  pub first : writer.first ≡ first_number kind records
  pub last : writer.last ≡ last_number kind records

-- what is kept of a file: its footer and its index
abbrev pub Filed : Type 0 → Type 0
Filed S = Loaded S ℕ

-- The file is that of these records.
pub record Represents {T S : Type 0} (kind : Kind T) (told : S → Option (List ℕ)) (filed : Filed S) (records : List T) : Type 0 where
  pub blocks : List (List T)
  pub are : AreBlocks kind blocks
  pub all : items_of blocks ≡ records
  pub bytes : IfSome (told filed.file.file) (λ bytes. bytes ≡ numbered_frames (bodies_of kind blocks))
  pub len : filed.file.len ≡ length (numbered_frames (bodies_of kind blocks))
  pub footer : filed.footer ≡ footer_of kind blocks
  pub index : filed.index ≡ index_from kind 0 blocks

-- the bytes are a block of records: none, several in at most 4,096 bytes, or a single one
pub record IsOpen {T : Type 0} (kind : Kind T) (block : List ℕ) : Type 0 where
  pub records : List T
  pub fit : AllByRecursion (IsRecord kind) records
  pub body : block ≡ block_of kind records
  pub small : (length block ≤ 4096) ⊎ (length records ≡ 1)

-- What keeps the numbers of a writer within their types, and its index one that rises: there is room for the block in writing, each block has at most
-- 4,096 records, and first numbers go on.
pub record IsBounded {T D : Type 0} (kind : Kind T) (writer : Filing D) : Type 0 where
  pub blocks : 20 * (length writer.index + 1) < 2 ^ 32
  pub block : length writer.block ≤ 2 ^ 21
  pub writing : IsOpen kind writer.block
  pub counted : writer.records ≤ 4096 * length writer.index + length writer.block
  pub records : writer.records ≤ 4096 * length writer.index + 4096
  pub sum : writer.sum ≤ 1048826 * writer.records
  pub none : writer.records ≡ 0 → (writer.index ≡ []) × (writer.block ≡ [])
  pub begins : writer.block ≢ [] → (first_after 0 writer.index < writer.block_first) × (writer.block_first ≤ writer.last)
  pub ends : writer.records ≢ 0 → first_after 0 writer.index ≤ writer.last
  pub first : writer.block ≢ [] → writer.index ≡ [] → writer.first ≡ writer.block_first
  pub first_later : writer.index ≢ [] → writer.first ≡ first_of writer.index
  pub first_small : writer.first < 2 ^ 62
  pub last : writer.last < 2 ^ 62

-- The block in writing was put into the file, and its handle into the index.
pub record IsClosing {D : Type 0} (drafted : D → Option (List ℕ)) (old new : Filing D) : Type 0 where
  pub frames : (bodies : List (List ℕ)) → HasFrames drafted old.frames bodies → HasFrames drafted new.frames (bodies ++ old.block ∷ [])
  pub index : new.index ≡ old.index ++ record { first = old.block_first; at = old.frames.len; len = length old.block + 20 } ∷ []
  pub block : new.block ≡ []
  pub records : new.records ≡ old.records
  pub sum : new.sum ≡ old.sum
  pub first : new.first ≡ old.first
  pub last : new.last ≡ old.last

-- The block in writing has no room for the record, and the index of the blocks none for one more beside that block: its body would pass 2 ^ 32 - 1
-- bytes.
abbrev pub IsFull : {T D : Type 0} → Kind T → Filing D → T → Type 0
IsFull kind writer it =
    (writer.block ≢ []) × (4096 < length writer.block + length (record_bytes kind it)) × (2 ^ 32 - 1 < 20 * (length writer.index + 2))

-- The record was put into the block in writing.
pub record IsPut {T D : Type 0} (kind : Kind T) (old : Filing D) (it : T) (new : Filing D) : Type 0 where
  pub frames : new.frames ≡ old.frames
  pub index : new.index ≡ old.index
  pub block : new.block ≡ old.block ++ record_bytes kind it
  pub block_begins : old.block ≡ [] → new.block_first ≡ kind.seq it
  pub block_goes_on : old.block ≢ [] → new.block_first ≡ old.block_first
  pub begins : old.records ≡ 0 → new.first ≡ kind.seq it
  pub goes_on : old.records ≢ 0 → new.first ≡ old.first
  pub records : new.records ≡ old.records + 1
  pub sum : new.sum ≡ old.sum + kind.size it
  pub last : new.last ≡ kind.seq it
