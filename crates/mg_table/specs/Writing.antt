-- A table in writing.
use Rattle.std.specs.Prelude.{◌≡◌, ◌≢◌, ℕ, ◌+◌, ◌*◌, ◌≤◌, ◌<◌, ◌^◌, ◌⊎◌, List, [], ◌∷◌, ◌++◌, length, map, Option}
use Rattle.std.specs.List.{concat}
use Rattle.mg_block.specs.Block.{block_of, Precedes}
use Rattle.mg_block.specs.View.{last_pair}
use Rattle.mg_block.specs.declared.pair.Pair.{Pair}
use Rattle.mg_bloom.specs.Bloom.{bit_count, IsBitCountFor}
use Rattle.mg_bloom.specs.Folding.{HasBitsOf}
use Rattle.mg_types.specs.Bytes.{IsKey}
use Rattle.mg_types.specs.declared.names.FileId.{FileId}
use Rattle.mg_sealed.specs.Filling.{AreFilled, items_of}
use Rattle.mg_sealed.specs.Writing.{HasFrames}
use Rattle.mg_table.specs.Entries.{block_body, first_key, pair_of, AreEntries}
use Rattle.mg_table.specs.Index.{handles_from}
use Rattle.mg_indexed.specs.Index.{first_after}
use Rattle.mg_indexed.specs.TableKeys.{table_keys, MayFollow}
use Rattle.mg_indexed.specs.Writing.{index_length, Closed}
use Rattle.mg_types.specs.declared.faults.Fault.{Fault}
use Rattle.mg_types.specs.declared.faults.Fault.TheVariants.{Worn}
use Rattle.mg_table.specs.Table.{hashed_keys, sizes_of}
use Rattle.mg_types.specs.declared.items.Entry.{Entry}
use Rattle.mg_indexed.specs.declared.handle.BlockHandle.{BlockHandle}

-- The open block may be closed, and another one begun behind it: its frame is as long as those of tables are, its first key follows that of
-- the block before and is no key above its last one, and the index has room for its handle.
pub record IsOpen (index : List (BlockHandle (List ℕ))) (block : List Pair) (first : List ℕ) : Type 0 where
  pub least : 17 ≤ length (block_of block)
  pub most : length (block_of block) ≤ 4096
  pub key : IsKey first
  pub follows : MayFollow (first_after [] index) first
  pub last : (first ≡ (last_pair block).key) ⊎ Precedes first (last_pair block).key
  pub room : index_length table_keys index + (length first + 13) < 2 ^ 32

-- no block is begun, or one is open
abbrev pub IsBegun : List (BlockHandle (List ℕ)) → List Pair → List ℕ → Type 0
IsBegun index block first = ((block ≡ []) × (index ≡ [])) ⊎ ((block ≢ []) × IsOpen index block first)

-- Where a pair begins a block, the index has room for its handle, behind that of the open block.
abbrev pub HasRoom : List (BlockHandle (List ℕ)) → List Pair → List ℕ → Pair → Type 0
HasRoom index block first pair =
    (block ≡ [] → index_length table_keys index + (length pair.key + 13) < 2 ^ 32)
    × (block ≢ [] → 4096 < length (block_of (block ++ pair ∷ [])) → index_length table_keys index + (length first + 13) + (length pair.key + 13) < 2 ^ 32)

-- The pair begins a block for whose handle the index has no room, behind that of the open block; the answer is its length with that one.
abbrev pub IsFull : List (BlockHandle (List ℕ)) → List Pair → List ℕ → Pair → Fault → Type 0
IsFull index block first pair fault =
    ((block ≡ []) × (2 ^ 32 ≤ index_length table_keys index + (length pair.key + 13)) × (fault ≡ Worn (index_length table_keys index)))
    ⊎ ((block ≢ []) × (4096 < length (block_of (block ++ pair ∷ []))) × (2 ^ 32 ≤ index_length table_keys index + (length first + 13) + (length pair.key + 13))
    × (fault ≡ Worn (index_length table_keys index + (length first + 13))))

-- the closed blocks are these
pub record HasBlocks {D : Type 0} (drafted : D → Option (List ℕ)) (closed : Closed D (List ℕ)) (blocks : List (List Entry)) : Type 0 where
  pub frames : HasFrames drafted closed.frames (map block_body blocks)
  pub index : closed.index ≡ handles_from 0 blocks

-- what a writer keeps: the closed blocks, the open one with its first key, the filter's body, how many entries may come at
-- most, how many came, and the sum of their sizes
pub record Writing (D : Type 0) : Type 0 where
  pub id : FileId
  pub lo : ℕ
  pub hi : ℕ
  pub closed : Closed D (List ℕ)
  pub block : List Pair
  pub first : List ℕ
  pub filter : List ℕ
  pub most : ℕ
  pub count : ℕ
  pub sizes : ℕ

-- What a writer keeps is bounded, its filter has the size for as many entries as may come, and its open block may be closed.
pub record IsBounded {D : Type 0} (writer : Writing D) : Type 0 where
  pub lo : writer.lo < 2 ^ 62
  pub hi : writer.hi < 2 ^ 62
  pub first : length writer.first ≤ 250
  pub begun : IsBegun writer.closed.index writer.block writer.first
  pub most : writer.most ≤ 2 ^ 40
  pub count : writer.count ≤ writer.most
  pub some : writer.block ≢ [] → 1 ≤ writer.count
  pub filter : IsBitCountFor writer.most (bit_count writer.filter)
  pub sizes : writer.sizes ≤ 1048826 * writer.count

-- no block is begun; or the blocks with the open one behind them are filled in order, and the open one is not empty
abbrev pub Fills : List (List Entry) → List Entry → Type 0
Fills blocks last = ((blocks ≡ []) × (last ≡ [])) ⊎ ((last ≢ []) × AreFilled block_body (blocks ++ last ∷ []))

-- An entry was put behind those of closed blocks and an open one: it is the last one of the open block, and the blocks are filled.
pub record IsPut {D : Type 0} (drafted : D → Option (List ℕ)) (closed : Closed D (List ℕ)) (block : List Pair) (first : List ℕ) (blocks : List (List Entry)) (last : List Entry) (entry : Entry) : Type 0 where
  pub now : List (List Entry)
  pub opened : List Entry
  pub closed_are : HasBlocks drafted closed now
  pub block_is : block ≡ map pair_of opened
  pub first_is : first ≡ first_key opened
  pub all : items_of now ++ opened ≡ (items_of blocks ++ last) ++ entry ∷ []
  pub some : opened ≢ []
  pub filled : AreFilled block_body (now ++ opened ∷ [])

-- The writer stands behind these entries, in these closed blocks and the open one. Its filter has the bits of their keys and
-- no others.
pub record IsWriting {D : Type 0} (drafted : D → Option (List ℕ)) (writer : Writing D) (entries : List Entry) (blocks : List (List Entry)) (last : List Entry) : Type 0 where
  pub closed : HasBlocks drafted writer.closed blocks
  pub block : writer.block ≡ map pair_of last
  pub first : last ≢ [] → writer.first ≡ first_key last
  pub filter : HasBitsOf writer.filter (concat (hashed_keys entries))
  pub count : writer.count ≡ length entries
  pub sizes : writer.sizes ≡ sizes_of entries
  pub rising : AreEntries entries
  pub parts : items_of blocks ++ last ≡ entries
  pub filled : Fills blocks last

-- the writer stands behind these entries
abbrev pub HasEntries : {D : Type 0} → (D → Option (List ℕ)) → Writing D → List Entry → Type 0
HasEntries drafted writer entries = (blocks : List (List Entry)) × (last : List Entry) × IsWriting drafted writer entries blocks last
