-- What is read of one block of a table.
use Rattle.std.specs.Prelude.{◌≡◌, ℕ, ◌+◌, ◌<◌, ◌⊎◌, List, [], ◌∷◌, length, drop, HoldsAt, Ok}
use Rattle.mg_block.specs.Block.{Precedes}
use Rattle.mg_frame.specs.Frame.{StandsAt}
use Rattle.mg_types.specs.declared.faults.Fault.{Fault}
use Rattle.mg_types.specs.declared.faults.Fault.TheVariants.{Malformed}
use Rattle.mg_types.specs.declared.items.Entry.{Entry}
use Rattle.mg_indexed.specs.declared.handle.BlockHandle.{BlockHandle}
use Rattle.mg_table.specs.Entries.{block_body, AreEntries}
use Rattle.mg_table.specs.Reading.{read_at, IsListUnfit}
use Rattle.mg_table.specs.Scanning.{last_key, IsNext}
use Rattle.mg_table.specs.declared.table.Table.{Table}

-- the page is the block of this number, and the blocks behind it follow it
abbrev pub IsPage : List (List Entry) → ℕ → List Entry → Type 0
IsPage blocks number page = drop number blocks ≡ page ∷ drop (number + 1) blocks

-- A block of `size` bytes with these entries may be that of this number in an index, whatever stands before it: it begins with the key that the
-- index says, it is not too large, and its last key is below that with which the next block begins.
pub record IsPlaced (index : List (BlockHandle (List ℕ))) (number : ℕ) (block : List Entry) (size : ℕ) : Type 0 where
  pub first : HoldsAt (λ handle. IsNext handle.first [] 4096 block size) index number
  pub below : number + 1 < length index → HoldsAt (λ handle. Precedes (last_key block) handle.first) index (number + 1)

-- the page is entries of a block that may be that of this number
abbrev pub IsPageOf : {S : Type 0} → Table S → ℕ → List Entry → Type 0
IsPageOf table number page = AreEntries page × IsPlaced table.indexed.index number page (length (block_body page))

-- the page is the block of this number, whose frame is read and stands where the index says
abbrev pub IsPageRead : {S : Type 0} → Table S → List ℕ → ℕ → List Entry → Type 0
IsPageRead table bytes number page =
    HoldsAt (λ handle. (read_at table.indexed.file.id bytes handle number ≡ Ok (block_body page)) × StandsAt bytes handle.at (number, block_body page)) table.indexed.index number

-- What is wrong with the body of the block of this number: it is no list of entries, or they may not stand there.
abbrev pub IsPageUnfit : {S : Type 0} → Table S → ℕ → BlockHandle (List ℕ) → List ℕ → Fault → Type 0
IsPageUnfit table number handle body fault =
    IsListUnfit table.indexed.file.id handle.at body fault
    ⊎ ((page : List Entry) × (body ≡ block_body page) × AreEntries page × (IsPlaced table.indexed.index number page (length body) → ⊥)
    × (fault ≡ Malformed table.indexed.file.id handle.at))
