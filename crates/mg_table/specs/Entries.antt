-- The entries of a table, and the blocks that they make.
use Rattle.std.specs.Prelude.{ℕ, Bool, true, false, List, [], ◌∷◌, ◌++◌, map}
use Rattle.std.specs.List.{All}
use Rattle.mg_block.specs.Block.{block_of, AreRising}
use Rattle.mg_block.specs.declared.pair.Pair.{Pair}
use Rattle.mg_frame.specs.BigEndian.{big_endian}
use Rattle.mg_types.specs.Items.{IsEntry}
use Rattle.mg_types.specs.declared.items.Entry.{Entry}

-- whether an entry is a delete, as a number
abbrev pub flag : Bool → ℕ
flag true = 1
flag false = 0

-- the payload of an entry in a block: its number, its size, and whether it is a delete
unfoldable pub payload_of : Entry → List ℕ
payload_of entry = big_endian 8 entry.seq ++ big_endian 4 entry.size ++ big_endian 1 (flag entry.gone)

-- an entry as a pair of a block
abbrev pub pair_of : Entry → Pair
pair_of entry = record { key = entry.key; payload = payload_of entry }

-- the body of a block of these entries
abbrev pub block_body : List Entry → List ℕ
block_body entries = block_of (map pair_of entries)

-- the key of the first entry
abbrev pub first_key : List Entry → List ℕ
first_key [] = []
first_key (entry ∷ _) = entry.key

-- the keys strictly rise, and each entry's numbers are in range
pub record AreEntries (entries : List Entry) : Type 0 where
  pub rising : AreRising (map pair_of entries)
  pub each : All IsEntry entries
