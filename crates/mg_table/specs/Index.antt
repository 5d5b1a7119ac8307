-- The index of a table: a handle for each block.
use Rattle.std.specs.Prelude.{ℕ, ◌+◌, List, length}
use Rattle.mg_table.specs.Entries.{block_body, first_key}
use Rattle.mg_types.specs.declared.items.Entry.{Entry}
use Rattle.mg_indexed.specs.Index.{handles_of}
use Rattle.mg_indexed.specs.declared.handle.BlockHandle.{BlockHandle}

-- the whole length of a block's frame
abbrev pub frame_length : List Entry → ℕ
frame_length entries = length (block_body entries) + 20

-- the handles of blocks that stand one after the other from an offset on
abbrev pub handles_from : ℕ → List (List Entry) → List (BlockHandle (List ℕ))
handles_from at blocks = handles_of first_key frame_length at blocks
