-- What a builder of a block keeps.
use Rattle.std.specs.Prelude.{◌≡◌, ℕ, List}
use Rattle.mg_block.specs.Block.{IsBlock}
use Rattle.mg_block.specs.View.{last_pair}
use Rattle.mg_block.specs.declared.pair.Pair.{Pair}

-- the bytes are the block of the pairs, of which the last has this key
pub record Holds (bytes key : List ℕ) (pairs : List Pair) : Type 0 where
  pub block : IsBlock bytes pairs
  pub last_key : key ≡ (last_pair pairs).key
