-- What a search keeps of the key that it has passed.
use Rattle.std.specs.Prelude.{◌≡◌, ℕ, List, [], ◌⊎◌}
use Rattle.mg_block.specs.Block.{Precedes, shared_len}

-- the key is below the sought one, or is the empty one that stands before the first, and they share so many bytes
pub record Matches (key : List ℕ) (matched : ℕ) (sought : List ℕ) : Type 0 where
  pub below : (key ≡ []) ⊎ Precedes key sought
  pub shared : matched ≡ shared_len key sought
