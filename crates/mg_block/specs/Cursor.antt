-- A cursor over the bytes of a block.
use Rattle.std.specs.Prelude.{◌≡◌, ℕ, Bool, true, false, List, [], ◌∷◌, ◌++◌, ◌-◌, length, take, Result, Ok}
use Rattle.mg_block.specs.Block.{Begins}
use Rattle.mg_block.specs.View.{pairs_of, last_pair}
use Rattle.mg_block.specs.declared.pair.NotABlock.{NotABlock}
use Rattle.mg_block.specs.declared.pair.Pair.{Pair}

-- the bytes, and the pairs that were read of them
pub record Reading : Type 0 where
  pub bytes : List ℕ
  pub read : List Pair

-- the pairs that stand in the bytes before the rest
abbrev pub read_of : List ℕ → List ℕ → List Pair
read_of bytes rest = pairs_of (take (length bytes - length rest) bytes)

-- the rest of the bytes stands behind these pairs, the last of which is this
pub record StandsBehind (bytes : List ℕ) (read : List Pair) (rest key payload : List ℕ) : Type 0 where
  pub begins : Begins bytes read rest
  pub last_key : key ≡ (last_pair read).key
  pub last_payload : payload ≡ (last_pair read).payload

-- one pair more was read, with which the bytes begin
pub record Advances (old new : Reading) : Type 0 where
  pub bytes : new.bytes ≡ old.bytes
  pub pair : Pair
  pub read : new.read ≡ old.read ++ pair ∷ []
  pub rest : List ℕ
  pub begins : Begins new.bytes new.read rest

-- the next of the pairs that are left was read, and where none is left that was said
abbrev pub GoesOn : Reading → List Pair → Result Bool NotABlock → Reading → Type 0
GoesOn old [] result new = result ≡ Ok false
GoesOn old (pair ∷ left) result new = (result ≡ Ok true) × (new.read ≡ old.read ++ pair ∷ [])
