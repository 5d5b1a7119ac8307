-- The first numbers of blocks.
use Rattle.std.specs.Prelude.{ℕ, List, [], ◌∷◌}
use Rattle.mg_indexed.specs.declared.handle.BlockHandle.{BlockHandle}

-- the first number of these blocks, or 0 where there is none
abbrev pub first_of : List (BlockHandle ℕ) → ℕ
first_of [] = 0
first_of (handle ∷ handles) = handle.first
