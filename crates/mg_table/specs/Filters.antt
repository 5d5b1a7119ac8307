-- The filter of a table.
use Rattle.std.specs.Prelude.{ℕ, List, length, replicate}
use Rattle.std.specs.List.{concat}
use Rattle.mg_bloom.specs.Bloom.{bit_count, AddsWords, IsBitCountFor}

-- the body of a filter for so many keys, which are hashed to these words: it has the bits of all these words and no others
pub record IsFilterOf (hashed : List (List ℕ)) (body : List ℕ) : Type 0 where
  pub size : IsBitCountFor (length hashed) (bit_count body)
  pub bits : AddsWords (replicate (length body) 0) body (concat hashed)
