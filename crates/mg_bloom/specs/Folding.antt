-- A body that is folded into a smaller one.
use Rattle.std.specs.Prelude.{ℕ, List, length, replicate}
use Rattle.mg_bloom.specs.Bloom.{AddsWords}

-- the body has the bits of these words and no others
abbrev pub HasBitsOf : List ℕ → List ℕ → Type 0
HasBitsOf body words = AddsWords (replicate (length body) 0) body words

-- of whatever words the old body has exactly the bits, the new one has exactly the bits of them too
abbrev pub KeepsWords : List ℕ → List ℕ → Type 0
KeepsWords old new = (words : List ℕ) → HasBitsOf old words → HasBitsOf new words
