-- What a search for a key says of bytes: it reads from the front, as far as the first key that is not below the sought one.
use Rattle.std.specs.Prelude.{ℕ, List, [], ◌∷◌, ◌++◌, ◌⊎◌, Option, find, option_map}
use Rattle.std.specs.List.{AllByRecursion}
use Rattle.std.specs.Str.{bytes_eq}
use Rattle.mg_block.specs.Block.{Precedes, Begins, BreaksAt, IsBlock}
use Rattle.mg_block.specs.declared.pair.Pair.{Pair}

-- each of the pairs has a key below this one
abbrev pub AreBelow : List ℕ → List Pair → Type 0
AreBelow key pairs = AllByRecursion (λ pair. Precedes pair.key key) pairs

-- behind pairs of smaller keys stands the pair of this key, and its payload is this
pub record Finds (bytes key payload : List ℕ) : Type 0 where
  pub before : List Pair
  pub below : AreBelow key before
  pub rest : List ℕ
  pub begins : Begins bytes (before ++ record { key = key; payload = payload } ∷ []) rest

-- behind pairs of smaller keys the bytes end, or a pair of a greater key stands
pub record Misses (bytes key : List ℕ) : Type 0 where
  pub before : List Pair
  pub below : AreBelow key before
  pub next : IsBlock bytes before ⊎ ((pair : Pair) × (rest : List ℕ) × Precedes key pair.key × Begins bytes (before ++ pair ∷ []) rest)

-- behind pairs of smaller keys, at the place `at`, stand bytes that begin with no item
pub record Breaks (bytes key : List ℕ) (at : ℕ) : Type 0 where
  pub before : List Pair
  pub below : AreBelow key before
  pub breaks : BreaksAt bytes before at

-- the payload of a key among pairs
abbrev pub payload_of : List ℕ → List Pair → Option (List ℕ)
payload_of key pairs = option_map (λ pair. pair.payload) (find (λ pair. bytes_eq pair.key key) pairs)
