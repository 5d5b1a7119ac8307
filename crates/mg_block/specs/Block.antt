-- A block of a table: pairs in rising order of their keys, each key spelled by what it shares with the one before it.
use Rattle.std.specs.Prelude.{◌≡◌, ℕ, ◌≤◌, ◌<◌, List, [], ◌∷◌, ◌++◌, length, drop, nat_eq}
use Rattle.std.specs.declared.cmp.Ordering.TheVariants.{Less}
use Rattle.std.specs.Ordering.{nat_cmp}
use Rattle.std.specs.List.{common_prefix_len}
use Rattle.std.specs.Cmp.Lexicographic.{slice_cmp}
use Rattle.mg_block.specs.Item.{spelled}
use Rattle.mg_block.specs.declared.pair.Pair.{Pair}

-- in byte order, one key stands before another
abbrev pub Precedes : List ℕ → List ℕ → Type 0
Precedes key other = slice_cmp nat_cmp key other ≡ Less

-- how many bytes two keys share at their front
abbrev pub shared_len : List ℕ → List ℕ → ℕ
shared_len = common_prefix_len nat_eq

-- a pair as an item behind the key `previous`: the longest front that the keys share is left out
unfoldable pub item_of : List ℕ → Pair → List ℕ
item_of previous pair =
    let shared = shared_len previous pair.key in
    spelled shared (drop shared pair.key) pair.payload

-- the items of pairs, one after the other, the first of them behind the key `previous`
abbrev pub items_after : List ℕ → List Pair → List ℕ
items_after previous [] = []
items_after previous (pair ∷ pairs) = item_of previous pair ++ items_after pair.key pairs

-- the bytes of a block of these pairs; the first key has none before it, and shares nothing
abbrev pub block_of : List Pair → List ℕ
block_of pairs = items_after [] pairs

-- a pair may stand behind the key `previous`
pub record Follows (previous : List ℕ) (pair : Pair) : Type 0 where
  pub rises : Precedes previous pair.key
  pub key : length pair.key ≤ 250
  pub payload : length pair.payload ≤ 255

-- each pair may stand behind the one before it
abbrev pub RiseAfter : List ℕ → List Pair → Type 0
RiseAfter previous [] = Unit {0}
RiseAfter previous (pair ∷ pairs) = Follows previous pair × RiseAfter pair.key pairs

-- keys of 1 to 250 bytes, since each is above the empty one, that strictly rise, and payloads of at most 255 bytes
abbrev pub AreRising : List Pair → Type 0
AreRising pairs = RiseAfter [] pairs

-- bytes are the block of these pairs
pub record IsBlock (bytes : List ℕ) (pairs : List Pair) : Type 0 where
  pub rising : AreRising pairs
  pub spelling : bytes ≡ block_of pairs

-- bytes begin with the block of these pairs, and the rest follows it
pub record Begins (bytes : List ℕ) (pairs : List Pair) (rest : List ℕ) : Type 0 where
  pub rising : AreRising pairs
  pub spelling : bytes ≡ block_of pairs ++ rest

-- bytes begin with the block of these pairs, and at the place `at` behind it bytes stand that begin with no further item
pub record BreaksAt (bytes : List ℕ) (pairs : List Pair) (at : ℕ) : Type 0 where
  pub begins : Begins bytes pairs (drop at bytes)
  pub more : at < length bytes
  pub no_item : (pair : Pair) (rest : List ℕ) → Begins bytes (pairs ++ pair ∷ []) rest → ⊥

-- bytes begin with an item of this pair behind the key `previous`, and the rest follows it
pub record NextItem (previous bytes : List ℕ) (pair : Pair) (rest : List ℕ) : Type 0 where
  pub follows : Follows previous pair
  pub spelling : bytes ≡ item_of previous pair ++ rest
