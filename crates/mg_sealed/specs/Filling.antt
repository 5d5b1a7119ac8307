-- Items in blocks that are filled in order.
use Rattle.std.specs.Prelude.{◌≡◌, ◌≢◌, ℕ, ◌<◌, ◌≤◌, ◌⊎◌, List, [], ◌∷◌, ◌++◌, length}

-- no block is empty, and a block of several items has at most 4,096 bytes
pub record Fits {T : Type 0} (block_of : List T → List ℕ) (items : List T) : Type 0 where
  pub some : items ≢ []
  pub small : (length (block_of items) ≤ 4096) ⊎ (length items ≡ 1)

-- the first item of the blocks that follow would have brought the block above 4,096 bytes
abbrev pub IsClosed : {T : Type 0} → (List T → List ℕ) → List T → List (List T) → Type 0
IsClosed block_of items [] = Unit {0}
IsClosed block_of items ([] ∷ _) = Unit {0}
IsClosed block_of items ((item ∷ _) ∷ _) = 4096 < length (block_of (items ++ item ∷ []))

-- the blocks are filled in order: each fits, and is closed by those that follow it
abbrev pub AreFilled : {T : Type 0} → (List T → List ℕ) → List (List T) → Type 0
AreFilled block_of [] = Unit {0}
AreFilled block_of (items ∷ following) = Fits block_of items × IsClosed block_of items following × AreFilled block_of following

-- the items of blocks, one after the other
abbrev pub items_of : {T : Type 0} → List (List T) → List T
items_of [] = []
items_of (items ∷ blocks) = items ++ items_of blocks

-- a block of more items has no fewer bytes
abbrev pub Grows : {T : Type 0} → (List T → List ℕ) → Type 0
Grows {T} block_of = (items more : List T) → length (block_of items) ≤ length (block_of (items ++ more))

-- items of a type are filled into blocks in one way
abbrev pub OneFilling : Type 0 → Type 0
OneFilling T = (block_of : List T → List ℕ) (blocks others : List (List T)) → Grows block_of → AreFilled block_of blocks → AreFilled block_of others
    → items_of blocks ≡ items_of others → blocks ≡ others
