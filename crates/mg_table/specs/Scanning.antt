-- What a scan asks of each block of a table, and of all of them.
use Rattle.std.specs.Prelude.{◌≡◌, ℕ, ◌+◌, ◌-◌, ◌<◌, ◌≤◌, ◌⊎◌, List, [], ◌∷◌, ◌++◌, length, map}
use Rattle.mg_block.specs.Block.{shared_len, Precedes}
use Rattle.mg_block.specs.View.{last_pair}
use Rattle.mg_table.specs.Entries.{block_body, first_key, pair_of}
use Rattle.mg_table.specs.Table.{sizes_of}
use Rattle.mg_indexed.specs.declared.footer.Footer.{Footer}
use Rattle.mg_indexed.specs.declared.handle.BlockHandle.{BlockHandle}
use Rattle.mg_types.specs.declared.items.Entry.{Entry}

-- the key of the last entry, empty where there is none
abbrev pub last_key : List Entry → List ℕ
last_key entries = (last_pair (map pair_of entries)).key

-- how many bytes the item of an entry of this key has behind the key `previous`
abbrev pub item_length : List ℕ → List ℕ → ℕ
item_length previous key = 16 + (length key - shared_len previous key)

-- A block of `size` bytes, whose first key the index says, may stand behind these entries, of which the last ones make a block of `len`
-- bytes: it begins with that key, which is above theirs; it is not too large; and its first entry would have brought the block before
-- above 4,096 bytes. So it has an entry.
abbrev pub IsNext : List ℕ → List Entry → ℕ → List Entry → ℕ → Type 0
IsNext key before len block size =
    (first_key block ≡ key) × Precedes (last_key before) (first_key block) × (size ≤ 4096) × (4096 < len + item_length (last_key before) (first_key block))

-- each block begins with the key that the index says
abbrev pub AreHeaded : List (BlockHandle (List ℕ)) → List (List Entry) → Type 0
AreHeaded [] blocks = Unit {0}
AreHeaded (_ ∷ _) [] = ⊥
AreHeaded (handle ∷ handles) (block ∷ blocks) = (handle.first ≡ first_key block) × AreHeaded handles blocks

-- no block is read yet, as if one of 4,096 bytes stood before the first; or the last one has this many bytes
abbrev pub EndsIn : List (List Entry) → ℕ → Type 0
EndsIn blocks len =
    ((blocks ≡ []) × (len ≡ 4096)) ⊎ ((front : List (List Entry)) × (last : List Entry) × (blocks ≡ front ++ last ∷ []) × (len ≡ length (block_body last)))

-- the footer says how many entries there are, and the sum of their sizes
abbrev pub AreCounted : Footer → List Entry → Type 0
AreCounted footer entries = (length entries ≡ footer.count) × (sizes_of entries ≡ footer.sum)
