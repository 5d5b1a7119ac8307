-- The pairs that the bytes of a block spell, for the models of what keeps such bytes. `block_of` is what such a list of pairs stands for.
use Rattle.std.specs.Prelude.{ℕ, zero, suc, List, [], ◌∷◌, ◌++◌, length, take, drop, slice_index}
use Rattle.mg_block.specs.Block.{item_of}
use Rattle.mg_block.specs.declared.pair.Pair.{Pair}

-- the pair of the first item, behind the key `previous`
unfoldable pub first_pair : List ℕ → List ℕ → Pair
first_pair previous bytes =
    let shared = slice_index bytes 0 in
    let rest = slice_index bytes 1 in
    let tail = drop rest (drop 2 bytes) in
    record { key = take shared previous ++ take rest (drop 2 bytes); payload = take (slice_index tail 0) (drop 1 tail) }

-- the pairs of at most n items, behind the key `previous`
unfoldable pub pairs_after : ℕ → List ℕ → List ℕ → List Pair
pairs_after zero previous bytes = []
pairs_after (suc n) previous [] = []
pairs_after (suc n) previous (byte ∷ bytes) =
    let pair = first_pair previous (byte ∷ bytes) in
    pair ∷ pairs_after n pair.key (drop (length (item_of previous pair)) (byte ∷ bytes))

-- the pairs whose block the bytes are
unfoldable pub pairs_of : List ℕ → List Pair
pairs_of bytes = pairs_after (length bytes) [] bytes

-- the last of the pairs, or an empty one
abbrev pub last_pair_after : Pair → List Pair → Pair
last_pair_after previous [] = previous
last_pair_after previous (pair ∷ pairs) = last_pair_after pair pairs

abbrev pub last_pair : List Pair → Pair
last_pair pairs = last_pair_after (record { key = []; payload = [] }) pairs
