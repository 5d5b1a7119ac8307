-- The index of a file: a handle for each block.
use Rattle.std.specs.Prelude.{◌≡◌, ◌≢◌, ℕ, ◌+◌, ◌<◌, ◌^◌, ◌⊎◌, List, [], ◌∷◌, ◌++◌}
use Rattle.std.specs.List.{AllPairs}
use Rattle.std.specs.List.Sorted.{IsPartitionPoint}
use Rattle.mg_frame.specs.BigEndian.{big_endian}
use Rattle.mg_types.specs.declared.faults.Fault.{Fault}
use Rattle.mg_types.specs.declared.faults.Fault.TheVariants.{Malformed}
use Rattle.mg_types.specs.declared.names.FileId.{FileId}
use Rattle.mg_sealed.specs.Numbers.{IsOffsetUnfit}
use Rattle.mg_indexed.specs.Forms.{Form, IsFrameLength}
use Rattle.mg_indexed.specs.Keys.{Keys}
use Rattle.mg_indexed.specs.declared.handle.BlockHandle.{BlockHandle}

-- a handle as it is spelled: the spelling of the block's first key, the offset of its frame, and the frame's whole length
abbrev pub item_bytes : List ℕ → ℕ → ℕ → List ℕ
item_bytes first at len = first ++ (big_endian 8 at ++ big_endian 4 len)

-- a handle in an index
abbrev pub handle_bytes : {K : Type 0} → Keys K → BlockHandle K → List ℕ
handle_bytes keys handle = item_bytes (keys.bytes handle.first) handle.at handle.len

-- the handles of an index, one after the other
abbrev pub index_bytes : {K : Type 0} → Keys K → List (BlockHandle K) → List ℕ
index_bytes keys [] = []
index_bytes keys (handle ∷ handles) = handle_bytes keys handle ++ index_bytes keys handles

-- the handles of blocks whose frames stand one after the other from this offset on: of each block its first key, and the whole length of its frame
abbrev pub handles_of : {B K : Type 0} → (B → K) → (B → ℕ) → ℕ → List B → List (BlockHandle K)
handles_of first_of length_of at [] = []
handles_of first_of length_of at (block ∷ blocks) =
    record { first = first_of block; at = at; len = length_of block } ∷ handles_of first_of length_of (at + length_of block) blocks

-- a handle's key and numbers fit their fields
pub record FitsFields {K : Type 0} (keys : Keys K) (handle : BlockHandle K) : Type 0 where
  pub first : keys.fits handle.first
  pub at : handle.at < 2 ^ 64
  pub len : handle.len < 2 ^ 32

-- the handle may stand behind one with the first key `previous`, and its block at this offset
abbrev pub IsHandleAt : {K : Type 0} → Keys K → Form → K → ℕ → BlockHandle K → Type 0
IsHandleAt keys form previous at handle = keys.follows previous handle.first × (handle.at ≡ at) × (at < 2 ^ 62) × IsFrameLength form handle.len

-- The first keys rise, the first of them from above `previous`, and the frames stand one after the other, from the offset `at` to the
-- offset `end`.
abbrev pub IsIndexFrom : {K : Type 0} → Keys K → Form → K → ℕ → List (BlockHandle K) → ℕ → Type 0
IsIndexFrom keys form previous at [] end = at ≡ end
IsIndexFrom keys form previous at (handle ∷ handles) end = IsHandleAt keys form previous at handle × IsIndexFrom keys form handle.first (at + handle.len) handles end

-- each first key is below those behind it
abbrev pub AreRising : {K : Type 0} → Keys K → List (BlockHandle K) → Type 0
AreRising {K} keys handles = AllPairs (λ (handle other : BlockHandle K). keys.before handle.first other.first) handles

-- so many blocks begin up to this key: they do, and those behind them begin above it
abbrev pub BeginUpTo : {K : Type 0} → Keys K → List (BlockHandle K) → K → ℕ → Type 0
BeginUpTo {K} keys handles key count =
    IsPartitionPoint (λ (handle : BlockHandle K). keys.before key handle.first → ⊥) (λ (handle : BlockHandle K). keys.before key handle.first) handles count

-- the first key of the last of these blocks, or this one where there is none
abbrev pub first_after : {K : Type 0} → K → List (BlockHandle K) → K
first_after previous [] = previous
first_after previous (handle ∷ handles) = first_after handle.first handles

-- What is wrong with a handle in an index at this offset that stands behind one with the first key `previous`, and whose block should
-- stand at `end`: first its key, then its offset, then its length.
abbrev pub IsHandleUnfit : {K : Type 0} → Keys K → Form → FileId → ℕ → K → ℕ → BlockHandle K → Fault → Type 0
IsHandleUnfit keys form id at previous end handle fault =
    keys.refused id at previous handle.first fault
    ⊎ (keys.follows previous handle.first × IsOffsetUnfit id at end handle.at fault)
    ⊎ (keys.follows previous handle.first × (handle.at ≡ end) × (end < 2 ^ 62) × (IsFrameLength form handle.len → ⊥) × (fault ≡ Malformed id at))

-- bytes begin with this handle, whose key and numbers fit their fields, and the rest follows it
abbrev pub BeginsWithHandle : {K : Type 0} → Keys K → List ℕ → BlockHandle K → List ℕ → Type 0
BeginsWithHandle keys bytes handle rest = FitsFields keys handle × (bytes ≡ handle_bytes keys handle ++ rest)

-- What is wrong behind the handles of an index, of which the last has the first key `previous`, and whose blocks end at `end`: the handle
-- that follows; or none follows, and there are bytes left, or the blocks do not end where the index stands.
abbrev pub IsRestUnfit : {K : Type 0} → Keys K → Form → FileId → ℕ → K → ℕ → List ℕ → Fault → Type 0
IsRestUnfit {K} keys form id at previous end rest fault =
    ((handle : BlockHandle K) × (behind : List ℕ) × BeginsWithHandle keys rest handle behind × IsHandleUnfit keys form id at previous end handle fault)
    ⊎ (((handle : BlockHandle K) (behind : List ℕ) → BeginsWithHandle keys rest handle behind → ⊥) × ((rest ≢ []) ⊎ (end ≢ at)) × (fault ≡ Malformed id at))

-- The body of an index at this offset begins with handles that are right, and this is wrong behind them.
pub record IsIndexUnfit {K : Type 0} (keys : Keys K) (form : Form) (id : FileId) (at : ℕ) (body : List ℕ) (fault : Fault) : Type 0 where
  pub front : List (BlockHandle K)
  pub rest : List ℕ
  pub body_is : body ≡ index_bytes keys front ++ rest
  pub end : ℕ
  pub right : IsIndexFrom keys form keys.lowest 0 front end
  pub stops : IsRestUnfit keys form id at (first_after keys.lowest front) end rest fault
