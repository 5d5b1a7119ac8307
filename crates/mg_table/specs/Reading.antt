-- What is read of a table.
use Rattle.std.specs.Prelude.{◌≡◌, ℕ, ◌+◌, ◌-◌, ◌<◌, ◌^◌, ◌⊎◌, true, false, List, [], ◌∷◌, ◌++◌, length, map, take, find, Any, All, HoldsAt, Option, Some, None, Result, Ok, Err}
use Rattle.std.specs.Str.{bytes_eq}
use Rattle.mg_block.specs.Block.{Begins, BreaksAt, Precedes}
use Rattle.mg_block.specs.Search.{Breaks, Finds, Misses}
use Rattle.mg_block.specs.declared.pair.Pair.{Pair}
use Rattle.mg_bloom.specs.Bloom.{has_words, key_words}
use Rattle.mg_frame.specs.Frame.{StandsAt}
use Rattle.mg_types.specs.declared.faults.Fault.{Fault}
use Rattle.mg_types.specs.declared.faults.Fault.TheVariants.{Damaged, Malformed}
use Rattle.mg_types.specs.declared.names.FileId.{FileId}
use Rattle.mg_sealed.specs.Blocks as sealed
use Rattle.mg_sealed.specs.Blocks.{IsUnfitAt}
use Rattle.mg_table.specs.Entries.{block_body, pair_of, payload_of, AreEntries}
use Rattle.mg_types.specs.Items.{IsEntry}
use Rattle.mg_table.specs.Payload.{judged_payload}
use Rattle.mg_table.specs.Scanning.{AreCounted, AreHeaded, EndsIn, IsNext}
use Rattle.mg_sealed.specs.Filling.{items_of, AreFilled}
use Rattle.mg_indexed.specs.Footer.{footer_size}
use Rattle.mg_types.specs.declared.items.Entry.{Entry}
use Rattle.mg_table.specs.declared.entry.Refused.{Refused}
use Rattle.mg_table.specs.declared.entry.Refused.TheVariants.{Number, Form}
use Rattle.mg_indexed.specs.declared.handle.BlockHandle.{BlockHandle}
use Rattle.mg_table.specs.declared.table.Table.{Table}

-- the entry of a key among entries
abbrev pub entry_of : List ℕ → List Entry → Option Entry
entry_of key entries = find (λ entry. bytes_eq entry.key key) entries

-- what stands at the offset of some block of the table is damaged or malformed
abbrev pub HasUnfit : {S : Type 0} → Table S → Fault → Type 0
HasUnfit table fault = Any (λ handle. IsUnfitAt table.indexed.file.id handle.at fault) table.indexed.index

-- the body of the block of this number whose handle is in the index, or what is damaged or malformed there
abbrev pub read_at : FileId → List ℕ → BlockHandle (List ℕ) → ℕ → Result (List ℕ) Fault
read_at id bytes handle number = sealed.block_body id bytes handle.at handle.len number

-- the fault of a payload in the block at this offset, of which this is wrong
abbrev pub payload_fault : FileId → ℕ → Refused → Fault
payload_fault id at (Number number) = Damaged id at number (2 ^ 62)
payload_fault id at Form = Malformed id at

-- a payload in the block at this offset is refused for this
abbrev pub IsPayloadRefused : FileId → ℕ → List ℕ → Fault → Type 0
IsPayloadRefused id at payload fault = (refused : Refused) × (judged_payload payload ≡ Err refused) × (fault ≡ payload_fault id at refused)

-- What is wrong with a block at this offset in which a key is sought: behind smaller keys it breaks, or the key's payload is refused.
abbrev pub IsSearchUnfit : FileId → ℕ → List ℕ → List ℕ → Fault → Type 0
IsSearchUnfit id at body key fault =
    ((offset : ℕ) × Breaks body key offset × (fault ≡ Malformed id at))
    ⊎ ((payload : List ℕ) × Finds body key payload × IsPayloadRefused id at payload fault)

-- What is wrong with a block at this offset whose entries are listed: behind entries that are right it breaks, or the payload of the
-- next pair is refused.
abbrev pub IsListUnfit : FileId → ℕ → List ℕ → Fault → Type 0
IsListUnfit id at body fault =
    (front : List Entry) × All IsEntry front
    × (((offset : ℕ) × BreaksAt body (map pair_of front) offset × (fault ≡ Malformed id at))
    ⊎ ((pair : Pair) × (rest : List ℕ) × Begins body (map pair_of front ++ pair ∷ []) rest × IsPayloadRefused id at pair.payload fault))

-- bytes begin with a pair of this key
abbrev pub BeginsWithKey : List ℕ → List ℕ → Type 0
BeginsWithKey body key = (pair : Pair) × (rest : List ℕ) × Begins body (pair ∷ []) rest × (pair.key ≡ key)

-- what is wrong with a block in which a key is sought: it begins with no entry of the key that the index says, or this of a search
abbrev pub IsFindUnfit : FileId → BlockHandle (List ℕ) → List ℕ → List ℕ → Fault → Type 0
IsFindUnfit id handle body key fault =
    ((BeginsWithKey body handle.first → ⊥) × (fault ≡ Malformed id handle.at))
    ⊎ (BeginsWithKey body handle.first × IsSearchUnfit id handle.at body key fault)

-- why the block of this number at this offset is refused: its frame, or this of its body
abbrev pub IsRefusedAt : FileId → List ℕ → ℕ → (BlockHandle (List ℕ) → List ℕ → Fault → Type 0) → Fault → BlockHandle (List ℕ) → Type 0
IsRefusedAt id bytes number IsBodyUnfit fault handle =
    (read_at id bytes handle number ≡ Err fault) ⊎ ((body : List ℕ) × (read_at id bytes handle number ≡ Ok body) × IsBodyUnfit handle body fault)

-- why the block of this number is refused, where the index says that it stands
abbrev pub IsBlockRefused : {S : Type 0} → Table S → List ℕ → ℕ → (BlockHandle (List ℕ) → List ℕ → Fault → Type 0) → Fault → Type 0
IsBlockRefused table bytes number IsBodyUnfit fault =
    (number < length table.indexed.index) × HoldsAt (IsRefusedAt table.indexed.file.id bytes number IsBodyUnfit fault) table.indexed.index number

-- A key is sought in the block of this number: the filter does not deny the key, the block begins with no key above it, and the next
-- block with one above.
pub record IsSoughtIn {S : Type 0} (table : Table S) (key : List ℕ) (number : ℕ) : Type 0 where
  pub held : has_words table.filter (key_words key) ≡ true
  pub within : number < length table.indexed.index
  pub last : HoldsAt (λ handle. Precedes key handle.first → ⊥) table.indexed.index number
  pub following : number + 1 < length table.indexed.index → HoldsAt (λ handle. Precedes key handle.first) table.indexed.index (number + 1)

-- a key is sought in no block: the filter denies it, or the first block begins above it
abbrev pub IsSoughtNowhere : {S : Type 0} → Table S → List ℕ → Type 0
IsSoughtNowhere table key =
    (has_words table.filter (key_words key) ≡ false) ⊎ (0 < length table.indexed.index → HoldsAt (λ handle. Precedes key handle.first) table.indexed.index 0)

-- the block of this number is read, it begins with the key that the index says, and this is so of its body
abbrev pub HasBody : {S : Type 0} → Table S → List ℕ → ℕ → (List ℕ → Type 0) → Type 0
HasBody table bytes number P = HoldsAt (λ handle. (body : List ℕ) × (read_at table.indexed.file.id bytes handle number ≡ Ok body) × BeginsWithKey body handle.first × P body)
    table.indexed.index number

-- what is read where this is found of a key: an entry, behind smaller keys of its block; or none, in no block or in the key's block
abbrev pub IsFindRead : {S : Type 0} → Table S → List ℕ → List ℕ → Option Entry → Type 0
IsFindRead table bytes key None = IsSoughtNowhere table key ⊎ ((number : ℕ) × IsSoughtIn table key number × HasBody table bytes number (λ body. Misses body key))
IsFindRead table bytes key (Some entry) =
    (entry.key ≡ key) × IsEntry entry × ((number : ℕ) × IsSoughtIn table key number × HasBody table bytes number (λ body. Finds body key (payload_of entry)))

-- why a key is not found in a table whose file has these bytes: the block in which it is sought is refused
abbrev pub IsFindRefused : {S : Type 0} → Table S → List ℕ → List ℕ → Fault → Type 0
IsFindRefused table bytes key fault =
    (number : ℕ) × IsSoughtIn table key number × IsBlockRefused table bytes number (λ handle body. IsFindUnfit table.indexed.file.id handle body key) fault

-- the blocks at these handles, of which the first has this number, are read, stand there as frames, and are those of these entries
abbrev pub AreRead : FileId → List ℕ → ℕ → List (BlockHandle (List ℕ)) → List (List Entry) → Type 0
AreRead id bytes number [] [] = Unit {0}
AreRead id bytes number [] (_ ∷ _) = ⊥
AreRead id bytes number (_ ∷ _) [] = ⊥
AreRead id bytes number (handle ∷ handles) (block ∷ blocks) =
    (read_at id bytes handle number ≡ Ok (block_body block)) × StandsAt bytes handle.at (number, block_body block) × AreEntries block
    × AreRead id bytes (number + 1) handles blocks

-- The first blocks of the table are these: they are read, each begins with the key that the index says, their keys rise from each to
-- the next, and they are filled in order.
pub record AreFirst {S : Type 0} (table : Table S) (bytes : List ℕ) (blocks : List (List Entry)) : Type 0 where
  pub read : AreRead table.indexed.file.id bytes 0 (take (length blocks) table.indexed.index) blocks
  pub headed : AreHeaded (take (length blocks) table.indexed.index) blocks
  pub rising : AreEntries (items_of blocks)
  pub filled : AreFilled block_body blocks

-- the block behind these ones, of which the last has `len` bytes, is read, and may not stand there
abbrev pub IsOrderRefused : {S : Type 0} → Table S → List ℕ → List (List Entry) → Fault → Type 0
IsOrderRefused table bytes before fault =
    (block : List Entry) × (len : ℕ) × AreRead table.indexed.file.id bytes 0 (take (length before + 1) table.indexed.index) (before ++ block ∷ []) × EndsIn before len
    × (length before < length table.indexed.index)
    × HoldsAt (λ handle. (IsNext handle.first (items_of before) len block (length (block_body block)) → ⊥) × (fault ≡ Malformed table.indexed.file.id handle.at)) table.indexed.index
    (length before)

-- why a table whose file has these bytes is not listed: behind blocks that are right, one is refused, or may not stand there; or all are
-- right, and the footer says another number of entries, or another sum
abbrev pub IsScanRefused : {S : Type 0} → Table S → List ℕ → Fault → Type 0
IsScanRefused table bytes fault =
    ((before : List (List Entry)) × AreFirst table bytes before
    × IsBlockRefused table bytes (length before) (λ handle body. IsListUnfit table.indexed.file.id handle.at body) fault)
    ⊎ ((before : List (List Entry)) × AreFirst table bytes before × IsOrderRefused table bytes before fault)
    ⊎ ((blocks : List (List Entry)) × AreFirst table bytes blocks × (length blocks ≡ length table.indexed.index) × (AreCounted table.indexed.footer (items_of blocks) → ⊥)
    × (fault ≡ Malformed table.indexed.file.id (table.indexed.file.len - footer_size true)))
