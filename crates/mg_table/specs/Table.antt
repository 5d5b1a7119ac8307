-- A table: the bytes of its list of entries.
use Rattle.std.specs.Prelude.{◌≡◌, ◌≢◌, ℕ, ◌+◌, ◌<◌, ◌^◌, List, [], ◌∷◌, ◌++◌, length, map, Option, Some, IfSome}
use Rattle.std.specs.List.{sum_by}
use Rattle.mg_bloom.specs.Bloom.{key_words}
use Rattle.mg_frame.specs.Frames.{numbered_frames}
use Rattle.mg_sealed.specs.Filling.{AreFilled, items_of}
use Rattle.mg_table.specs.Entries.{block_body, AreEntries}
use Rattle.mg_table.specs.Filters.{IsFilterOf}
use Rattle.mg_indexed.specs.Footer.{footer_bytes}
use Rattle.mg_table.specs.Index.{handles_from}
use Rattle.mg_indexed.specs.Index.{index_bytes}
use Rattle.mg_indexed.specs.TableKeys.{table_keys}
use Rattle.mg_types.specs.declared.items.Entry.{Entry}
use Rattle.mg_indexed.specs.declared.footer.Footer.{Footer}
use Rattle.mg_table.specs.declared.table.Table.{Table}

-- what the keys of entries are hashed to
abbrev pub hashed_keys : List Entry → List (List ℕ)
hashed_keys entries = map (λ entry. key_words entry.key) entries

-- the sum of the entries' sizes
abbrev pub sizes_of : List Entry → ℕ
sizes_of entries = sum_by (λ entry. entry.size) entries

-- the footer of a table over an interval with these blocks and this filter
abbrev pub footer_of : ℕ → ℕ → List (List Entry) → List ℕ → Footer
footer_of lo hi blocks filter =
    let index_at = length (numbered_frames (map block_body blocks)) in
    record {
      count = length (items_of blocks);
      sum = sizes_of (items_of blocks);
      low = lo;
      high = hi;
      index_at = index_at;
      filter_at = Some (index_at + length (index_bytes table_keys (handles_from 0 blocks)) + 20);
      blocks = length blocks;
    }

-- the bodies of a table's frames: the blocks, the index, the filter and the footer
abbrev pub table_bodies : ℕ → ℕ → List (List Entry) → List ℕ → List (List ℕ)
table_bodies lo hi blocks filter =
    map block_body blocks ++ index_bytes table_keys (handles_from 0 blocks) ∷ filter ∷ footer_bytes (footer_of lo hi blocks filter) ∷ []

-- These entries in these blocks are those of a table: at least one entry, keys that strictly rise, blocks that are filled in order, and an
-- index that a frame has room for. Both numbers of the interval are in range.
pub record AreBlocksOf (lo hi : ℕ) (entries : List Entry) (blocks : List (List Entry)) : Type 0 where
  pub some : entries ≢ []
  pub rising : AreEntries entries
  pub whole : items_of blocks ≡ entries
  pub filled : AreFilled block_body blocks
  pub few : length (index_bytes table_keys (handles_from 0 blocks)) < 2 ^ 32
  pub from : lo < 2 ^ 62
  pub to : hi < 2 ^ 62

-- these entries in these blocks are those of a table with this filter, which is one of exactly their keys
pub record IsTableOf (lo hi : ℕ) (entries : List Entry) (blocks : List (List Entry)) (filter : List ℕ) : Type 0 where
  pub listed : AreBlocksOf lo hi entries blocks
  pub filtered : IsFilterOf (hashed_keys entries) filter

-- the bytes are the table of these entries over this interval
pub record IsTable (bytes : List ℕ) (lo hi : ℕ) (entries : List Entry) : Type 0 where
  pub blocks : List (List Entry)
  pub filter : List ℕ
  pub parts : IsTableOf lo hi entries blocks filter
  pub bytes_are : bytes ≡ numbered_frames (table_bodies lo hi blocks filter)

-- The bytes are the table of these entries over this interval, but for the bits of its filter, which is this one. Where that is a filter of
-- exactly their keys, the bytes are the table.
pub record IsTableBut (bytes : List ℕ) (lo hi : ℕ) (entries : List Entry) (filter : List ℕ) : Type 0 where
  pub blocks : List (List Entry)
  pub parts : AreBlocksOf lo hi entries blocks
  pub bytes_are : bytes ≡ numbered_frames (table_bodies lo hi blocks filter)

-- A table as it is kept stands for these entries: its footer, index and filter are theirs, and where the port tells the file's
-- bytes, these are their table.
pub record Represents {S : Type 0} (told : S → Option (List ℕ)) (table : Table S) (entries : List Entry) : Type 0 where
  pub blocks : List (List Entry)
  pub parts : IsTableOf table.indexed.footer.low table.indexed.footer.high entries blocks table.filter
  pub footer : table.indexed.footer ≡ footer_of table.indexed.footer.low table.indexed.footer.high blocks table.filter
  pub index : table.indexed.index ≡ handles_from 0 blocks
  pub len : table.indexed.file.len ≡ length (numbered_frames (table_bodies table.indexed.footer.low table.indexed.footer.high blocks table.filter))
  pub file : IfSome (told table.indexed.file.file) (λ bytes. bytes ≡ numbered_frames (table_bodies table.indexed.footer.low table.indexed.footer.high blocks table.filter))
