-- What is read of a table where its file is loaded.
use Rattle.std.specs.Prelude.{◌≡◌, ◌≢◌, true, ℕ, ◌+◌, ◌-◌, ◌⊎◌, List, length, Option, IfSome, Ok, Err}
use Rattle.mg_bloom.specs.Bloom.{IsBodyLength}
use Rattle.mg_types.specs.declared.faults.Fault.{Fault}
use Rattle.mg_types.specs.declared.faults.Fault.TheVariants.{Malformed}
use Rattle.mg_types.specs.declared.names.FileId.{FileId}
use Rattle.mg_sealed.specs.Answers.{IsOutside}
use Rattle.mg_frame.specs.Frame.{StandsAt}
use Rattle.mg_sealed.specs.Reading.{frame_body}
use Rattle.mg_indexed.specs.Footer.{footer_size, offset_of}
use Rattle.mg_indexed.specs.Loading as indexed
use Rattle.mg_indexed.specs.Loading.{IsFooterRead, IsIndexRead, IsKept}
use Rattle.mg_indexed.specs.TableKeys.{table_keys}
use Rattle.mg_indexed.specs.Forms.{table_form}
use Rattle.mg_table.specs.Table.{IsTable}
use Rattle.mg_types.specs.declared.items.Entry.{Entry}
use Rattle.mg_indexed.specs.declared.footer.Footer.{Footer}
use Rattle.mg_indexed.specs.declared.handle.BlockHandle.{BlockHandle}
use Rattle.mg_table.specs.declared.table.Table.{Table}

-- C is so of the interval, the blocks and the filter of each table that the told bytes of this length are
abbrev pub Knows : Option (List ℕ) → ℕ → (ℕ → ℕ → List (List Entry) → List ℕ → Type 0) → Type 0
Knows told len C =
    IfSome told (λ bytes. (lo hi : ℕ) (entries : List Entry) (is : IsTable bytes lo hi entries) → length bytes ≡ len → C lo hi is.blocks is.filter)

-- what is wrong with the filter behind so many blocks, where the footer says that it stands: its frame, where the footer should stand, or
-- its length
abbrev pub IsFilterRefused : FileId → List ℕ → ℕ → ℕ → Fault → Type 0
IsFilterRefused id bytes at blocks fault =
    (frame_body id bytes at (blocks + 1) ≡ Err fault)
    ⊎ ((body : List ℕ) × (frame_body id bytes at (blocks + 1) ≡ Ok body)
    × (((at + length body + 20 ≢ length bytes - footer_size true) × (fault ≡ Malformed id (length bytes - footer_size true)))
    ⊎ ((at + length body + 20 ≡ length bytes - footer_size true) × (IsBodyLength (length body) → ⊥) × (fault ≡ Malformed id at))))

-- the filter behind so many blocks stands where the footer says it, and the footer's frame stands behind it
pub record IsFilterRead (id : FileId) (bytes : List ℕ) (at blocks : ℕ) (filter : List ℕ) : Type 0 where
  pub body : frame_body id bytes at (blocks + 1) ≡ Ok filter
  pub stands : StandsAt bytes at (blocks + 1, filter)
  pub is_filter : IsBodyLength (length filter)
  pub ends : at + length filter + 20 ≡ length bytes - footer_size true

-- A file of these bytes is loaded as this table: what is kept of it is what its last three frames say.
pub record IsRead {S : Type 0} (id : FileId) (bytes : List ℕ) (table : Table S) : Type 0 where
  pub kept : IsKept table_keys table_form table.indexed.footer table.indexed.index
  pub footer : IsFooterRead true id bytes table.indexed.footer
  pub index : IsIndexRead table_keys id bytes table.indexed.footer table.indexed.index
  pub filter : IsFilterRead id bytes (offset_of table.indexed.footer.filter_at) table.indexed.footer.blocks table.filter

-- Why a file of these bytes, of which this length is kept, is not loaded: nothing that its bytes cause; its length, its footer or its
-- index; or, where these are right, its filter.
abbrev pub IsRefused : {S : Type 0} → FileId → S → ℕ → List ℕ → Fault → Type 0
IsRefused id file len bytes fault =
    IsOutside fault
    ⊎ indexed.IsRefused table_keys table_form id file len bytes fault
    ⊎ ((length bytes ≡ len) × (footer : Footer) × (index : List (BlockHandle (List ℕ))) × IsFooterRead true id bytes footer × IsIndexRead table_keys id bytes footer index
    × IsFilterRefused id bytes (offset_of footer.filter_at) footer.blocks fault)
