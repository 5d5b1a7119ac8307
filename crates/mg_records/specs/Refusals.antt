-- Why bytes, of which a length is kept, are not a file of records.
use Rattle.std.specs.Prelude.{◌≡◌, ℕ, ◌-◌, ◌⊎◌, List, length, false}
use Rattle.mg_types.specs.declared.faults.Fault.{Fault}
use Rattle.mg_types.specs.declared.faults.Fault.TheVariants.{Malformed}
use Rattle.mg_types.specs.declared.names.FileId.{FileId}
use Rattle.mg_sealed.specs.Blocks.{IsUnfitAt}
use Rattle.mg_indexed.specs.Footer.{footer_size}
use Rattle.mg_indexed.specs.Forms.{Form}
use Rattle.mg_indexed.specs.Loading.{IsFooterRead, IsIndexRead, IsKept, IsRefused as IsUnloaded}
use Rattle.mg_indexed.specs.NumberKeys.{number_keys}
use Rattle.mg_indexed.specs.declared.footer.Footer.{Footer}
use Rattle.mg_indexed.specs.declared.handle.BlockHandle.{BlockHandle}
use Rattle.mg_records.specs.Reading.{Agrees}

-- something that stands in this file is damaged or malformed
abbrev pub IsUnfit : FileId → Fault → Type 0
IsUnfit id fault = (at : ℕ) × IsUnfitAt id at fault

-- the bytes end in a footer and in an index that may be kept of a file of blocks, and do not agree
abbrev pub IsApart : Form → FileId → List ℕ → Fault → Type 0
IsApart form id bytes fault = (footer : Footer) × (index : List (BlockHandle ℕ)) × IsFooterRead false id bytes footer × IsIndexRead number_keys id bytes footer index
    × IsKept number_keys form footer index × (Agrees footer index → ⊥) × (fault ≡ Malformed id (length bytes - footer_size false))

-- what the bytes are refused by, judged in this order: as each file of blocks is, and then as their footer and their index do not agree
abbrev pub IsRefused : {S : Type 0} → Form → FileId → S → ℕ → List ℕ → Fault → Type 0
IsRefused form id file len bytes fault = IsUnloaded number_keys form id file len bytes fault ⊎ ((length bytes ≡ len) × IsApart form id bytes fault)
