-- What is read of the footer and the index of a file of records.
use Rattle.std.specs.Prelude.{◌≡◌, ℕ, ◌≤◌, List, length, false}
use Rattle.mg_indexed.specs.Footer.{footer_size}
use Rattle.mg_indexed.specs.Forms.{Form}
use Rattle.mg_indexed.specs.Index.{first_after}
use Rattle.mg_indexed.specs.Loading.{IsFooterRead, IsIndexRead, IsKept as AreKept}
use Rattle.mg_indexed.specs.NumberKeys.{number_keys}
use Rattle.mg_indexed.specs.declared.footer.Footer.{Footer}
use Rattle.mg_indexed.specs.declared.handle.BlockHandle.{BlockHandle}
use Rattle.mg_records.specs.Indexes.{first_of}
use Rattle.mg_records.specs.Writing.{Filed}

-- a footer and an index have the same first number, and no block begins behind the last one
pub record Agrees (footer : Footer) (index : List (BlockHandle ℕ)) : Type 0 where
  pub first : first_of index ≡ footer.low
  pub last : first_after 0 index ≤ footer.high

-- a footer and an index that may be kept of a file
pub record IsKept (form : Form) (footer : Footer) (index : List (BlockHandle ℕ)) : Type 0 where
  pub whole : AreKept number_keys form footer index
  pub agrees : Agrees footer index

-- The footer and the index that are kept of a file are those of these bytes, as is its length.
pub record IsRead {S : Type 0} (form : Form) (bytes : List ℕ) (filed : Filed S) : Type 0 where
  pub len : filed.file.len ≡ length bytes
  pub least : footer_size false ≤ length bytes
  pub footer : IsFooterRead false filed.file.id bytes filed.footer
  pub index : IsIndexRead number_keys filed.file.id bytes filed.footer filed.index
  pub kept : IsKept form filed.footer filed.index
