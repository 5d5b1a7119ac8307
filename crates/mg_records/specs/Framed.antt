-- How long the frames of blocks of records are.
use Rattle.std.specs.Prelude.{◌≡◌, ◌+◌, List, length, false}
use Rattle.std.specs.List.{AllByRecursion}
use Rattle.mg_sealed.specs.Filling.{Fits}
use Rattle.mg_indexed.specs.Forms.{Form, IsFrameLength}
use Rattle.mg_records.specs.File.{block_of}
use Rattle.mg_records.specs.Record.{Kind, IsRecord}

-- What each kind keeps of its files: they have no filter, and a block of its records has a frame as long as one of its files may be.
pub record IsFramed {T : Type 0} (kind : Kind T) (form : Form) : Type 0 where
  pub unfiltered : form.filtered ≡ false
  pub frames : (block : List T) → AllByRecursion (IsRecord kind) block → Fits (block_of kind) block → IsFrameLength form (length (block_of kind block) + 20)
