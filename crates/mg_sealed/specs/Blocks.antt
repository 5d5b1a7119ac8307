-- What is read of a block of a sealed file, whose place and length an index says.
use Rattle.std.specs.Prelude.{◌≡◌, ℕ, ◌+◌, ◌⊎◌, ◌==◌, List, length, if◌then◌else◌, Result, Ok, Err}
use Rattle.mg_types.specs.declared.faults.Fault.{Fault}
use Rattle.mg_types.specs.declared.faults.Fault.TheVariants.{Malformed}
use Rattle.mg_types.specs.declared.names.FileId.{FileId}
use Rattle.mg_sealed.specs.Reading.{frame_body, IsDamageAt}

-- a block's body that was read at this place, or what is wrong there: the whole frame has the length that the index says
abbrev pub judged_block : FileId → ℕ → ℕ → Result (List ℕ) Fault → Result (List ℕ) Fault
judged_block id at len (Err fault) = Err fault
judged_block id at len (Ok body) = if length body + 20 == len then Ok body else Err (Malformed id at)

-- the body of the block of this number, whose frame of this whole length stands at this place, or what is damaged or malformed there
unfoldable pub block_body : FileId → List ℕ → ℕ → ℕ → ℕ → Result (List ℕ) Fault
block_body id bytes at len number = judged_block id at len (frame_body id bytes at number)

-- what stands at this place of the file is damaged or malformed
abbrev pub IsUnfitAt : FileId → ℕ → Fault → Type 0
IsUnfitAt id at fault = IsDamageAt id at fault ⊎ (fault ≡ Malformed id at)
