-- The block in which a number is sought.
use Rattle.std.specs.Prelude.{◌≡◌, ℕ, List, Option, Some, None}
use Rattle.mg_records.specs.File.{block_of, record_of}
use Rattle.mg_records.specs.Record.{Kind}

-- the body is that of a block with the same record of this number as all records, or there is no body, and no record of this number
abbrev pub IsBlockFor : {T : Type 0} → Kind T → ℕ → List T → Option (List ℕ) → Type 0
IsBlockFor kind number records None = record_of kind number records ≡ None
IsBlockFor {T} kind number records (Some body) =
    (block : List T) × (body ≡ block_of kind block) × (record_of kind number block ≡ record_of kind number records)
