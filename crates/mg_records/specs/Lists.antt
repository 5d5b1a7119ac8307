-- Files and lists of records determine each other.
use Rattle.std.specs.Prelude.{◌≡◌, ℕ, List}
use Rattle.mg_records.specs.File.{IsFile}
use Rattle.mg_records.specs.Record.{Kind}

-- bytes are the file of one list of records
abbrev pub OneList : {T : Type 0} → Kind T → Type 0
OneList {T} kind = (bytes : List ℕ) (records others : List T) → IsFile kind bytes records → IsFile kind bytes others → records ≡ others

-- a list of records has one file
abbrev pub OneFileOfList : {T : Type 0} → Kind T → Type 0
OneFileOfList {T} kind = (bytes others : List ℕ) (records : List T) → IsFile kind bytes records → IsFile kind others records → bytes ≡ others
