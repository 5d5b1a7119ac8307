-- What contracts see of a run and of a layout in files.
use Rattle.std.specs.Prelude.{ℕ, List}
use Rattle.mg_records.specs.Writing.{Filed}
use Rattle.mg_table.specs.declared.table.Table.{Table}

-- an interval, which begins above `lo` and ends at `hi`, and the table of its entries
pub record RunFile (S : Type 0) : Type 0 where
  pub lo : ℕ
  pub hi : ℕ
  pub table : Table S

-- runs from the newest to the oldest, segments from the oldest to the newest, and delete lists
pub record LayoutFiles (S : Type 0) : Type 0 where
  pub runs : List (RunFile S)
  pub segments : List (Filed S)
  pub deletes : List (Filed S)
