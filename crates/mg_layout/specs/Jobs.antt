-- What contracts see of the work of flushes, merges and cleanings, and of what they made.
use Rattle.std.specs.Prelude.{ℕ, List, Option}
use Rattle.mg_mem.specs.Memtable.{FrozenMemtable}
use Rattle.mg_records.specs.Writing.{Filed}
use Rattle.mg_layout.specs.Files.{RunFile}

-- a memtable to be flushed: its partition, and the first of the two file numbers that the flush may take
pub record FlushWork : Type 0 where
  pub part : ℕ
  pub memtable : FrozenMemtable
  pub first : ℕ

-- runs to be merged, the newest first: their partition, and the first of the two file numbers that the merge may take
pub record MergeWork (S : Type 0) : Type 0 where
  pub part : ℕ
  pub runs : List (RunFile S)
  pub first : ℕ

-- segments to be cleaned, the oldest first, with delete lists: their partition, and the first of the two file numbers that the
-- cleaning may take
pub record CleanWork (S : Type 0) : Type 0 where
  pub part : ℕ
  pub segments : List (Filed S)
  pub deletes : List (Filed S)
  pub first : ℕ

-- what a flush took and made
pub record FlushFiles (S : Type 0) : Type 0 where
  pub work : FlushWork
  pub run : RunFile S
  pub segment : Filed S

-- what a merge took and made; there is no delete list where no entry was replaced
pub record MergeFiles (S : Type 0) : Type 0 where
  pub work : MergeWork S
  pub run : RunFile S
  pub deletes : Option (Filed S)

-- what a cleaning took and made; there is no segment where no record is left, and no delete list where no delete entry is
pub record CleanFiles (S : Type 0) : Type 0 where
  pub work : CleanWork S
  pub segment : Option (Filed S)
  pub deletes : Option (Filed S)
