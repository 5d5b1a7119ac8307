-- Where a store stands.
use Rattle.std.specs.Prelude.{◌≡◌, ◌<◌, ℕ, List, get_or}
use Rattle.mg_model.specs.Placed.{calls_in, state_in, Placed}
use Rattle.mg_model.specs.State.{new_state}
use Rattle.mg_recover.specs.declared.partition.Partition.{Partition}
use Rattle.mg_recover.specs.declared.store.Store.{Store}
use Rattle.mg_recover.specs.Made.{opened_by, run_changes, all_changes, AreMade}
use Rattle.mg_wal.specs.Book.{parts_in, synced_of, Book}
use Rattle.mg_wal.specs.Lists.{Basis, Books}
use Rattle.mg_wal.specs.States.{book_of, volume_of}

-- a partition to which nothing has happened
abbrev pub new_partition : Partition
new_partition = record { plain = new_state; places = 0 }

-- the partition of this number
abbrev pub part_at : List Partition → ℕ → Partition
part_at partitions part = get_or partitions part new_partition

-- the partitions of a store
abbrev pub partitions_of : {V A B C D : Type 0} {volume : _} {files : _} → Store V A B C D volume files → List Partition
partitions_of store = store.partitions.items

-- the book of a store's log
abbrev pub log_book : {V A B C D : Type 0} {volume : _} {files : _} → Store V A B C D volume files → Book
log_book store = book_of store.log

-- the volume of a store
abbrev pub log_volume : {V A B C D : Type 0} {volume : _} {files : _} → Store V A B C D volume files → V
log_volume store = volume_of store.log

-- The log has all changes, none of them is released, and each partition stands where the placed calls of the run led what
-- the opening found.
pub record Stands (basis : Basis) (placed : List Placed) (book : Book) (partitions : List Partition) : Type 0 where
  pub books : Books basis (run_changes basis placed) book
  pub whole : (part : ℕ) → get_or basis.low part 0 ≡ 0
  pub kept : (part : ℕ) → get_or book.released part 0 ≡ 0
  pub made : AreMade (all_changes basis placed)
  pub states : (part : ℕ) → part < parts_in book → (part_at partitions part).plain ≡ state_in (opened_by basis) placed part
  pub places : (part : ℕ) → part < parts_in book → (part_at partitions part).places ≡ calls_in placed part

-- each change is synced
abbrev pub AllSynced : Book → Type 0
AllSynced book = synced_of book ≡ book.last
