-- What contracts see of memtables, and which mutations of a list one has.
use Rattle.std.specs.Prelude.{◌≡◌, ℕ, ◌+◌, ◌<◌, ◌≤◌, ◌^◌, List, length, map, IfSome, sum_by}
use Rattle.std.specs.BTreeMap.{BTreeMap}
use Rattle.std.specs.Cmp.Lexicographic.{slice_cmp}
use Rattle.std.specs.List.{AllByRecursion}
use Rattle.std.specs.List.Sorted.{IsStrictlySortedBy}
use Rattle.std.specs.Ordering.{nat_cmp}
use Rattle.mg_types.specs.Bytes.{IsDoc, IsKey}
use Rattle.mg_types.specs.Items.{size_of}
use Rattle.mg_types.specs.declared.items.Item.{Item}
use Rattle.mg_types.specs.declared.keys.Key.{Key}
use Rattle.mg_model.specs.Mutations.{Mutations}
use Rattle.mg_core.specs.Lists.{Has, SameMembers, times}
use Rattle.mg_core.specs.Results.{fresh}

-- the items of an interval, which begins above `lo` and ends at `hi`
pub record Memtable : Type 0 where
  pub lo : ℕ
  pub hi : ℕ
  pub items : List Item

-- a memtable that takes no more writes, and how many changes its partition had made when it was frozen
pub record FrozenMemtable : Type 0 where
  pub lo : ℕ
  pub hi : ℕ
  pub change : ℕ
  pub items : List Item

-- what a memtable is as a frozen one
abbrev pub frozen_at : Memtable → ℕ → FrozenMemtable
frozen_at t change = record { lo = t.lo; hi = t.hi; change = change; items = t.items }

-- what a frozen memtable was when it was frozen
abbrev pub thawed : FrozenMemtable → Memtable
thawed t = record { lo = t.lo; hi = t.hi; items = t.items }

-- a mutation as a call may write it: its number is one that calls give, and its key and document are as long as they may be
pub record IsWritten (i : Item) : Type 0 where
  pub some : 1 ≤ i.seq
  pub small : i.seq < 2 ^ 40
  pub key : IsKey i.key
  pub doc : IfSome i.doc (λ doc. IsDoc doc)

-- The keys of a memtable's items strictly rise. Their numbers lie in its interval, and no number occurs twice.
pub record IsMemtable (t : Memtable) : Type 0 where
  pub keys : IsStrictlySortedBy (slice_cmp nat_cmp) (map (λ i. i.key) t.items)
  pub within : (i : Item) → Has t.items i → (t.lo < i.seq) × (i.seq ≤ t.hi)
  pub once : (n : ℕ) → times (λ i. i.seq) n t.items ≤ 1
  pub few : t.lo + length t.items ≤ t.hi
  pub written : (i : Item) → Has t.items i → IsWritten i

-- the bytes and the map that are kept of a memtable: each item stands under its key, and the bytes are those of all items
pub record IsKept (t : Memtable) (bytes : ℕ) (map : BTreeMap Key Item) : Type 0 where
  pub keyed : AllByRecursion (λ e. e.0 ≡ e.1.key) map.entries
  pub bytes_are : bytes ≡ sum_by size_of t.items
  pub memtable : IsMemtable t

-- a memtable has the newest mutation of each key in its interval of the list
pub record HoldsNewest (m : Mutations) (t : Memtable) : Type 0 where
  pub rises : t.lo ≤ t.hi
  pub inside : t.hi ≤ length m
  pub items : SameMembers t.items (fresh m t.lo t.hi)
