-- Layouts, and what it means that one stands for a mutation list.
use Rattle.std.specs.Prelude.{◌≡◌, ◌≢◌, ℕ, ◌+◌, ◌<◌, ◌≤◌, List, [], ◌∷◌, length, map, not}
use Rattle.std.specs.Cmp.Lexicographic.{slice_cmp}
use Rattle.std.specs.List.{AllByRecursion, flat_map}
use Rattle.std.specs.List.Sorted.{IsStrictlySortedBy}
use Rattle.std.specs.Ordering.{nat_cmp}
use Rattle.mg_types.specs.declared.items.Dead.{Dead}
use Rattle.mg_types.specs.declared.items.Entry.{Entry}
use Rattle.mg_types.specs.declared.items.Item.{Item}
use Rattle.mg_types.specs.Items.{is_set, size_of}
use Rattle.mg_model.specs.Mutations.{Mutations, items_of, live}
use Rattle.mg_core.specs.Lists.{Has, RisesBy, Within, times}

-- what the index has of a mutation
abbrev pub entry_of : Item → Entry
entry_of i = record { key = i.key; seq = i.seq; size = size_of i; gone = not (is_set i) }

-- what a delete list has of a mutation, by its entry in the index
abbrev pub dead_of : Entry → Dead
dead_of e = record { seq = e.seq; size = e.size }

-- the entries of the index for the mutations of an interval, which begins above `lo` and ends at `hi`
pub record Run : Type 0 where
  pub lo : ℕ
  pub hi : ℕ
  pub entries : List Entry

-- runs from the newest to the oldest, segments of records from the oldest to the newest, and the entries of all delete lists
pub record Layout : Type 0 where
  pub runs : List Run
  pub segments : List (List Item)
  pub deletes : List Dead

-- the layout that has nothing
abbrev pub empty_layout : Layout
empty_layout = record { runs = []; segments = []; deletes = [] }

-- the entries of some runs
abbrev pub entries_of : List Run → List Entry
entries_of runs = flat_map (λ run. run.entries) runs

-- the records of some segments
abbrev pub records_of : List (List Item) → List Item
records_of segments = flat_map (λ segment. segment) segments

-- a run has entries of its interval alone, and their keys strictly rise
pub record IsRun (run : Run) : Type 0 where
  pub keys : IsStrictlySortedBy (slice_cmp nat_cmp) (map (λ e. e.key) run.entries)
  pub within : (e : Entry) → Has run.entries e → (run.lo < e.seq) × (e.seq ≤ run.hi)

-- The intervals of some runs are neighbours that fall from the newest to the oldest, none is empty, and together they are the
-- interval above `lo` up to `hi`.
abbrev pub Spans : ℕ → ℕ → List Run → Type 0
Spans hi lo [] = hi ≡ lo
Spans hi lo (run ∷ runs) = (run.hi ≡ hi) × (run.lo < run.hi) × Spans run.lo lo runs

-- Entries, records and delete entries agree on a mutation list. A record that only a delete entry names need not be a mutation of
-- the list: nothing leads to it.
pub record Agree (entries : List Entry) (records : List Item) (deletes : List Dead) (m : Mutations) : Type 0 where
  -- each entry is that of a mutation
  pub entered : Within entries (map entry_of (items_of m))
  -- the newest mutation of each key has its entry
  pub newest : Within (map entry_of (live m)) entries
  -- the numbers of records strictly rise
  pub rising : RisesBy (λ r. r.seq) records
  pub bound : (r : Item) → Has records r → (1 ≤ r.seq) × (r.seq ≤ length m)
  -- a record with the number of an entry is a mutation
  pub recorded : (r : Item) (e : Entry) → Has records r → Has entries e → r.seq ≡ e.seq → Has (items_of m) r
  -- the numbers of records are those of entries together with those of delete entries, each as often
  pub numbers : (n : ℕ) → times (λ r. r.seq) n records ≡ times (λ e. e.seq) n entries + times (λ d. d.seq) n deletes
  -- no delete entry has the number of a key's newest mutation
  pub replaced : (i : Item) (d : Dead) → Has (live m) i → Has deletes d → i.seq ≢ d.seq
  -- each delete entry has the size of the record that it names
  pub sizes : Within deletes (map (λ r. dead_of (entry_of r)) records)

-- A layout stands for a mutation list: its runs together are the whole interval of the list, and its entries, records and delete
-- entries agree on it.
pub record Stands (l : Layout) (m : Mutations) : Type 0 where
  pub runs : AllByRecursion IsRun l.runs
  pub intervals : Spans (length m) 0 l.runs
  pub agree : Agree (entries_of l.runs) (records_of l.segments) l.deletes m

-- a layout that stands for a list with one run, one segment and no delete entry at most
pub record Tight (l : Layout) (m : Mutations) : Type 0 where
  pub stands : Stands l m
  pub runs : length l.runs ≤ 1
  pub segments : length l.segments ≤ 1
  pub deletes : l.deletes ≡ []
