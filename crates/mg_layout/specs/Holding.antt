-- What it means that files hold a run, segments, delete lists and a whole layout.
use Rattle.std.specs.Prelude.{◌≡◌, ℕ, List, Option, IsSome}
use Rattle.std.specs.List.{AllZip, flat_map}
use Rattle.mg_records.specs.DeadRecord.{dead_kind}
use Rattle.mg_records.specs.ItemRecord.{item_kind}
use Rattle.mg_records.specs.Writing as records
use Rattle.mg_records.specs.Writing.{Filed}
use Rattle.mg_table.specs.Table.{Represents}
use Rattle.mg_types.specs.declared.items.Dead.{Dead}
use Rattle.mg_types.specs.declared.items.Item.{Item}
use Rattle.mg_core.specs.Layouts.{Layout, Run}
use Rattle.mg_layout.specs.Files.{LayoutFiles, RunFile}

-- the bytes of each file are told
abbrev pub TellsAll : {S : Type 0} → (S → Option (List ℕ)) → Type 0
TellsAll {S} told = (file : S) → IsSome (told file)

-- the run's interval is this one's, and its table is that of this one's entries
pub record HoldsRun {S : Type 0} (told : S → Option (List ℕ)) (file : RunFile S) (run : Run) : Type 0 where
  pub lo : file.lo ≡ run.lo
  pub hi : file.hi ≡ run.hi
  pub entries : Represents told file.table run.entries

-- each run is that of these, in their order
abbrev pub HoldsRuns : {S : Type 0} → (S → Option (List ℕ)) → List (RunFile S) → List Run → Type 0
HoldsRuns told files runs = AllZip (HoldsRun told) files runs

-- each segment has these records, in their order
abbrev pub HoldsSegments : {S : Type 0} → (S → Option (List ℕ)) → List (Filed S) → List (List Item) → Type 0
HoldsSegments told files segments = AllZip (records.Represents item_kind told) files segments

-- these are the entries of the delete lists, list after list
abbrev pub HoldsDeletes : {S : Type 0} → (S → Option (List ℕ)) → List (Filed S) → List Dead → Type 0
HoldsDeletes told files deletes = (lists : List (List Dead)) × AllZip (records.Represents dead_kind told) files lists × (deletes ≡ flat_map (λ list. list) lists)

-- the files hold this layout
pub record HoldsLayout {S : Type 0} (told : S → Option (List ℕ)) (files : LayoutFiles S) (layout : Layout) : Type 0 where
  pub runs : HoldsRuns told files.runs layout.runs
  pub segments : HoldsSegments told files.segments layout.segments
  pub deletes : HoldsDeletes told files.deletes layout.deletes
