-- What it means that files hold what a flush, a merge and a cleaning make, and the layouts of files to which they lead.
use Rattle.std.specs.Prelude.{◌≡◌, ◌≢◌, ℕ, List, [], ◌∷◌, ◌++◌, Option, None, Some}
use Rattle.std.specs.Option.{option_to_list}
use Rattle.mg_records.specs.DeadRecord.{dead_kind}
use Rattle.mg_records.specs.ItemRecord.{item_kind}
use Rattle.mg_records.specs.Writing.{Filed, Represents}
use Rattle.mg_types.specs.declared.items.Dead.{Dead}
use Rattle.mg_types.specs.declared.items.Item.{Item}
use Rattle.mg_core.specs.Layouts.{Run, records_of}
use Rattle.mg_core.specs.Lists.{RisesBy, SameMembers}
use Rattle.mg_core.specs.Results.{IsClean, IsFlushOf, IsMerge}
use Rattle.mg_layout.specs.Files.{LayoutFiles, RunFile}
use Rattle.mg_layout.specs.Holding.{HoldsDeletes, HoldsRun, HoldsRuns, HoldsSegments}

-- the segment has these records, or there is none and they are none
abbrev pub HoldsRecords : {S : Type 0} → (S → Option (List ℕ)) → Option (Filed S) → List Item → Type 0
HoldsRecords told None records = records ≡ []
HoldsRecords told (Some file) records = (records ≢ []) × Represents item_kind told file records

-- the delete list has these entries, or there is none and they are none
abbrev pub HoldsDead : {S : Type 0} → (S → Option (List ℕ)) → Option (Filed S) → List Dead → Type 0
HoldsDead told None dead = dead ≡ []
HoldsDead told (Some file) dead = Represents dead_kind told file dead

-- A run and a segment hold what a flush makes of these items, as those above `above` up to `upto`: the segment has them in the
-- order of their numbers, and the run their entries in the order of their keys.
pub record IsFlushMade {S : Type 0} (told : S → Option (List ℕ)) (items : List Item) (above upto : ℕ) (file : RunFile S) (segment : Filed S) : Type 0 where
  pub run : Run
  pub records : List Item
  pub has_run : HoldsRun told file run
  pub has_records : Represents item_kind told segment records
  pub members : SameMembers records items
  pub rising : RisesBy (λ r. r.seq) records
  pub flushed : IsFlushOf records above upto run records

-- A run and a delete list hold what a merge of these runs makes, whatever these hold.
abbrev pub IsMergeMade : {S : Type 0} → (S → Option (List ℕ)) → List (RunFile S) → RunFile S → Option (Filed S) → Type 0
IsMergeMade told inputs file deletes =
    (runs : List Run) → HoldsRuns told inputs runs → (run : Run) × (dead : List Dead) × HoldsRun told file run × HoldsDead told deletes dead × IsMerge runs run dead

-- A segment and a delete list hold what a cleaning of these segments with these delete lists makes, whatever these hold.
abbrev pub IsCleanMade : {S : Type 0} → (S → Option (List ℕ)) → List (Filed S) → List (Filed S) → Option (Filed S) → Option (Filed S) → Type 0
IsCleanMade told segments lists segment rest =
    (inputs : List (List Item)) (chosen : List Dead) → HoldsSegments told segments inputs → HoldsDeletes told lists chosen
    → (records : List Item) × (left : List Dead) × HoldsRecords told segment records × HoldsDead told rest left × IsClean (records_of inputs) chosen records left

-- the layout of files with a run and a segment newer than all others
abbrev pub with_flushed : {S : Type 0} → LayoutFiles S → RunFile S → Filed S → LayoutFiles S
with_flushed files run segment = record { runs = run ∷ files.runs; segments = files.segments ++ segment ∷ []; deletes = files.deletes }

-- the layout of files with one run between the newer and the older ones, and with a delete list before the others
abbrev pub with_merged : {S : Type 0} → LayoutFiles S → List (RunFile S) → RunFile S → List (RunFile S) → Option (Filed S) → LayoutFiles S
with_merged files newer run older list = record { runs = newer ++ run ∷ older; segments = files.segments; deletes = option_to_list list ++ files.deletes }

-- The layout of files with one segment at most between the older and the newer ones, and with one delete list at most in place of
-- those between the lists before and after.
abbrev pub with_cleaned : {S : Type 0} → LayoutFiles S → List (Filed S) → Option (Filed S) → List (Filed S) → Option (Filed S) → List (Filed S) → List (Filed S) → LayoutFiles S
with_cleaned files older segment newer list before after =
    record { runs = files.runs; segments = older ++ (option_to_list segment ++ newer); deletes = option_to_list list ++ (before ++ after) }
