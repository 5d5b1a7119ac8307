-- What a flush, a merge and a cleaning make, each output as one filter, and the layouts to which they lead.
use Rattle.std.specs.Prelude.{◌≡◌, ◌≢◌, ◌<◌, ◌≤◌, ℕ, List, [], ◌∷◌, ◌++◌, take, map, Bool, not, nat_lt, ◌==◌}
use Rattle.std.specs.List.{AllByRecursion, filter}
use Rattle.mg_types.specs.declared.items.Dead.{Dead}
use Rattle.mg_types.specs.declared.items.Entry.{Entry}
use Rattle.mg_types.specs.declared.items.Item.{Item}
use Rattle.mg_model.specs.Mutations.{Mutations, items_of, live}
use Rattle.mg_core.specs.Lists.{Has, RisesBy, SameMembers, Within, newest_by, occurs, times}
use Rattle.mg_core.specs.Layouts.{IsRun, Layout, Run, Spans, dead_of, entries_of, entry_of}

-- the newest mutation of each key among those above `lo` up to `hi`, in the order of their numbers
abbrev pub fresh : Mutations → ℕ → ℕ → List Item
fresh m lo hi = filter (λ i. nat_lt lo i.seq) (live (take hi m))

-- a mutation is the newest of its key among those above `above` up to `upto`
pub record IsFresh (m : Mutations) (above upto : ℕ) (i : Item) : Type 0 where
  pub held : Has (items_of m) i
  pub begins : above < i.seq
  pub ends : i.seq ≤ upto
  pub newest : (j : Item) → Has (items_of m) j → j.key ≡ i.key → j.seq ≤ upto → j.seq ≤ i.seq

-- items may be flushed as those above `above` up to `upto`: their numbers lie there, and each key has one
pub record MayBeFlushed (items : List Item) (above upto : ℕ) : Type 0 where
  pub within : (i : Item) → Has items i → (above < i.seq) × (i.seq ≤ upto)
  pub keys : (i j : Item) → Has items i → Has items j → i.key ≡ j.key → i ≡ j

-- a run and a segment are what a flush makes of these items, as those above `above` up to `upto`
pub record IsFlushOf (items : List Item) (above upto : ℕ) (run : Run) (segment : List Item) : Type 0 where
  pub begins : run.lo ≡ above
  pub ends : run.hi ≡ upto
  pub is_run : IsRun run
  pub entries : SameMembers run.entries (map entry_of items)
  pub kept : segment ≡ items

-- a run and a segment are what a flush makes of the mutations above `above` up to `upto`
abbrev pub IsFlush : Mutations → ℕ → ℕ → Run → List Item → Type 0
IsFlush m above upto run segment = IsFlushOf (fresh m above upto) above upto run segment

-- the layout with a run and a segment newer than all others
abbrev pub with_flush : Layout → Run → List Item → Layout
with_flush l run segment = record { runs = run ∷ l.runs; segments = l.segments ++ segment ∷ []; deletes = l.deletes }

-- whether an entry is the newest of its key among some entries
abbrev pub is_kept : List Entry → Entry → Bool
is_kept entries e = newest_by (λ e. e.key) (λ e. e.seq) entries e.key == e.seq

-- runs may be merged: there are some, they are neighbours, and no number occurs twice among their replaced entries
pub record MayBeMerged (inputs : List Run) (hi lo : ℕ) : Type 0 where
  pub some : inputs ≢ []
  pub runs : AllByRecursion IsRun inputs
  pub interval : Spans hi lo inputs
  pub once : (n : ℕ) → times (λ e. e.seq) n (filter (λ e. not (is_kept (entries_of inputs) e)) (entries_of inputs)) ≤ 1

-- A run and a delete list are what a merge makes of runs that are neighbours: the newest entry of each key, and a delete entry for
-- each other one.
pub record IsMerge (inputs : List Run) (run : Run) (dead : List Dead) : Type 0 where
  pub some : inputs ≢ []
  pub interval : Spans run.hi run.lo inputs
  pub is_run : IsRun run
  pub entries : SameMembers run.entries (filter (is_kept (entries_of inputs)) (entries_of inputs))
  pub rising : RisesBy (λ d. d.seq) dead
  pub deletes : SameMembers dead (map dead_of (filter (λ e. not (is_kept (entries_of inputs) e)) (entries_of inputs)))

-- the layout with one run between the newer and the older ones, and with these delete entries beside the others
abbrev pub with_merge : Layout → List Run → Run → List Run → List Dead → Layout
with_merge l newer run older dead = record { runs = newer ++ run ∷ older; segments = l.segments; deletes = dead ++ l.deletes }

-- some delete entries are the chosen ones and the others together, each number as often
pub record Divides (deletes chosen others : List Dead) : Type 0 where
  pub members : Within (chosen ++ others) deletes
  pub numbers : (n : ℕ) → times (λ d. d.seq) n (chosen ++ others) ≡ times (λ d. d.seq) n deletes

-- delete entries may be chosen: no number occurs twice among them
abbrev pub MayBeChosen : List Dead → Type 0
MayBeChosen chosen = (n : ℕ) → times (λ d. d.seq) n chosen ≤ 1

-- A segment and a delete list are what a cleaning makes of the records of segments that are neighbours, and of chosen delete
-- entries: the records that no chosen entry names, and the chosen entries that name none of these records.
pub record IsClean (records : List Item) (chosen : List Dead) (segment : List Item) (rest : List Dead) : Type 0 where
  pub kept : segment ≡ filter (λ r. not (occurs (λ d. d.seq) chosen r.seq)) records
  pub rising : RisesBy (λ d. d.seq) rest
  pub deletes : SameMembers rest (filter (λ d. not (occurs (λ r. r.seq) records d.seq)) chosen)

-- a file for these records, or none where there are none
abbrev pub unless_empty : {X : Type 0} → List X → List (List X)
unless_empty [] = []
unless_empty (x ∷ xs) = (x ∷ xs) ∷ []

-- the layout with one segment at most between the older and the newer ones, and with these delete entries in place of the chosen
abbrev pub with_clean : Layout → List (List Item) → List Item → List (List Item) → List Dead → List Dead → Layout
with_clean l older segment newer rest others = record { runs = l.runs; segments = older ++ (unless_empty segment ++ newer); deletes = rest ++ others }
