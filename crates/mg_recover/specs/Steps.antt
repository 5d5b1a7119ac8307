-- What a call makes of its partition and of the log, and the place that it takes.
use Rattle.std.specs.Prelude.{◌≡◌, ◌≢◌, ◌≤◌, ℕ, ◌+◌, List, [], ◌∷◌, ◌++◌, Bool, true, false, Option, None, Some, Result, Ok, Err, IfErr, OnOk, ⊤, ◌==◌}
use Rattle.mg_disk.specs.Images.{View}
use Rattle.mg_types.specs.declared.faults.Fault.{Fault}
use Rattle.mg_model.specs.declared.calls.Call.{Call}
use Rattle.mg_model.specs.declared.calls.Call.TheVariants.{Set, Del, Sync}
use Rattle.mg_model.specs.declared.calls.Change.{Change}
use Rattle.mg_model.specs.declared.calls.Change.TheVariants as change
use Rattle.mg_model.specs.declared.replies.Answer.{Answer}
use Rattle.mg_model.specs.declared.replies.Reply.{Reply}
use Rattle.mg_model.specs.declared.replies.Reply.TheVariants as reply
use Rattle.mg_model.specs.State.{step, HasRoom, State}
use Rattle.mg_recover.specs.declared.partition.Partition.{Partition}
use Rattle.mg_recover.specs.Answers.{IsCallFault}
use Rattle.mg_recover.specs.Stores.{part_at, AllSynced}
use Rattle.mg_wal.specs.Book.{parts_in, Book, Entry}
use Rattle.mg_wal.specs.Lists.{Basis, Books}
use Rattle.mg_wal.specs.Stories.{Reaches}

-- whether a call takes a place: it was answered without a fault, or only reads
abbrev pub takes_place : Bool → Result Reply Fault → Bool
takes_place reads (Ok reply) = true
takes_place reads (Err f) = reads

-- the place behind so many others, where one is taken
abbrev pub place_behind : Bool → ℕ → Option ℕ
place_behind true places = Some (places + 1)
place_behind false places = None

-- how many places are taken then
abbrev pub places_behind : Bool → ℕ → ℕ
places_behind true places = places + 1
places_behind false places = places

-- the answer to a call, behind so many places
abbrev pub placed_answer : Bool → Result Reply Fault → ℕ → Answer
placed_answer reads given places = record { place = place_behind (takes_place reads given) places; result = given }

-- a call that is neither a set nor a delete
abbrev pub IsNoWrite : Call → Type 0
IsNoWrite (Set key doc) = ⊥
IsNoWrite (Del key) = ⊥
IsNoWrite other = ⊤

-- whether the reply to a change's call shows that this change was made, and not none or another
abbrev pub shows_made : Change → Reply → Bool
shows_made change.Mark (reply.Full kept) = false
shows_made (change.Forget mark) (reply.NoMark none) = false
shows_made (change.Back mark) (reply.Back found epoch) = mark == found
shows_made (change.Back mark) other = false
shows_made what other = true

-- what a call makes of a list: its step, and nothing where it met a fault
abbrev pub IsStep : State → Call → Result Reply Fault → State → Type 0
IsStep s call (Ok reply) s' = HasRoom s call × (step s call ≡ record { state = s'; reply = reply })
IsStep s call (Err f) s' = s' ≡ s

-- the change that a call made, with its partition
abbrev pub made_by : ℕ → Call → Result Reply Fault → List Entry
made_by part (Set key doc) (Ok reply) = (part, change.Set key doc) ∷ []
made_by part (Del key) (Ok reply) = (part, change.Del key) ∷ []
made_by part other given = []

-- kept for every list for which the book stood, where the list has these entries more
abbrev pub KeepsBooksBy : List Entry → Book → Book → Type 0
KeepsBooksBy entries old new = (basis : Basis) (list : List Entry) → Books basis list old → Books basis (list ++ entries) new

-- and for every moment and every reach with which the state stood before
abbrev pub KeepsReachBy : List Entry → Book → Book → View → View → Type 0
KeepsReachBy entries old new view view' =
    (basis : Basis) (list : List Entry) (time reach : ℕ) → Books basis list old → Reaches basis list time reach old view → Reaches basis (list ++ entries) time reach new view'

-- the greatest number of a log stays, or rises by one, and what is synced stays so
abbrev pub TriesOne : Book → Book → Type 0
TriesOne old new = (old.newest ≤ new.newest) × (new.newest ≤ old.newest + 1) × (old.reach ≤ new.reach)

-- the greatest number of a log, and what is synced: a sync tries one log at most, and each other call leaves both
abbrev pub Tries : Call → Book → Book → Type 0
Tries Sync old new = TriesOne old new
Tries other old new = (new.newest ≡ old.newest) × (new.reach ≡ old.reach)

-- What a call gave, and where the log and the partitions stand then, before the call takes its place.
pub record Gives (part : ℕ) (call : Call) (given : Result Reply Fault) (old new : Book) (was now : List Partition) : Type 0 where
  pub parts : parts_in new ≡ parts_in old
  pub released : new.released ≡ old.released
  pub tries : Tries call old new
  pub books : KeepsBooksBy (made_by part call given) old new
  pub step : IsStep (part_at was part).plain call given (part_at now part).plain
  pub places : (part_at now part).places ≡ (part_at was part).places
  pub others : (other : ℕ) → other ≢ part → part_at now other ≡ part_at was other
  pub fault : IfErr given (IsCallFault old part (part_at was part).plain call)
  pub synced : call ≡ Sync → OnOk given (AllSynced new)
