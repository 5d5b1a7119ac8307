-- What a store answers to a call, and where it stands then.
use Rattle.std.specs.Prelude.{◌≡◌, ◌⊎◌, ℕ, ◌+◌, List, ◌++◌, map, ⊤, Some, Ok, IfErr, IfSome, OnOk}
use Rattle.mg_disk.specs.Images.{View}
use Rattle.mg_types.specs.declared.faults.Fault.{Fault}
use Rattle.mg_types.specs.declared.faults.Fault.TheVariants as fault
use Rattle.mg_model.specs.declared.calls.Call.{Call}
use Rattle.mg_model.specs.declared.calls.Call.TheVariants.{Set, Del, Get, Feed, Mark, Forget, Rollback, Clear, Sync, Compact, Stats}
use Rattle.mg_model.specs.declared.replies.Answer.{Answer}
use Rattle.mg_model.specs.declared.replies.Reply.TheVariants as reply
use Rattle.mg_model.specs.Fits.{entry_of, Fits}
use Rattle.mg_model.specs.Placed.{calls_in, history_in, state_in, Opening, Placed}
use Rattle.mg_model.specs.State.{worn, HasRoom, State}
use Rattle.mg_recover.specs.declared.partition.Partition.{Partition}
use Rattle.mg_recover.specs.Made.{opened_by, run_changes}
use Rattle.mg_recover.specs.Stores.{AllSynced, Stands}
use Rattle.mg_wal.specs.Book.{Book, HasUnsynced, IsWorn}
use Rattle.mg_wal.specs.Lists.{Basis}
use Rattle.mg_wal.specs.Stories.{Reaches}
use Rattle.mg_wal.specs.Syncs.{IsSpent}

-- a call that a store serves
abbrev pub IsServed : Call → Type 0
IsServed (Set key doc) = ⊤
IsServed (Del key) = ⊤
IsServed (Get key) = ⊤
IsServed (Feed epoch after limit) = ⊤
IsServed Mark = ⊥
IsServed (Forget mark) = ⊥
IsServed (Rollback to) = ⊥
IsServed Clear = ⊥
IsServed Sync = ⊤
IsServed (Compact through) = ⊥
IsServed Stats = ⊤

-- what a call and its answer enter among the placed calls: nothing where the call has no place
abbrev pub placed_for : ℕ → ℕ → Call → Answer → List Placed
placed_for part client call answer = map (λ e. record { part = part; client = e.0; call = e.1 }) (entry_of client call answer)

-- The next answer fits its partition's history, with this call as the last.
pub record AnswersNext (opening : Opening) (before : List Placed) (part client : ℕ) (call : Call) (answer : Answer) : Type 0 where
  pub fits : Fits (opening part) (history_in (before ++ placed_for part client call answer) part) call answer
  pub last : IfSome answer.place (λ place. place ≡ calls_in before part + 1)

-- the call would raise this number past its limit
abbrev pub IsAtLimit : State → Call → Fault → Type 0
IsAtLimit s call f = (kept : ℕ) × (worn s call ≡ Some kept) × (f ≡ fault.Worn kept)

-- why a change of a partition in this state may be refused: want of memory, a number of the partition at its limit, or else one of the log
abbrev pub IsChangeFault : Book → ℕ → State → Call → Fault → Type 0
IsChangeFault book part s call f = (f ≡ fault.NoMemory) ⊎ IsAtLimit s call f ⊎ (HasRoom s call × IsWorn book part f)

-- why a sync of what is unsynced may fail: want of memory, a failed write, or no number for another log
abbrev pub IsSyncFault : Book → Fault → Type 0
IsSyncFault book f = HasUnsynced book × ((f ≡ fault.NoMemory) ⊎ (f ≡ fault.WriteFault) ⊎ (IsSpent book × (f ≡ fault.Worn book.newest)))

-- the faults that a call may be answered, of a partition in this state
abbrev pub IsCallFault : Book → ℕ → State → Call → Fault → Type 0
IsCallFault book part s (Set key doc) f = IsChangeFault book part s (Set key doc) f
IsCallFault book part s (Del key) f = IsChangeFault book part s (Del key) f
IsCallFault book part s Sync f = IsSyncFault book f
IsCallFault book part s call f = f ≡ fault.NoMemory

-- A call of a store was answered: where it stands then, that the answer fits, why it may be a fault, and that a sync made all
-- changes sure.
pub record IsAnswered (basis : Basis) (placed : List Placed) (part client : ℕ) (call : Call) (answer : Answer) (old new : Book) (partitions : List Partition) : Type 0 where
  pub stands : Stands basis (placed ++ placed_for part client call answer) new partitions
  pub next : AnswersNext (opened_by basis) placed part client call answer
  pub room : OnOk answer.result (HasRoom (state_in (opened_by basis) placed part) call)
  pub fault : IfErr answer.result (IsCallFault old part (state_in (opened_by basis) placed part) call)
  pub synced : answer.result ≡ Ok reply.Synced → AllSynced new

-- what each image since a moment reached stays reached, with the changes of these placed calls in place of those
abbrev pub CarriesReach : Basis → List Placed → List Placed → Book → Book → View → View → Type 0
CarriesReach basis placed placed' old new view view' = (time reach : ℕ) → Reaches basis (run_changes basis placed) time reach old view → Reaches basis (run_changes basis placed') time reach new view'
