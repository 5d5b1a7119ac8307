-- Which answers fit a call, at any place of a partition's history.
use Rattle.std.specs.Prelude.{◌≡◌, ℕ, List, [], ◌∷◌, Bool, true, false, not, ◌&&◌, ⊤, IsTrue, Option, None, Some, Result, Ok, Err}
use Rattle.mg_types.specs.declared.faults.Fault.{Fault}
use Rattle.mg_types.specs.declared.faults.Fault.TheVariants as fault
use Rattle.mg_model.specs.declared.calls.Call.{Call}
use Rattle.mg_model.specs.declared.calls.Call.TheVariants.{Set, Del, Get, Feed, Mark, Forget, Rollback, Clear, Sync, Compact, Stats}
use Rattle.mg_model.specs.declared.replies.Answer.{Answer}
use Rattle.mg_model.specs.declared.replies.Reply.{Reply}
use Rattle.mg_model.specs.declared.replies.Reply.TheVariants as reply
use Rattle.mg_model.specs.State.{State, EndsWithin}
use Rattle.mg_model.specs.History.{History, call_at, reply_at, state_at}

-- the end that a compaction's reply shows
abbrev pub shown_end : Reply → ℕ → ℕ
shown_end (reply.Compacted through keys bytes) asked = through
shown_end other asked = asked

-- the call as a history has it: a compact with the end that its reply shows, and each other as it was made
abbrev pub entered : Call → Result Reply Fault → Call
entered (Compact through) (Ok reply) = Compact (shown_end reply through)
entered call result = call

-- what a call and its answer enter in a history, beside the caller: nothing where the call has no place
abbrev pub entry_of : ℕ → Call → Answer → List (ℕ × Call)
entry_of caller call answer = entry_at caller (entered call answer.result) answer.place
  where
    entry_at : ℕ → Call → Option ℕ → List (ℕ × Call)
    entry_at caller call None = []
    entry_at caller call (Some place) = (caller, call) ∷ []

-- a call that only reads
abbrev pub is_read : Call → Bool
is_read (Set key doc) = false
is_read (Del key) = false
is_read (Get key) = true
is_read (Feed epoch after limit) = true
is_read Mark = false
is_read (Forget mark) = false
is_read (Rollback to) = false
is_read Clear = false
is_read Sync = false
is_read (Compact through) = false
is_read Stats = true

-- the faults of reading files
abbrev pub is_reading_fault : Fault → Bool
is_reading_fault fault.NoMemory = true
is_reading_fault fault.ReadFault = true
is_reading_fault (fault.Damaged file at kept found) = true
is_reading_fault (fault.Malformed file at) = true
is_reading_fault other = false

-- the faults of reading and writing files
abbrev pub is_working_fault : Fault → Bool
is_working_fault fault.WriteFault = true
is_working_fault other = is_reading_fault other

-- the faults of a sync
abbrev pub is_sync_fault : Fault → Bool
is_sync_fault fault.NoMemory = true
is_sync_fault fault.WriteFault = true
is_sync_fault other = false

-- want of memory
abbrev pub is_memory_fault : Fault → Bool
is_memory_fault fault.NoMemory = true
is_memory_fault other = false

-- The faults that a call may be answered, beside that a number has reached its limit: whoever writes may have to make room
-- in files first.
abbrev pub may_meet : Call → Fault → Bool
may_meet (Set key doc) f = is_working_fault f
may_meet (Del key) f = is_working_fault f
may_meet (Get key) f = is_reading_fault f
may_meet (Feed epoch after limit) f = is_reading_fault f
may_meet Mark f = is_working_fault f
may_meet (Forget mark) f = is_memory_fault f
may_meet (Rollback to) f = is_memory_fault f
may_meet Clear f = is_memory_fault f
may_meet Sync f = is_sync_fault f
may_meet (Compact through) f = is_working_fault f
may_meet Stats f = is_reading_fault f

-- the plain list's reply to a call at this place of a history
pub record Replies (start : State) (history : History) (call : Call) (place : ℕ) (reply : Reply) : Type 0 where
  pub entry : call_at history place ≡ Some (entered call (Ok reply))
  pub within : EndsWithin (state_at start history place) (entered call (Ok reply))
  pub same : reply ≡ reply_at start history place (entered call (Ok reply))

-- a call that only reads stands at this place, though it met a fault
pub record MetFault (history : History) (call : Call) (place : ℕ) (f : Fault) : Type 0 where
  pub entry : call_at history place ≡ Some call
  pub reads : IsTrue (is_read call)
  pub may : IsTrue (may_meet call f)

-- A call may be refused this fault, without a place: a number at its limit refuses each call, the others one that does not
-- only read. Which number is at its limit is said by `worn` beside this.
abbrev pub MayRefuse : Call → Fault → Type 0
MayRefuse call (fault.Worn kept) = ⊤
MayRefuse call f = IsTrue (not (is_read call) && may_meet call f)

-- what a call gave, at a place or at none
abbrev pub FitsResult : State → History → Call → Option ℕ → Result Reply Fault → Type 0
FitsResult start history call (Some place) (Ok reply) = Replies start history call place reply
FitsResult start history call (Some place) (Err f) = MetFault history call place f
FitsResult start history call None (Ok reply) = ⊥
FitsResult start history call None (Err f) = MayRefuse call f

-- an answer fits a call and the history of its partition from a state on
abbrev pub Fits : State → History → Call → Answer → Type 0
Fits start history call answer = FitsResult start history call answer.place answer.result
