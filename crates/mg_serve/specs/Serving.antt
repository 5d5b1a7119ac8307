-- What a run of calls over a store answers, writes and leaves.
use Rattle.std.specs.Prelude.{◌≡◌, ◌<◌, ◌⊎◌, ℕ, zero, suc, ◌+◌, List, [], ◌∷◌, ◌++◌, Bool, IsTrue, Option, Result, Ok, Err}
use Rattle.std.specs.Io.KnownBytes.{Appends}
use Rattle.mg_disk.specs.Images.{View}
use Rattle.mg_faults.specs.Causes.{HasCause, CountsOnce}
use Rattle.mg_model.specs.declared.replies.Answer.{Answer}
use Rattle.mg_model.specs.State.{length_of}
use Rattle.mg_recover.specs.declared.partition.Partition.{Partition}
use Rattle.mg_recover.specs.Made.{opened_by}
use Rattle.mg_recover.specs.Stores.{part_at}
use Rattle.mg_script.specs.declared.script.Line.{Line}
use Rattle.mg_script.specs.Transcript.{end_line}
use Rattle.mg_types.specs.declared.faults.Fault.{Fault}
use Rattle.mg_types.specs.declared.faults.Fault.TheVariants as fault
use Rattle.mg_wal.specs.Book.{Book}
use Rattle.mg_wal.specs.Lists.{last_opened, Basis}
use Rattle.mg_wal.specs.Stories.{Reaches}
use Rattle.mg_serve.specs.Answers.{AllFit, AreNeeded, IsUnsynced, MayFailSync}
use Rattle.mg_serve.specs.Lasting.{failed_writes, faults_in, faults_of, writes_of, Holds, KeepsLog, LeavesAllNow, RisesBy}
use Rattle.mg_serve.specs.Placed.{placed_of}
use Rattle.mg_serve.specs.Sessions.{Standing, StandsAt}
use Rattle.mg_serve.specs.Statuses.{answers_status}
use Rattle.mg_serve.specs.Told.{call_texts, joined, numbered, numbered_answer, numbered_text, texts}
use Rattle.mg_serve.specs.Writing.{StopsInLast, Wrote}

-- ---- one call

-- The call of a line was answered, the session stands behind it, its line was written or a front of it, and the count of the log's
-- volume rose as the answer says.
pub record ServedNext (basis : Basis) (lines : List Line) (answers : List Answer) (line : Line) (standing : Standing)
    (count count' : ℕ) (written written' : Option (List ℕ)) (faults faults' : ℕ) (result : Result Unit Fault) (Keeps : Answer → Type 0) : Type 0 where
  pub answer : Answer
  pub stands : StandsAt basis (lines ++ line ∷ []) (answers ++ answer ∷ []) standing
  pub cause : HasCause fault.WriteFault count count' answer.result
  pub once : CountsOnce count count' answer.result
  pub text : Wrote written written' faults faults' (numbered_text (numbered_answer lines line answer)) result
  pub keeps : Keeps answer

-- ---- all calls

-- Some lines were answered, and the session stands behind them.
pub record Made (basis : Basis) (lines : List Line) (answers : List Answer) (standing : Standing) (opening : ℕ) (count count' : ℕ) (tells : Bool) (old : Book) (was now : View) : Type 0 where
  pub stands : StandsAt basis lines answers standing
  pub rises : RisesBy (failed_writes answers) (faults_in answers) count count'
  pub holds : IsTrue tells → Reaches basis [] opening basis.reached old was → Holds basis lines answers opening standing.book now

-- All lines were answered, and written.
pub record ServedAll (lines : List Line) (written written' : Option (List ℕ)) (faults faults' : ℕ) (MadeBy : List Line → List Answer → Type 0) : Type 0 where
  pub answers : List Answer
  pub made : MadeBy lines answers
  pub text : Appends written written' (joined (call_texts lines answers))
  pub sink : faults' ≡ faults

-- The calls broke off in the line of the last answer.
pub record BrokeInLine (lines : List Line) (written written' : Option (List ℕ)) (faults faults' : ℕ) (MadeBy : List Line → List Answer → Type 0) (f : Fault) : Type 0 where
  pub first : List Line
  pub behind : List Line
  pub answers : List Answer
  pub split : lines ≡ first ++ behind
  pub made : MadeBy first answers
  pub text : StopsInLast written written' faults faults' (call_texts first answers) f

-- ---- end lines

-- the end line of a partition
abbrev pub partition_end : List Partition → ℕ → List ℕ
partition_end partitions part = let it = part_at partitions part in end_line part it.places (length_of it.plain) it.plain.epoch

-- the end lines of the first partitions, in rising order
abbrev pub partition_ends : List Partition → ℕ → List (List ℕ)
partition_ends partitions zero = []
partition_ends partitions (suc part) = partition_ends partitions part ++ partition_end partitions part ∷ []

-- The end lines broke off in that of a partition.
pub record BrokeInEnds (partitions : List Partition) (parts : ℕ) (written written' : Option (List ℕ)) (faults faults' : ℕ) (f : Fault) : Type 0 where
  pub part : ℕ
  pub within : part < parts
  pub text : StopsInLast written written' faults faults' (partition_ends partitions (suc part)) f

-- ---- the whole run

-- How a run of this status ended, by what its calls and its last sync came to. Where they stopped, or the sync failed, that fault is told
-- and nothing was written. Else the end lines were written, or one of them broke off.
abbrev pub IsEnd : List Partition → ℕ → ℕ → Option (List ℕ) → Option (List ℕ) → ℕ → ℕ → Result Unit Fault → Result Unit Fault → Result ℕ Fault → Type 0
IsEnd partitions parts status written written' faults faults' (Err f) synced result = (result ≡ Err f) × (written' ≡ written) × (faults' ≡ faults)
IsEnd partitions parts status written written' faults faults' (Ok served) (Err f) result = (result ≡ Err f) × (written' ≡ written) × (faults' ≡ faults)
IsEnd partitions parts status written written' faults faults' (Ok served) (Ok synced) (Ok ended) =
    (ended ≡ status) × Appends written written' (joined (partition_ends partitions parts)) × (faults' ≡ faults)
IsEnd partitions parts status written written' faults faults' (Ok served) (Ok synced) (Err f) = BrokeInEnds partitions parts written written' faults faults' f

-- what the last sync came to: where it is answered, the log keeps all, and else it had a change to make lasting, and its fault has a cause
abbrev pub LastSync : Basis → List Line → List Answer → Type 0 → Result Unit Fault → Type 0
LastSync basis lines answers Lasts (Ok done) = Lasts
LastSync basis lines answers Lasts (Err f) = IsUnsynced basis lines answers × MayFailSync basis f

-- The run came to its end: all lines were answered and written, the last sync too and the end lines.
pub record EndsWell (parts : ℕ) (basis : Basis) (lines first : List Line) (answers : List Answer) (synced : Result Unit Fault)
    (written written' : Option (List ℕ)) (faults faults' : ℕ) (status : ℕ) : Type 0 where
  pub all : first ≡ lines
  pub gravest : status ≡ answers_status answers
  pub sync : synced ≡ Ok tt
  pub text : Appends written written' (joined (texts (opened_by basis) (placed_of first answers) (numbered [] first answers) parts))
  pub sink : faults' ≡ faults

-- The run broke off in the line of the last answer.
pub record BreaksInLine (first : List Line) (answers : List Answer) (written written' : Option (List ℕ)) (faults faults' : ℕ) (f : Fault) : Type 0 where
  pub text : StopsInLast written written' faults faults' (call_texts first answers) f

-- All lines were answered and written, the last sync failed, and no end line was written.
pub record EndsUnsynced (lines first : List Line) (answers : List Answer) (synced : Result Unit Fault) (written written' : Option (List ℕ)) (faults faults' : ℕ) (f : Fault) : Type 0 where
  pub all : first ≡ lines
  pub sync : synced ≡ Err f
  pub text : Appends written written' (joined (call_texts first answers))
  pub sink : faults' ≡ faults

-- All lines were answered and written, the last sync too, and the run broke off in the end line of a partition.
pub record BreaksInEnds (parts : ℕ) (basis : Basis) (lines first : List Line) (answers : List Answer) (synced : Result Unit Fault)
    (written written' : Option (List ℕ)) (faults faults' : ℕ) (f : Fault) : Type 0 where
  pub all : first ≡ lines
  pub sync : synced ≡ Ok tt
  pub part : ℕ
  pub within : part < parts
  pub text : StopsInLast written written' faults faults' (texts (opened_by basis) (placed_of first answers) (numbered [] first answers) (suc part)) f

-- how a run ended, by its status or by the fault for which it broke off
abbrev pub Ends : ℕ → Basis → List Line → List Line → List Answer → Result Unit Fault → Option (List ℕ) → Option (List ℕ) → ℕ → ℕ → Result ℕ Fault → Type 0
Ends parts basis lines first answers synced written written' faults faults' (Ok status) = EndsWell parts basis lines first answers synced written written' faults faults' status
Ends parts basis lines first answers synced written written' faults faults' (Err f) =
    BreaksInLine first answers written written' faults faults' f
    ⊎ EndsUnsynced lines first answers synced written written' faults faults' f
    ⊎ BreaksInEnds parts basis lines first answers synced written written' faults faults' f

-- The calls of a script were made, in order, up to the end or to where writing stopped: the answers fit, syncs that failed were needed, the
-- log keeps what it promises, one sync more was made, the count of the log's volume rose as the answers and that sync say, what was written is theirs, and the run
-- ended for this reason.
pub record Ran (parts : ℕ) (basis : Basis) (lines : List Line) (count count' : ℕ) (Keeps Lasts : List Line → List Answer → Type 0)
    (written written' : Option (List ℕ)) (faults faults' : ℕ) (synced : Result Unit Fault) (ended : Result ℕ Fault) : Type 0 where
  pub first : List Line
  pub behind : List Line
  pub answers : List Answer
  pub split : lines ≡ first ++ behind
  pub fit : AllFit basis [] first answers
  pub log : Keeps first answers
  pub needed : AreNeeded basis [] (last_opened basis) first answers
  pub last : LastSync basis first answers (Lasts first answers) synced
  pub rises : RisesBy (failed_writes answers + writes_of synced) (faults_in answers + faults_of synced) count count'
  pub ends : Ends parts basis lines first answers synced written written' faults faults' ended

-- what the log keeps, where it reached what the opening found
abbrev pub KeepsFrom : Bool → Basis → ℕ → Book → View → View → List Line → List Answer → Type 0
KeepsFrom tells basis opening old was now lines answers = IsTrue tells → Reaches basis [] opening basis.reached old was → KeepsLog basis lines answers opening now

-- that the log keeps all, where it reached what the opening found
abbrev pub LastsFrom : Bool → Basis → ℕ → Book → View → View → List Line → List Answer → Type 0
LastsFrom tells basis opening old was now lines answers = IsTrue tells → Reaches basis [] opening basis.reached old was → LeavesAllNow basis (placed_of lines answers) now
