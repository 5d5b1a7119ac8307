-- Which answers fit the calls of a script, where one thread makes them in order over one log.
use Rattle.std.specs.Prelude.{◌≡◌, ◌<◌, ◌≤◌, ◌⊎◌, ℕ, ◌+◌, ◌-◌, ◌^◌, List, [], ◌∷◌, ◌++◌, ⊤, Result, Ok, Err, IfErr, IfOk, IfSome, OnOk}
use Rattle.mg_model.specs.declared.calls.Call.{Call}
use Rattle.mg_model.specs.declared.calls.Call.TheVariants.{Set, Del, Sync, Compact}
use Rattle.mg_model.specs.declared.replies.Answer.{Answer}
use Rattle.mg_model.specs.declared.replies.Reply.{Reply}
use Rattle.mg_model.specs.declared.replies.Reply.TheVariants as reply
use Rattle.mg_model.specs.Fits.{entered, Fits}
use Rattle.mg_model.specs.Placed.{calls_in, history_in, state_in, Placed}
use Rattle.mg_model.specs.State.{length_of, HasRoom, State}
use Rattle.mg_recover.specs.Answers.{IsAtLimit}
use Rattle.mg_recover.specs.Cuts.{last_change}
use Rattle.mg_recover.specs.Made.{opened_by, run_changes}
use Rattle.mg_script.specs.declared.script.Line.{Line}
use Rattle.mg_types.specs.declared.faults.Fault.{Fault}
use Rattle.mg_types.specs.declared.faults.Fault.TheVariants as fault
use Rattle.mg_wal.specs.Lists.{all_recs, last_opened, Basis}
use Rattle.mg_wal_format.specs.Logs.{counts_after}
use Rattle.mg_wal_format.specs.Records.{counts_in}
use Rattle.mg_serve.specs.Placed.{placed_by, placed_of}

-- no script has more lines
abbrev pub line_limit : ℕ
line_limit = 67108864

-- how many changes a partition has had, those before the run among them
abbrev pub changes_had : Basis → List Placed → ℕ → ℕ
changes_had basis placed part = counts_after (counts_in basis.low) (all_recs basis (run_changes basis placed)) part

-- one change more of the partition would pass a limit of the log: on the number of a change, or else on the count of a partition's changes
abbrev pub IsLogLimit : Basis → List Placed → ℕ → Fault → Type 0
IsLogLimit basis placed part f =
    ((2 ^ 62 - 1 ≤ last_change basis placed) × (f ≡ fault.Worn (last_change basis placed)))
    ⊎ ((last_change basis placed < 2 ^ 62 - 1) × (2 ^ 62 - 1 ≤ changes_had basis placed part) × (f ≡ fault.Worn (changes_had basis placed part)))

-- No log of another number can be begun: the greatest number that a log was found with or tried with is at its limit. Each call
-- of the run tries one more at most.
abbrev pub IsNameLimit : Basis → Fault → Type 0
IsNameLimit basis f = (number : ℕ) × (f ≡ fault.Worn number) × (2 ^ 62 - 1 ≤ number) × (number ≤ basis.newest + line_limit)

-- why a change may be refused: want of memory, a number of its partition at its limit, or else one of the log
abbrev pub MayRefuseChange : Basis → List Placed → ℕ → State → Call → Fault → Type 0
MayRefuseChange basis placed part s call f = (f ≡ fault.NoMemory) ⊎ IsAtLimit s call f ⊎ (HasRoom s call × IsLogLimit basis placed part f)

-- why a sync may fail: want of memory, a failed write, or no number for another log
abbrev pub MayFailSync : Basis → Fault → Type 0
MayFailSync basis f = (f ≡ fault.NoMemory) ⊎ (f ≡ fault.WriteFault) ⊎ IsNameLimit basis f

-- the faults that a call of a partition in this state may be answered
abbrev pub MayAnswer : Basis → List Placed → ℕ → State → Call → Fault → Type 0
MayAnswer basis placed part s (Set key doc) f = MayRefuseChange basis placed part s (Set key doc) f
MayAnswer basis placed part s (Del key) f = MayRefuseChange basis placed part s (Del key) f
MayAnswer basis placed part s Sync f = MayFailSync basis f
MayAnswer basis placed part s call f = f ≡ fault.NoMemory

-- a compaction reaches to the end of the list
abbrev pub EndsAtLength : State → Call → Type 0
EndsAtLength s (Compact through) = through ≡ length_of s
EndsAtLength s other = ⊤

-- The next answer fits its partition's history with this call as the last; a compaction reaches to the end, a call that passes a limit
-- of its partition's numbers is no Ok, and a fault has its cause.
pub record FitsNext (basis : Basis) (before : List Placed) (line : Line) (answer : Answer) : Type 0 where
  pub fits : Fits (opened_by basis line.part) (history_in (before ++ placed_by line answer) line.part) line.call answer
  pub last : IfSome answer.place (λ place. place ≡ calls_in before line.part + 1)
  pub whole : IfOk answer.result (λ reply. EndsAtLength (state_in (opened_by basis) before line.part) (entered line.call (Ok reply)))
  pub room : OnOk answer.result (HasRoom (state_in (opened_by basis) before line.part) line.call)
  pub fault : IfErr answer.result (MayAnswer basis before line.part (state_in (opened_by basis) before line.part) line.call)

-- the answers to some lines, one to each, fit one after the other
abbrev pub AllFit : Basis → List Placed → List Line → List Answer → Type 0
AllFit basis before [] [] = ⊤
AllFit basis before (line ∷ lines) (answer ∷ answers) = FitsNext basis before line answer × AllFit basis (before ++ placed_by line answer) lines answers
AllFit basis before [] (answer ∷ answers) = ⊥
AllFit basis before (line ∷ lines) [] = ⊥

-- a line was answered that all is synced, and this is the number of the last change then
abbrev pub IsSyncedAt : Basis → List Placed → List Line → List Answer → ℕ → Type 0
IsSyncedAt basis before [] answers number = ⊥
IsSyncedAt basis before (line ∷ lines) [] number = ⊥
IsSyncedAt basis before (line ∷ lines) (answer ∷ answers) number =
    ((answer.result ≡ Ok reply.Synced) × (number ≡ last_change basis (before ++ placed_by line answer)))
    ⊎ IsSyncedAt basis (before ++ placed_by line answer) lines answers number

-- the number of the last change that is synced, behind one answer: that of the last change where all is synced, and else as before
abbrev pub synced_after : ℕ → ℕ → Result Reply Fault → ℕ
synced_after all synced (Ok reply.Synced) = all
synced_after all synced other = synced

-- the same behind the answers to some lines
abbrev pub last_synced : Basis → List Placed → ℕ → List Line → List Answer → ℕ
last_synced basis before synced [] answers = synced
last_synced basis before synced (line ∷ lines) [] = synced
last_synced basis before synced (line ∷ lines) (answer ∷ answers) =
    last_synced basis (before ++ placed_by line answer) (synced_after (last_change basis (before ++ placed_by line answer)) synced answer.result) lines answers

-- a sync that failed had a change to make lasting
abbrev pub IsNeeded : Basis → List Placed → ℕ → Call → Result Reply Fault → Type 0
IsNeeded basis before synced Sync (Err f) = synced < last_change basis before
IsNeeded basis before synced call given = ⊤

-- each sync among some lines that failed had a change to make lasting
abbrev pub AreNeeded : Basis → List Placed → ℕ → List Line → List Answer → Type 0
AreNeeded basis before synced [] answers = ⊤
AreNeeded basis before synced (line ∷ lines) [] = ⊤
AreNeeded basis before synced (line ∷ lines) (answer ∷ answers) =
    IsNeeded basis before synced line.call answer.result
    × AreNeeded basis (before ++ placed_by line answer) (synced_after (last_change basis (before ++ placed_by line answer)) synced answer.result) lines answers

-- some change is behind the last that is synced
abbrev pub IsUnsynced : Basis → List Line → List Answer → Type 0
IsUnsynced basis lines answers = last_synced basis [] (last_opened basis) lines answers < last_change basis (placed_of lines answers)
