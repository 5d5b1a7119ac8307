-- That a sync which failed had a change to make lasting.
use Rattle.std.proofs.Common.{◌≡◌, ◌≤◌, ℕ, List, [], ◌∷◌, ◌++◌, length, Result, Ok, Err, refl, ap, subst, sym, ◌∙◌, arith}
use Rattle.std.proofs.lemmas.List.{append_assoc, append-nil}
use Rattle.std.specs.Prelude.{IfErr}
use Rattle.mg_model.specs.declared.calls.Call.{Call}
use Rattle.mg_model.specs.declared.calls.Call.TheVariants.{Set, Del, Get, Feed, Mark, Forget, Rollback, Clear, Sync, Compact, Stats}
use Rattle.mg_model.specs.declared.replies.Answer.{Answer}
use Rattle.mg_model.specs.declared.replies.Reply.{Reply}
use Rattle.mg_model.specs.declared.replies.Reply.TheVariants as reply
use Rattle.mg_model.specs.Placed.{Placed}
use Rattle.mg_model.specs.State.{State}
use Rattle.mg_recover.specs.Answers.{IsCallFault}
use Rattle.mg_recover.specs.Cuts.{last_change}
use Rattle.mg_recover.specs.Made.{run_changes}
use Rattle.mg_recover.specs.Steps.{Tries}
use Rattle.mg_recover.proofs.CutLemmas.{book_last}
use Rattle.mg_script.specs.declared.script.Line.{Line}
use Rattle.mg_types.specs.declared.faults.Fault.{Fault}
use Rattle.mg_wal.specs.Book.{synced_of, Book}
use Rattle.mg_wal.specs.Lists.{Basis, Books}
use Rattle.mg_serve.specs.Placed.{placed_by, placed_of}
use Rattle.mg_serve.specs.Answers.{last_synced, synced_after, AllFit, AreNeeded, IsNeeded}

-- what is synced behind an answer is within what is synced now
pub synced_within : (all synced now : ℕ) (given : Result Reply Fault) → (given ≡ Ok reply.Synced → all ≤ now) → synced ≤ now → synced_after all synced given ≤ now
synced_within all synced now (Ok reply.Synced) done before = done refl
synced_within all synced now (Ok (reply.Seq seq)) done before = before
synced_within all synced now (Ok (reply.Found seq doc)) done before = before
synced_within all synced now (Ok reply.Absent) done before = before
synced_within all synced now (Ok (reply.Feed epoch end items)) done before = before
synced_within all synced now (Ok (reply.Ahead length)) done before = before
synced_within all synced now (Ok (reply.Epoch epoch)) done before = before
synced_within all synced now (Ok (reply.Marked mark)) done before = before
synced_within all synced now (Ok (reply.Full kept)) done before = before
synced_within all synced now (Ok (reply.Forgot mark)) done before = before
synced_within all synced now (Ok (reply.NoMark mark)) done before = before
synced_within all synced now (Ok (reply.Back mark epoch)) done before = before
synced_within all synced now (Ok (reply.Reset least)) done before = before
synced_within all synced now (Ok (reply.Cleared epoch)) done before = before
synced_within all synced now (Ok (reply.Compacted through keys bytes)) done before = before
synced_within all synced now (Ok (reply.Stats length live bytes marks epoch)) done before = before
synced_within all synced now (Err f) done before = before

-- what is synced behind one line more
pub last_synced-push : (basis : Basis) (before : List Placed) (synced : ℕ) (lines : List Line) (answers : List Answer) (line : Line) (answer : Answer) → AllFit basis before lines answers
    → last_synced basis before synced (lines ++ line ∷ []) (answers ++ answer ∷ [])
    ≡ synced_after (last_change basis ((before ++ placed_of lines answers) ++ placed_by line answer)) (last_synced basis before synced lines answers) answer.result
last_synced-push basis before synced [] [] line answer e = ap (λ (ps : List Placed). synced_after (last_change basis (ps ++ placed_by line answer)) synced answer.result) (sym (append-nil before))
last_synced-push basis before synced [] (a ∷ answers) line answer e = absurd e
last_synced-push basis before synced (l ∷ lines) [] line answer e = absurd e
last_synced-push basis before synced (l ∷ lines) (a ∷ answers) line answer e =
    let now : ℕ = synced_after (last_change basis (before ++ placed_by l a)) synced a.result in
    last_synced-push basis (before ++ placed_by l a) now lines answers line answer e.1
    ∙ ap (λ (ps : List Placed). synced_after (last_change basis (ps ++ placed_by line answer)) (last_synced basis (before ++ placed_by l a) now lines answers) answer.result)
    (append_assoc before (placed_by l a) (placed_of lines answers))

-- one line more
pub needed-push : (basis : Basis) (before : List Placed) (synced : ℕ) (lines : List Line) (answers : List Answer) (line : Line) (answer : Answer) → AllFit basis before lines answers → AreNeeded basis before synced lines answers
    → IsNeeded basis (before ++ placed_of lines answers) (last_synced basis before synced lines answers) line.call answer.result → AreNeeded basis before synced (lines ++ line ∷ []) (answers ++ answer ∷ [])
needed-push basis before synced [] [] line answer e all n = (subst (λ (ps : List Placed). IsNeeded basis ps synced line.call answer.result) (append-nil before) n, tt)
needed-push basis before synced [] (a ∷ answers) line answer e all n = absurd e
needed-push basis before synced (l ∷ lines) [] line answer e all n = absurd e
needed-push basis before synced (l ∷ lines) (a ∷ answers) line answer e all n =
    let now : ℕ = synced_after (last_change basis (before ++ placed_by l a)) synced a.result in (
      all.0,
      needed-push basis (before ++ placed_by l a) now lines answers line answer e.1 all.1
          (subst (λ (ps : List Placed). IsNeeded basis ps (last_synced basis (before ++ placed_by l a) now lines answers) line.call answer.result) (sym (append_assoc before (placed_by l a) (placed_of lines answers))) n),
    )

-- a sync of a store fails only where something is unsynced
pub is_needed : (basis : Basis) (placed : List Placed) (synced part : ℕ) (s : State) (book : Book) (call : Call) (given : Result Reply Fault) → Books basis (run_changes basis placed) book → synced ≤ synced_of book
    → IfErr given (IsCallFault book part s call) → IsNeeded basis placed synced call given
is_needed basis placed synced part s book Sync (Ok reply) books within why = tt
is_needed basis placed synced part s book Sync (Err f) books within why = omega (arith, within, why.0, book_last basis placed book books)
is_needed basis placed synced part s book (Set key doc) given books within why = tt
is_needed basis placed synced part s book (Del key) given books within why = tt
is_needed basis placed synced part s book (Get key) given books within why = tt
is_needed basis placed synced part s book (Feed epoch after limit) given books within why = tt
is_needed basis placed synced part s book Mark given books within why = tt
is_needed basis placed synced part s book (Forget mark) given books within why = tt
is_needed basis placed synced part s book (Rollback to) given books within why = tt
is_needed basis placed synced part s book Clear given books within why = tt
is_needed basis placed synced part s book (Compact through) given books within why = tt
is_needed basis placed synced part s book Stats given books within why = tt

-- what is synced stays so over each call
pub tries_synced : (call : Call) (old new : Book) → Tries call old new → synced_of old ≤ synced_of new
tries_synced (Set key doc) old new t = omega (arith, t.1)
tries_synced (Del key) old new t = omega (arith, t.1)
tries_synced (Get key) old new t = omega (arith, t.1)
tries_synced (Feed epoch after limit) old new t = omega (arith, t.1)
tries_synced Mark old new t = omega (arith, t.1)
tries_synced (Forget mark) old new t = omega (arith, t.1)
tries_synced (Rollback to) old new t = omega (arith, t.1)
tries_synced Clear old new t = omega (arith, t.1)
tries_synced Sync old new t = omega (arith, t.2)
tries_synced (Compact through) old new t = omega (arith, t.1)
tries_synced Stats old new t = omega (arith, t.1)
