-- Why a call of a store met its fault, said by what the opening found.
use Rattle.std.proofs.Common.{◌≡◌, ◌≤◌, inl, inr, ℕ, ◌+◌, ◌-◌, ◌^◌, Bool, true, false, List, Result, ap, ◌∙◌, arith}
use Rattle.std.specs.Bool.{if◌then◌else◌}
use Rattle.mg_model.specs.declared.calls.Call.{Call}
use Rattle.mg_model.specs.declared.calls.Call.TheVariants.{Set, Del, Get, Feed, Mark, Forget, Rollback, Clear, Sync, Compact, Stats}
use Rattle.mg_model.specs.declared.replies.Reply.{Reply}
use Rattle.mg_model.specs.Fits.{entered}
use Rattle.mg_model.specs.Placed.{Placed}
use Rattle.mg_model.specs.State.{State}
use Rattle.mg_recover.specs.Answers.{IsCallFault, IsChangeFault, IsSyncFault}
use Rattle.mg_recover.specs.Made.{run_changes}
use Rattle.mg_recover.proofs.CutLemmas.{book_last}
use Rattle.mg_script.specs.Script.{IsSpoken}
use Rattle.mg_script.specs.Transcript.{IsLineFault}
use Rattle.mg_types.specs.declared.faults.Fault.{Fault}
use Rattle.mg_types.specs.declared.faults.Fault.TheVariants as fault
use Rattle.mg_wal.specs.Book.{Book, IsWorn}
use Rattle.mg_wal.specs.Lists.{Basis, Books}
use Rattle.mg_wal.specs.Syncs.{goes_on, IsSpent}
use Rattle.mg_serve.specs.Answers.{line_limit, EndsAtLength, IsLogLimit, MayAnswer, MayFailSync, MayRefuseChange}

-- a number of the log at its limit
log_limit : (basis : Basis) (placed : List Placed) (book : Book) (part : ℕ) (f : Fault) → Books basis (run_changes basis placed) book → IsWorn book part f → IsLogLimit basis placed part f
log_limit basis placed book part f books (inl last) =
    let same = book_last basis placed book books in
    inl (omega (arith, last.0, same), last.1 ∙ ap (λ n. fault.Worn n) same)
log_limit basis placed book part f books (inr had) =
    let same = book_last basis placed book books in
    inr (omega (arith, had.0, same), omega (arith, had.1, books.changes part), had.2 ∙ ap (λ n. fault.Worn n) (books.changes part))

change_fault : (basis : Basis) (placed : List Placed) (book : Book) (part : ℕ) (s : State) (call : Call) (f : Fault) → Books basis (run_changes basis placed) book → IsChangeFault book part s call f → MayRefuseChange basis placed part s call f
change_fault basis placed book part s call f books (inl memory) = inl memory
change_fault basis placed book part s call f books (inr (inl limit)) = inr (inl limit)
change_fault basis placed book part s call f books (inr (inr log)) = inr (inr (log.0, log_limit basis placed book part f books log.1))

-- where no log of another number can be begun, the greatest number is at its limit
spent_newest : (book : Book) → IsSpent book → 2 ^ 62 - 1 ≤ book.newest
spent_newest book spent = by_case (goes_on book) spent
  where
    by_case : (on : Bool) → 2 ^ 62 ≤ (if on then book.newest else book.newest + 1) → 2 ^ 62 - 1 ≤ book.newest
    by_case true s = omega (arith, s)
    by_case false s = omega (arith, s)

pub sync_fault : (basis : Basis) (book : Book) (f : Fault) → book.newest ≤ basis.newest + line_limit → IsSyncFault book f → MayFailSync basis f
sync_fault basis book f few (unsynced, inl memory) = inl memory
sync_fault basis book f few (unsynced, inr (inl write)) = inr (inl write)
sync_fault basis book f few (unsynced, inr (inr spent)) = inr (inr (book.newest, spent.1, spent_newest book spent.0, few))

pub may_answer : (basis : Basis) (placed : List Placed) (book : Book) (part : ℕ) (s : State) (call : Call) (f : Fault) → Books basis (run_changes basis placed) book → book.newest ≤ basis.newest + line_limit
    → IsCallFault book part s call f → MayAnswer basis placed part s call f
may_answer basis placed book part s (Set key doc) f books few why = change_fault basis placed book part s (Set key doc) f books why
may_answer basis placed book part s (Del key) f books few why = change_fault basis placed book part s (Del key) f books why
may_answer basis placed book part s (Get key) f books few why = why
may_answer basis placed book part s (Feed epoch after limit) f books few why = why
may_answer basis placed book part s Mark f books few why = why
may_answer basis placed book part s (Forget mark) f books few why = why
may_answer basis placed book part s (Rollback to) f books few why = why
may_answer basis placed book part s Clear f books few why = why
may_answer basis placed book part s Sync f books few why = sync_fault basis book f few why
may_answer basis placed book part s (Compact through) f books few why = why
may_answer basis placed book part s Stats f books few why = why

-- ---- what a line can have

memory_line : (f : Fault) → f ≡ fault.NoMemory → IsLineFault f
memory_line f m = rw m tt

change_line : (book : Book) (part : ℕ) (s : State) (call : Call) (f : Fault) → IsChangeFault book part s call f → IsLineFault f
change_line book part s call f (inl m) = rw m tt
change_line book part s call f (inr (inl l)) = rw l.2 tt
change_line book part s call f (inr (inr (room, inl w))) = rw w.1 tt
change_line book part s call f (inr (inr (room, inr w))) = rw w.2 tt

sync_line : (book : Book) (f : Fault) → IsSyncFault book f → IsLineFault f
sync_line book f (unsynced, inl m) = rw m tt
sync_line book f (unsynced, inr (inl w)) = rw w tt
sync_line book f (unsynced, inr (inr s)) = rw s.1 tt

-- a fault of a call can stand in a line
pub call_line : (book : Book) (part : ℕ) (s : State) (call : Call) (f : Fault) → IsCallFault book part s call f → IsLineFault f
call_line book part s (Set key doc) f why = change_line book part s (Set key doc) f why
call_line book part s (Del key) f why = change_line book part s (Del key) f why
call_line book part s (Get key) f why = memory_line f why
call_line book part s (Feed epoch after limit) f why = memory_line f why
call_line book part s Mark f why = memory_line f why
call_line book part s (Forget mark) f why = memory_line f why
call_line book part s (Rollback to) f why = memory_line f why
call_line book part s Clear f why = memory_line f why
call_line book part s Sync f why = sync_line book f why
call_line book part s (Compact through) f why = memory_line f why
call_line book part s Stats f why = memory_line f why

-- a call that is read from a script speaks of no end
pub whole : (s : State) (call : Call) (given : Result Reply Fault) → IsSpoken call → EndsAtLength s (entered call given)
whole s (Set key doc) given k = tt
whole s (Del key) given k = tt
whole s (Get key) given k = tt
whole s (Feed epoch after limit) given k = tt
whole s Mark given k = tt
whole s (Forget mark) given k = tt
whole s (Rollback to) given k = tt
whole s Clear given k = tt
whole s Sync given k = tt
whole s (Compact through) given k = absurd k
whole s Stats given k = tt
