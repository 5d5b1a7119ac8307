-- Where a session stands, one call on.
use Rattle.std.proofs.Common.{◌≡◌, ◌<◌, ◌≤◌, ℕ, ◌+◌, List, [], ◌∷◌, ◌++◌, length, Bool, Option, None, Some, Result, Ok, Err, ap, subst, sym, ◌∙◌, arith}
use Rattle.std.specs.Prelude.{IfErr, IfOk}
use Rattle.std.specs.Bool.{◌==◌}
use Rattle.std.specs.List.{count_by, filter, slice_index, slice_set}
use Rattle.std.proofs.lemmas.List.{length-append, length-map, length_push, length-set}
use Rattle.std.proofs.lemmas.List.Sums.{count_by-le-length, length-filter}
use Rattle.mg_model.specs.declared.calls.Call.{Call}
use Rattle.mg_model.specs.declared.calls.Call.TheVariants.{Set, Del, Get, Feed, Mark, Forget, Rollback, Clear, Sync, Compact, Stats}
use Rattle.mg_model.specs.declared.replies.Answer.{Answer}
use Rattle.mg_model.specs.declared.replies.Reply.{Reply}
use Rattle.mg_model.specs.Fits.{entered}
use Rattle.mg_model.specs.Placed.{calls_in, state_in, Placed}
use Rattle.mg_model.specs.State.{State}
use Rattle.mg_recover.specs.declared.partition.Partition.{Partition}
use Rattle.mg_recover.specs.Answers.{IsAnswered, IsCallFault}
use Rattle.mg_recover.specs.Made.{opened_by}
use Rattle.mg_recover.specs.Steps.{Tries}
use Rattle.mg_recover.specs.Stores.{Stands}
use Rattle.mg_script.specs.declared.script.Line.{Line}
use Rattle.mg_script.specs.Script.{IsSpoken}
use Rattle.mg_script.specs.Transcript.{IsLineFault}
use Rattle.mg_types.specs.declared.faults.Fault.{Fault}
use Rattle.mg_wal.specs.Book.{synced_of, Book}
use Rattle.mg_wal.specs.Lists.{last_opened, Basis}
use Rattle.mg_serve.specs.Placed.{placed_by, placed_of}
use Rattle.mg_serve.specs.Answers.{last_synced, line_limit, EndsAtLength, FitsNext, MayAnswer}
use Rattle.mg_serve.specs.Sessions.{NextAnswer, Standing, StandsAt}
use Rattle.mg_serve.specs.Statuses.{graver, result_status}
use Rattle.mg_serve.proofs.Answering.{fit-push, placed-push, status-push}
use Rattle.mg_serve.proofs.Causes.{call_line, may_answer, whole}
use Rattle.mg_serve.proofs.Counts.{counted}
use Rattle.mg_serve.proofs.Needing.{is_needed, last_synced-push, needed-push, synced_within, tries_synced}
use Rattle.mg_recover.specs.Cuts.{last_change}
use Rattle.mg_recover.proofs.CutLemmas.{book_last}

-- ---- few calls

-- a line and its answer enter one call at most
entered_few : (line : Line) (place : Option ℕ) (given : Result Reply Fault) → length (placed_by line (record { place = place; result = given })) ≤ 1
entered_few line None given = omega arith
entered_few line (Some place) given = omega arith

placed_few : (lines : List Line) (answers : List Answer) → length (placed_of lines answers) ≤ length lines
placed_few [] answers = omega arith
placed_few (line ∷ lines) [] = omega arith
placed_few (line ∷ lines) (answer ∷ answers) =
    omega (arith, entered_few line answer.place answer.result, placed_few lines answers, length-append (placed_by line answer) (placed_of lines answers))

-- a partition has no more places than lines were answered
pub places_few : (lines : List Line) (answers : List Answer) (part : ℕ) → calls_in (placed_of lines answers) part ≤ length lines
places_few lines answers part =
    let placed = placed_of lines answers in
    let of_part : Placed → Bool = λ p. p.part == part in
    let mapped : calls_in placed part ≡ length (filter of_part placed) = length-map (filter of_part placed) (λ (p : Placed). (p.client, p.call)) in
    omega (arith, mapped, length-filter of_part placed, count_by-le-length of_part placed, placed_few lines answers)

-- ---- one call on

-- the answer of a store fits
pub fits_next : (basis : Basis) (lines : List Line) (answers : List Answer) (line : Line) (answer : Answer) (old new : Book) (was now : List Partition) → IsSpoken line.call
    → Stands basis (placed_of lines answers) old was → old.newest ≤ basis.newest + line_limit
    → IsAnswered basis (placed_of lines answers) line.part line.client line.call answer old new now → FitsNext basis (placed_of lines answers) line answer
fits_next basis lines answers line answer old new was now spoken stands few answered = record {
  fits = answered.next.fits;
  last = answered.next.last;
  whole = by_reply answer.result;
  room = answered.room;
  fault = by_fault answer.result answered.fault;
}
  where
    placed : List Placed
    placed = placed_of lines answers

    state : State
    state = state_in (opened_by basis) placed line.part

    by_reply : (given : Result Reply Fault) → IfOk given (λ reply. EndsAtLength state (entered line.call (Ok reply)))
    by_reply (Ok reply) = whole state line.call (Ok reply) spoken
    by_reply (Err f) = tt

    by_fault : (given : Result Reply Fault) → IfErr given (IsCallFault old line.part state line.call) → IfErr given (MayAnswer basis placed line.part state line.call)
    by_fault (Ok reply) why = tt
    by_fault (Err f) why = may_answer basis placed old line.part state line.call f stands.books few why

-- each call tries one log at most
pub tries_few : (call : Call) (old new : Book) → Tries call old new → new.newest ≤ old.newest + 1
tries_few (Set key doc) old new t = omega (arith, t.0)
tries_few (Del key) old new t = omega (arith, t.0)
tries_few (Get key) old new t = omega (arith, t.0)
tries_few (Feed epoch after limit) old new t = omega (arith, t.0)
tries_few Mark old new t = omega (arith, t.0)
tries_few (Forget mark) old new t = omega (arith, t.0)
tries_few (Rollback to) old new t = omega (arith, t.0)
tries_few Clear old new t = omega (arith, t.0)
tries_few Sync old new t = t.1
tries_few (Compact through) old new t = omega (arith, t.0)
tries_few Stats old new t = omega (arith, t.0)

-- a session that stood, after one call more
pub next_answer : (basis : Basis) (lines : List Line) (answers : List Answer) (line : Line) (client : ℕ) (answer : Answer) (old : Standing) (book : Book) (partitions : List Partition) (status : ℕ)
    → StandsAt basis lines answers old → length lines < line_limit → IsSpoken line.call
    → IsAnswered basis (placed_of lines answers) line.part line.client line.call answer old.book book partitions → Tries line.call old.book book
    → client ≡ line.client → client < 16 → status ≡ graver old.status (result_status answer.result)
    → NextAnswer basis lines answers line (slice_index old.counts client + 1) answer (record { book = book; partitions = partitions; counts = slice_set old.counts client (slice_index old.counts client + 1); status = status })
next_answer basis lines answers line client answer old book partitions status at few spoken answered tries named small gravest =
    let placed = placed_of lines answers in
    let fits = fits_next basis lines answers line answer old.book book old.partitions partitions spoken at.stands (omega (arith, at.newest, few)) answered in
    record {
      stands = record {
        fit = fit-push basis [] lines answers line answer at.fit fits;
        needed = needed-push basis [] (last_opened basis) lines answers line answer at.fit at.needed
            (is_needed basis placed (last_synced basis [] (last_opened basis) lines answers) line.part (state_in (opened_by basis) placed line.part) old.book line.call answer.result at.stands.books at.synced answered.fault);
        synced = subst (λ n. n ≤ synced_of book) (sym (last_synced-push basis [] (last_opened basis) lines answers line answer at.fit))
            (synced_within (last_change basis (placed ++ placed_by line answer)) (last_synced basis [] (last_opened basis) lines answers) (synced_of book) answer.result
            (λ done. omega (arith, answered.synced done, book_last basis (placed ++ placed_by line answer) book answered.stands.books))
            (omega (arith, at.synced, tries_synced line.call old.book book tries)));
        stands = subst (λ (ps : List Placed). Stands basis ps book partitions) (sym (placed-push basis [] lines answers line answer at.fit)) answered.stands;
        clients = length-set old.counts client (slice_index old.counts client + 1) ∙ at.clients;
        counts = λ k l. counted old.counts lines line client (omega (arith, small, at.clients)) named small at.counts k l;
        status = gravest ∙ ap (λ n. graver n (result_status answer.result)) at.status ∙ sym (status-push answers answer);
        newest = omega (arith, tries_few line.call old.book book tries, at.newest, length_push lines line);
      };
      numbered = ap (λ n. n + 1) (at.counts client small ∙ ap (λ k. count_by (λ (other : Line). other.client == k) lines) named);
    }

-- the fault of an answer can stand in its line
pub line_fault : (basis : Basis) (placed : List Placed) (line : Line) (answer : Answer) (old new : Book) (now : List Partition) → IsAnswered basis placed line.part line.client line.call answer old new now → IfErr answer.result IsLineFault
line_fault basis placed line answer old new now answered = by_result answer.result answered.fault
  where
    state : State
    state = state_in (opened_by basis) placed line.part

    by_result : (given : Result Reply Fault) → IfErr given (IsCallFault old line.part state line.call) → IfErr given IsLineFault
    by_result (Ok reply) why = tt
    by_result (Err f) why = call_line old line.part state line.call f why
