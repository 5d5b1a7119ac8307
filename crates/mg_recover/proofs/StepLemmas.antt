-- A call more, with its answer, among the placed calls.
use Rattle.std.proofs.Common.{◌≡◌, ◌≢◌, ℕ, ◌+◌, ◌-◌, List, [], ◌∷◌, ◌++◌, length, slice_get, Bool, true, false, ◌==◌, None, Some, Result, Ok, Err, refl, ap, subst, sym, ◌∙◌, arith}
use Rattle.std.specs.Prelude.{IfErr, IfSome, IsTrue}
use Rattle.std.specs.Bool.{if◌then◌else◌}
use Rattle.std.specs.Option.{option_map}
use Rattle.std.proofs.lemmas.List.{append-nil, take_at, length_push}
use Rattle.std.proofs.lemmas.Bool.Decides.{nat_tests}
use Rattle.mg_types.specs.declared.faults.Fault.{Fault}
use Rattle.mg_types.specs.declared.faults.Fault.TheVariants.{NoMemory}
use Rattle.mg_model.specs.declared.calls.Call.{Call}
use Rattle.mg_model.specs.declared.calls.Call.TheVariants.{Set, Del, Get, Feed, Mark, Forget, Rollback, Clear, Sync, Compact, Stats}
use Rattle.mg_model.specs.declared.calls.Change.TheVariants as change
use Rattle.mg_model.specs.declared.replies.Reply.{Reply}
use Rattle.mg_model.specs.Fits.{entered, is_read, may_meet, Fits, MayRefuse}
use Rattle.mg_model.specs.History.{after_history, call_at, state_at, History}
use Rattle.mg_model.specs.Placed.{calls_in, changes_in, history_in, state_in, Opening, Placed}
use Rattle.mg_model.specs.State.{step, EndsWithin, Outcome, State}
use Rattle.mg_recover.specs.Answers.{placed_for, AnswersNext, IsServed}
use Rattle.mg_recover.specs.Made.{states_after, AreMade}
use Rattle.mg_recover.specs.Steps.{made_by, place_behind, placed_answer, places_behind, takes_place, IsStep}
use Rattle.mg_wal.specs.Book.{Entry}
use Rattle.mg_recover.proofs.RunLemmas.{are_made-push, changes-push, history-other, history-own, own, state-on}

-- a call that takes a place or not
abbrev pub entered_if : Bool → Placed → List Placed
entered_if true p = p ∷ []
entered_if false p = []

-- a call that a store serves is entered as it is, and speaks of no end
entered_served : (call : Call) (given : Result Reply Fault) → IsServed call → entered call given ≡ call
entered_served (Set key doc) given k = refl
entered_served (Del key) given k = refl
entered_served (Get key) given k = refl
entered_served (Feed epoch after limit) given k = refl
entered_served Mark given k = absurd k
entered_served (Forget mark) given k = absurd k
entered_served (Rollback to) given k = absurd k
entered_served Clear given k = absurd k
entered_served Sync given k = refl
entered_served (Compact through) given k = absurd k
entered_served Stats given k = refl

ends_served : (s : State) (call : Call) → IsServed call → EndsWithin s call
ends_served s (Set key doc) k = tt
ends_served s (Del key) k = tt
ends_served s (Get key) k = tt
ends_served s (Feed epoch after limit) k = tt
ends_served s Mark k = absurd k
ends_served s (Forget mark) k = absurd k
ends_served s (Rollback to) k = absurd k
ends_served s Clear k = absurd k
ends_served s Sync k = tt
ends_served s (Compact through) k = absurd k
ends_served s Stats k = tt

-- a call that reads leaves the state
read_keeps : (s : State) (call : Call) → is_read call ≡ true → (step s call).state ≡ s
read_keeps s (Set key doc) r = absurd cc
read_keeps s (Del key) r = absurd cc
read_keeps s (Get key) r = refl
read_keeps s (Feed epoch after limit) r = refl
read_keeps s Mark r = absurd cc
read_keeps s (Forget mark) r = absurd cc
read_keeps s (Rollback to) r = absurd cc
read_keeps s Clear r = absurd cc
read_keeps s Sync r = absurd cc
read_keeps s (Compact through) r = absurd cc
read_keeps s Stats r = refl

-- each call may meet want of memory
pub may_want : (call : Call) → may_meet call NoMemory ≡ true
may_want (Set key doc) = refl
may_want (Del key) = refl
may_want (Get key) = refl
may_want (Feed epoch after limit) = refl
may_want Mark = refl
may_want (Forget mark) = refl
may_want (Rollback to) = refl
may_want Clear = refl
may_want Sync = refl
may_want (Compact through) = refl
may_want Stats = refl

-- what an answered call enters
pub entered_for : (part client : ℕ) (call : Call) (reads : Bool) (given : Result Reply Fault) (places : ℕ) → IsServed call
    → placed_for part client call (placed_answer reads given places) ≡ entered_if (takes_place reads given) (record { part = part; client = client; call = call })
entered_for part client call reads (Ok reply) places k = ap (λ (c : Call). record { part = part; client = client; call = c } ∷ []) (entered_served call (Ok reply) k)
entered_for part client call true (Err f) places k = ap (λ (c : Call). record { part = part; client = client; call = c } ∷ []) (entered_served call (Err f) k)
entered_for part client call false (Err f) places k = refl

-- the changes of a call that takes a place, and of one that takes none
made_own : (s : State) (part client : ℕ) (call : Call) (given : Result Reply Fault) → IsServed call → takes_place (is_read call) given ≡ true
    → own s (record { part = part; client = client; call = call }) ≡ made_by part call given
made_own s part client (Set key doc) (Ok reply) k t = refl
made_own s part client (Set key doc) (Err f) k t = absurd cc
made_own s part client (Del key) (Ok reply) k t = refl
made_own s part client (Del key) (Err f) k t = absurd cc
made_own s part client (Get key) given k t = refl
made_own s part client (Feed epoch after limit) given k t = refl
made_own s part client Mark given k t = absurd k
made_own s part client (Forget mark) given k t = absurd k
made_own s part client (Rollback to) given k t = absurd k
made_own s part client Clear given k t = absurd k
made_own s part client Sync given k t = refl
made_own s part client (Compact through) given k t = absurd k
made_own s part client Stats given k t = refl

made_none : (part : ℕ) (call : Call) (given : Result Reply Fault) → takes_place (is_read call) given ≡ false → made_by part call given ≡ []
made_none part call (Ok reply) t = absurd cc
made_none part (Set key doc) (Err f) t = refl
made_none part (Del key) (Err f) t = refl
made_none part (Get key) (Err f) t = refl
made_none part (Feed epoch after limit) (Err f) t = refl
made_none part Mark (Err f) t = refl
made_none part (Forget mark) (Err f) t = refl
made_none part (Rollback to) (Err f) t = refl
made_none part Clear (Err f) t = refl
made_none part Sync (Err f) t = refl
made_none part (Compact through) (Err f) t = refl
made_none part Stats (Err f) t = refl

-- the changes with an answered call more
pub changes_next : (opening : Opening) (placed : List Placed) (part client : ℕ) (call : Call) (given : Result Reply Fault) → IsServed call
    → changes_in opening (placed ++ entered_if (takes_place (is_read call) given) (record { part = part; client = client; call = call })) ≡ changes_in opening placed ++ made_by part call given
changes_next opening placed part client call given served = by_place (takes_place (is_read call) given) refl
  where
    by_place : (b : Bool) → takes_place (is_read call) given ≡ b → changes_in opening (placed ++ entered_if b (record { part = part; client = client; call = call })) ≡ changes_in opening placed ++ made_by part call given
    by_place true t =
        changes-push opening placed (record { part = part; client = client; call = call })
        ∙ ap (λ (es : List Entry). changes_in opening placed ++ es) (made_own (state_in opening placed part) part client call given served t)
    by_place false t =
        ap (changes_in opening) (append-nil placed)
        ∙ sym (append-nil (changes_in opening placed))
        ∙ ap (λ (es : List Entry). changes_in opening placed ++ es) (sym (made_none part call given t))

-- the state to which a call leads its partition
state-push : (opening : Opening) (placed : List Placed) (part client : ℕ) (call : Call)
    → state_in opening (placed ++ record { part = part; client = client; call = call } ∷ []) part ≡ (step (state_in opening placed part) call).state
state-push opening placed part client call = ap (after_history (opening part)) (history-own placed (record { part = part; client = client; call = call })) ∙ state-on (opening part) (history_in placed part) client call

pub state_next : (opening : Opening) (placed : List Placed) (part client : ℕ) (call : Call) (given : Result Reply Fault) (s' : State)
    → IsStep (state_in opening placed part) call given s'
    → state_in opening (placed ++ entered_if (takes_place (is_read call) given) (record { part = part; client = client; call = call })) part ≡ s'
state_next opening placed part client call (Ok reply) s' r = state-push opening placed part client call ∙ ap (λ (o : Outcome). o.state) r.1
state_next opening placed part client call (Err f) s' same = by_read (is_read call) refl
  where
    by_read : (b : Bool) → is_read call ≡ b → state_in opening (placed ++ entered_if b (record { part = part; client = client; call = call })) part ≡ s'
    by_read true r = state-push opening placed part client call ∙ read_keeps (state_in opening placed part) call r ∙ sym same
    by_read false r = ap (λ (ps : List Placed). state_in opening ps part) (append-nil placed) ∙ sym same

-- how many calls have a place in its partition then
pub calls_next : (placed : List Placed) (p : Placed) (b : Bool) → calls_in (placed ++ entered_if b p) p.part ≡ places_behind b (calls_in placed p.part)
calls_next placed p true = ap length (history-own placed p) ∙ length_push (history_in placed p.part) (p.client, p.call)
calls_next placed p false = ap (λ (ps : List Placed). calls_in ps p.part) (append-nil placed)

-- another partition's history
pub history_next : (placed : List Placed) (p : Placed) (b : Bool) (part : ℕ) → p.part ≢ part → history_in (placed ++ entered_if b p) part ≡ history_in placed part
history_next placed p true part h = history-other placed p part h
history_next placed p false part h = ap (λ (ps : List Placed). history_in ps part) (append-nil placed)

-- the change of a step may be made
made_by-err : (part : ℕ) (call : Call) (f : Fault) → made_by part call (Err f) ≡ []
made_by-err part (Set key doc) f = refl
made_by-err part (Del key) f = refl
made_by-err part (Get key) f = refl
made_by-err part (Feed epoch after limit) f = refl
made_by-err part Mark f = refl
made_by-err part (Forget mark) f = refl
made_by-err part (Rollback to) f = refl
made_by-err part Clear f = refl
made_by-err part Sync f = refl
made_by-err part (Compact through) f = refl
made_by-err part Stats f = refl

none_made : (entries more : List Entry) → AreMade entries → more ≡ [] → AreMade (entries ++ more)
none_made entries more a e = subst (λ (es : List Entry). AreMade es) (sym (append-nil entries) ∙ ap (λ (es : List Entry). entries ++ es) (sym e)) a

pub made_next : (entries : List Entry) (part : ℕ) (call : Call) (given : Result Reply Fault) (s' : State) → AreMade entries → IsStep (states_after entries part) call given s' → AreMade (entries ++ made_by part call given)
made_next entries part (Set key doc) (Ok reply) s' a r = are_made-push entries part (change.Set key doc) a (r.0, refl)
made_next entries part (Del key) (Ok reply) s' a r = are_made-push entries part (change.Del key) a (r.0, refl)
made_next entries part (Get key) (Ok reply) s' a r = none_made entries [] a refl
made_next entries part (Feed epoch after limit) (Ok reply) s' a r = none_made entries [] a refl
made_next entries part Mark (Ok reply) s' a r = none_made entries [] a refl
made_next entries part (Forget mark) (Ok reply) s' a r = none_made entries [] a refl
made_next entries part (Rollback to) (Ok reply) s' a r = none_made entries [] a refl
made_next entries part Clear (Ok reply) s' a r = none_made entries [] a refl
made_next entries part Sync (Ok reply) s' a r = none_made entries [] a refl
made_next entries part (Compact through) (Ok reply) s' a r = none_made entries [] a refl
made_next entries part Stats (Ok reply) s' a r = none_made entries [] a refl
made_next entries part call (Err f) s' a r = none_made entries (made_by part call (Err f)) a (made_by-err part call f)

-- what is entered last stands at the end
slice_get-end : {X : Type 0} (xs : List X) (x : X) → slice_get (xs ++ x ∷ []) (length xs) ≡ Some x
slice_get-end [] x = refl
slice_get-end (y ∷ xs) x = slice_get-end xs x

call_at_end : (before : History) (e : ℕ × Call) → call_at (before ++ e ∷ []) (length before + 1) ≡ Some e.1
call_at_end before e =
    let place : length before + 1 - 1 ≡ length before = omega arith in
    ap (λ (b : Bool). if b then None else option_map (λ (x : ℕ × Call). x.1) (slice_get (before ++ e ∷ []) (length before + 1 - 1))) (some (length before))
    ∙ ap (λ (n : ℕ). option_map (λ (x : ℕ × Call). x.1) (slice_get (before ++ e ∷ []) n)) place
    ∙ ap (option_map (λ (x : ℕ × Call). x.1)) (slice_get-end before e)
  where
    some : (n : ℕ) → (n + 1 == 0) ≡ false
    some n = grind (arith, nat_tests)

state_at_end : (start : State) (before : History) (e : ℕ × Call) → state_at start (before ++ e ∷ []) (length before + 1) ≡ after_history start before
state_at_end start before e = ap (after_history start) (take_at before (e ∷ []) (length before + 1 - 1) (omega arith))

-- the faults that a call which reads may meet, and for which another may be refused
abbrev pub MayGive : Call → Fault → Type 0
MayGive call f = (is_read call ≡ true → IsTrue (may_meet call f)) × (is_read call ≡ false → MayRefuse call f)

-- the history with a call more, or with none
abbrev with_call : History → ℕ → Call → Bool → History
with_call before client call true = before ++ (client, call) ∷ []
with_call before client call false = before

-- an answer fits the history with its call as the last
fits_end : (start : State) (before : History) (client : ℕ) (call : Call) (given : Result Reply Fault) (s' : State) → IsServed call → IsStep (after_history start before) call given s' → IfErr given (MayGive call)
    → (b : Bool) → takes_place (is_read call) given ≡ b → Fits start (with_call before client call b) call (record { place = place_behind b (length before); result = given })
fits_end start before client call (Ok reply) s' served r may true t =
    let same : entered call (Ok reply) ≡ call = entered_served call (Ok reply) served in
    let at : state_at start (before ++ (client, call) ∷ []) (length before + 1) ≡ after_history start before = state_at_end start before (client, call) in
    record {
      entry = call_at_end before (client, call) ∙ ap Some (sym same);
      within = subst (λ (s : State). EndsWithin s (entered call (Ok reply))) (sym at) (subst (EndsWithin (after_history start before)) (sym same) (ends_served (after_history start before) call served));
      same = sym (ap (λ (o : Outcome). o.reply) r.1) ∙ ap (λ (c : Call). (step (after_history start before) c).reply) (sym same) ∙ ap (λ (s : State). (step s (entered call (Ok reply))).reply) (sym at);
    }
fits_end start before client call (Ok reply) s' served r may false t = absurd cc
fits_end start before client call (Err f) s' served r may true t = record { entry = call_at_end before (client, call); reads = t; may = may.0 t }
fits_end start before client call (Err f) s' served r may false t = may.1 t

pub answers_next : (opening : Opening) (placed : List Placed) (part client : ℕ) (call : Call) (given : Result Reply Fault) (s' : State) → IsServed call → IsStep (state_in opening placed part) call given s' → IfErr given (MayGive call)
    → AnswersNext opening placed part client call (placed_answer (is_read call) given (calls_in placed part))
answers_next opening placed part client call given s' served r may = by_place (takes_place (is_read call) given) refl
  where
    with_it : (b : Bool) → history_in (placed ++ entered_if b (record { part = part; client = client; call = call })) part ≡ with_call (history_in placed part) client call b
    with_it true = history-own placed (record { part = part; client = client; call = call })
    with_it false = ap (λ (ps : List Placed). history_in ps part) (append-nil placed)

    last_of : (b : Bool) → IfSome (place_behind b (calls_in placed part)) (λ place. place ≡ calls_in placed part + 1)
    last_of true = refl
    last_of false = tt

    by_place : (b : Bool) → takes_place (is_read call) given ≡ b → AnswersNext opening placed part client call (placed_answer (is_read call) given (calls_in placed part))
    by_place b t =
        let entered : placed_for part client call (placed_answer (is_read call) given (calls_in placed part)) ≡ entered_if b (record { part = part; client = client; call = call }) =
        entered_for part client call (is_read call) given (calls_in placed part) served ∙ ap (λ (b : Bool). entered_if b (record { part = part; client = client; call = call })) t in
        let history : history_in (placed ++ placed_for part client call (placed_answer (is_read call) given (calls_in placed part))) part ≡ with_call (history_in placed part) client call b =
        ap (λ (ps : List Placed). history_in (placed ++ ps) part) entered ∙ with_it b in
        record {
          fits = subst (λ (h : History). Fits (opening part) h call (placed_answer (is_read call) given (calls_in placed part))) (sym history)
              (subst (λ (b' : Bool). Fits (opening part) (with_call (history_in placed part) client call b) call (record { place = place_behind b' (calls_in placed part); result = given })) (sym t) (fits_end (opening part) (history_in placed part) client call given s' served r may b t));
          last = subst (λ (b' : Bool). IfSome (place_behind b' (calls_in placed part)) (λ place. place ≡ calls_in placed part + 1)) (sym t) (last_of b);
        }
