-- An answer that fits a history fits a longer one.
use Rattle.std.proofs.Common.{◌≡◌, ℕ, ◌-◌, ◌<◌, ◌≤◌, suc, zero, List, [], ◌∷◌, ◌++◌, length, Bool, true, false, ◌==◌, slice_get, Option, None, Some, Result, Ok, Err, refl, ap, ◌∙◌, sym, arith, subst}
use Rattle.std.specs.Option.{option_map}
use Rattle.std.specs.Bool.{if◌then◌else◌}
use Rattle.std.proofs.lemmas.List.{take-append-le}
use Rattle.std.proofs.lemmas.Option.{slice_get_within}
use Rattle.mg_types.specs.declared.faults.Fault.{Fault}
use Rattle.mg_model.specs.declared.calls.Call.{Call}
use Rattle.mg_model.specs.declared.replies.Answer.{Answer}
use Rattle.mg_model.specs.declared.replies.Reply.{Reply}
use Rattle.mg_model.specs.State.{State, EndsWithin, step}
use Rattle.mg_model.specs.History.{History, after_history, call_at, state_at}
use Rattle.mg_model.specs.Fits.{Fits, FitsResult, MetFault, Replies, entered}

slice_get-append : {X : Type 0} (xs ys : List X) (i : ℕ) (x : X) → slice_get xs i ≡ Some x → slice_get (xs ++ ys) i ≡ Some x
slice_get-append [] ys i x h = absurd cc
slice_get-append (y ∷ xs) ys zero x h = h
slice_get-append (y ∷ xs) ys (suc i) x h = slice_get-append xs ys i x h

-- what stands at a place of a history stands there in a longer one
pub call_stays : (history more : History) (place : ℕ) (call : Call) → call_at history place ≡ Some call → call_at (history ++ more) place ≡ Some call
call_stays history more place call h = by_zero (place == 0) h
  where
    found : (o : Option (ℕ × Call)) → slice_get history (place - 1) ≡ o → option_map (λ e. e.1) o ≡ Some call → option_map (λ e. e.1) (slice_get (history ++ more) (place - 1)) ≡ Some call
    found None e h = absurd cc
    found (Some entry) e h = ap (option_map (λ (e : ℕ × Call). e.1)) (slice_get-append history more (place - 1) entry e) ∙ h

    by_zero : (b : Bool) → (if b then None else option_map (λ e. e.1) (slice_get history (place - 1))) ≡ Some call → (if b then None else option_map (λ e. e.1) (slice_get (history ++ more) (place - 1))) ≡ Some call
    by_zero true h = h
    by_zero false h = found (slice_get history (place - 1)) refl h

-- a place at which a call stands is within the history
pub place_within : (history : History) (place : ℕ) (call : Call) → call_at history place ≡ Some call → place - 1 < length history
place_within history place call h = by_zero (place == 0) h
  where
    found : (o : Option (ℕ × Call)) → slice_get history (place - 1) ≡ o → option_map (λ e. e.1) o ≡ Some call → place - 1 < length history
    found None e h = absurd cc
    found (Some entry) e h = slice_get_within history (place - 1) entry e

    by_zero : (b : Bool) → (if b then None else option_map (λ e. e.1) (slice_get history (place - 1))) ≡ Some call → place - 1 < length history
    by_zero true h = absurd cc
    by_zero false h = found (slice_get history (place - 1)) refl h

-- the state at a place of a history is that at this place of a longer one
pub state_stays : (start : State) (history more : History) (place : ℕ) → place - 1 ≤ length history → state_at start (history ++ more) place ≡ state_at start history place
state_stays start history more place l = ap (after_history start) (take-append-le (place - 1) history more l)

replies_stay : (start : State) (history more : History) (call : Call) (place : ℕ) (reply : Reply) → Replies start history call place reply → Replies start (history ++ more) call place reply
replies_stay start history more call place reply r =
    let within = place_within history place (entered call (Ok reply)) r.entry in
    let kept : state_at start history place ≡ state_at start (history ++ more) place = sym (state_stays start history more place (omega arith)) in
    record {
      entry = call_stays history more place (entered call (Ok reply)) r.entry;
      within = subst (λ s. EndsWithin s (entered call (Ok reply))) kept r.within;
      same = subst (λ (s : State). reply ≡ (step s (entered call (Ok reply))).reply) kept r.same;
    }

faults_stay : (history more : History) (call : Call) (place : ℕ) (f : Fault) → MetFault history call place f → MetFault (history ++ more) call place f
faults_stay history more call place f m = record { entry = call_stays history more place call m.entry; reads = m.reads; may = m.may }

result_stays : (start : State) (history more : History) (call : Call) (place : Option ℕ) (result : Result Reply Fault) → FitsResult start history call place result → FitsResult start (history ++ more) call place result
result_stays start history more call (Some place) (Ok reply) f = replies_stay start history more call place reply f
result_stays start history more call (Some place) (Err fault) f = faults_stay history more call place fault f
result_stays start history more call None (Ok reply) f = f
result_stays start history more call None (Err fault) f = f

pub fits_stays : (start : State) (history more : History) (call : Call) (answer : Answer) → Fits start history call answer → Fits start (history ++ more) call answer
fits_stays start history more call answer f = result_stays start history more call answer.place answer.result f
