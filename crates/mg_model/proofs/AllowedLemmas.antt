-- Lists of changes, each allowed where those before it lead.
use Rattle.std.proofs.Common.{◌≡◌, List, [], ◌∷◌, ◌++◌, map, Option, None, Some, refl, ap, ◌∙◌, sym, subst}
use Rattle.std.specs.Option.{option_to_list}
use Rattle.mg_model.specs.declared.calls.Call.{Call}
use Rattle.mg_model.specs.declared.calls.Change.{Change}
use Rattle.mg_model.specs.State.{State, IsState, step}
use Rattle.mg_model.specs.History.{AllAllowed, after_change, after_changes, call_for, change_of, changes_of}
use Rattle.mg_model.proofs.HistoryLemmas.{change_leads}
use Rattle.mg_model.proofs.StateLemmas.{change_allowed, change_keeps, change_made}

-- the changes of some calls are allowed
pub calls_allowed : (s : State) (calls : List Call) → AllAllowed s (changes_of s calls)
calls_allowed s [] = tt
calls_allowed s (call ∷ calls) = by_change (change_of s call) refl (calls_allowed (step s call).state calls)
  where
    by_change : (o : Option Change) → change_of s call ≡ o → AllAllowed (step s call).state (changes_of (step s call).state calls) → AllAllowed s (option_to_list (change_of s call) ++ changes_of (step s call).state calls)
    by_change None e rest =
        let lead : s ≡ (step s call).state = ap (λ (o : Option Change). after_changes s (option_to_list o)) (sym e) ∙ change_leads s call in
        subst (λ (o : Option Change). AllAllowed s (option_to_list o ++ changes_of (step s call).state calls)) (sym e)
        (subst (λ (t : State). AllAllowed t (changes_of (step s call).state calls)) (sym lead) rest)
    by_change (Some c) e rest =
        let lead : after_change s c ≡ (step s call).state = ap (λ (o : Option Change). after_changes s (option_to_list o)) (sym e) ∙ change_leads s call in
        subst (λ (o : Option Change). AllAllowed s (option_to_list o ++ changes_of (step s call).state calls)) (sym e)
        (change_allowed s call c e, subst (λ (t : State). AllAllowed t (changes_of (step s call).state calls)) (sym lead) rest)

-- a state stays one through allowed changes
pub changes_keep : (s : State) (changes : List Change) → AllAllowed s changes → IsState s → IsState (after_changes s changes)
changes_keep s [] a i = i
changes_keep s (c ∷ changes) a i = changes_keep (after_change s c) changes a.1 (change_keeps s c a.0 i)

-- allowed changes are those of the calls for them
pub changes_made : (s : State) (changes : List Change) → AllAllowed s changes → changes_of s (map call_for changes) ≡ changes
changes_made s [] a = refl
changes_made s (c ∷ changes) a =
    let made = change_made s c a.0 in
    let lead : after_change s c ≡ (step s (call_for c)).state = ap (λ (o : Option Change). after_changes s (option_to_list o)) (sym made) ∙ change_leads s (call_for c) in
    ap (λ (o : Option Change). option_to_list o ++ changes_of (step s (call_for c)).state (map call_for changes)) made
    ∙ ap (λ (t : State). c ∷ changes_of t (map call_for changes)) (sym lead)
    ∙ ap (λ (cs : List Change). c ∷ cs) (changes_made (after_change s c) changes a.1)
