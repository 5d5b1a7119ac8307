-- A caller's own places, and the least length between two places.
use Rattle.std.proofs.Common.{◌≡◌, ℕ, zero, suc, ◌+◌, ◌-◌, ◌<◌, ◌≤◌, min, List, [], ◌∷◌, ◌++◌, length, map, Bool, true, false, cond, ◌==◌, slice_get, unwrap_or, Option, None, Some, refl, add-zero, ap, ◌∙◌, sym, subst, arith}
use Rattle.std.specs.Option.{option_map, option_map_or}
use Rattle.std.specs.Bool.{if◌then◌else◌}
use Rattle.std.specs.List.{AllByRecursion, filter}
use Rattle.std.proofs.lemmas.List.{append_assoc, length_push}
use Rattle.std.proofs.lemmas.Bool.{eqb-true}
use Rattle.std.proofs.lemmas.Bool.Decides.{nat_tests}
use Rattle.mg_model.specs.declared.calls.Call.{Call}
use Rattle.mg_model.specs.State.{Rises, State, least, length_of}
use Rattle.mg_model.specs.History.{History, call_at, caller_at, lengths_behind, low, own_calls, own_places, own_places_from, state_at}

slice_get-middle : {X : Type 0} (xs ys : List X) (x : X) → slice_get (xs ++ x ∷ ys) (length xs) ≡ Some x
slice_get-middle [] ys x = refl
slice_get-middle (y ∷ xs) ys x = slice_get-middle xs ys x

-- what a call behind some others has at its place
at_middle : {X : Type 0} (f : ℕ × Call → X) (before rest : History) (e : ℕ × Call)
    → (if length before + 1 == 0 then None else option_map f (slice_get (before ++ e ∷ rest) (length before + 1 - 1))) ≡ Some (f e)
at_middle f before rest e =
    let place : length before + 1 - 1 ≡ length before = omega arith in
    ap (λ (b : Bool). if b then None else option_map f (slice_get (before ++ e ∷ rest) (length before + 1 - 1))) (some (length before))
    ∙ ap (λ (n : ℕ). option_map f (slice_get (before ++ e ∷ rest) n)) place
    ∙ ap (option_map f) (slice_get-middle before rest e)
  where
    some : (n : ℕ) → (n + 1 == 0) ≡ false
    some n = grind (arith, nat_tests)

calls_from : (before rest : History) (caller : ℕ) → map (call_at (before ++ rest)) (own_places_from (length before + 1) rest caller) ≡ map (λ call. Some call) (own_calls rest caller)
calls_from before [] caller = refl
calls_from before (e ∷ rest) caller = by_caller (e.0 == caller) (later (calls_from (before ++ e ∷ []) rest caller))
  where
    later : map (call_at ((before ++ e ∷ []) ++ rest)) (own_places_from (length (before ++ e ∷ []) + 1) rest caller) ≡ map (λ call. Some call) (own_calls rest caller)
        → map (call_at (before ++ e ∷ rest)) (own_places_from (length before + 1 + 1) rest caller) ≡ map (λ call. Some call) (own_calls rest caller)
    later h =
        ap (λ (h : History). map (call_at h) (own_places_from (length before + 1 + 1) rest caller)) (sym (append_assoc before (e ∷ []) rest))
        ∙ ap (λ (n : ℕ). map (call_at ((before ++ e ∷ []) ++ rest)) (own_places_from (n + 1) rest caller)) (sym (length_push before e))
        ∙ h

    by_caller : (b : Bool) → map (call_at (before ++ e ∷ rest)) (own_places_from (length before + 1 + 1) rest caller) ≡ map (λ call. Some call) (own_calls rest caller)
        → map (call_at (before ++ e ∷ rest)) (if b then (length before + 1) ∷ own_places_from (length before + 1 + 1) rest caller else own_places_from (length before + 1 + 1) rest caller)
        ≡ map (λ call. Some call) (map (λ (d : ℕ × Call). d.1) (cond b (e ∷ filter (λ (d : ℕ × Call). d.0 == caller) rest) (filter (λ (d : ℕ × Call). d.0 == caller) rest)))
    by_caller true h =
        ap (λ (o : Option Call). o ∷ map (call_at (before ++ e ∷ rest)) (own_places_from (length before + 1 + 1) rest caller)) (at_middle (λ (d : ℕ × Call). d.1) before rest e)
        ∙ ap (λ (l : List (Option Call)). Some e.1 ∷ l) h
    by_caller false h = h

callers_from : (before rest : History) (caller : ℕ) → AllByRecursion (λ place. caller_at (before ++ rest) place ≡ Some caller) (own_places_from (length before + 1) rest caller)
callers_from before [] caller = tt
callers_from before (e ∷ rest) caller = by_caller (e.0 == caller) refl (later (callers_from (before ++ e ∷ []) rest caller))
  where
    later : AllByRecursion (λ place. caller_at ((before ++ e ∷ []) ++ rest) place ≡ Some caller) (own_places_from (length (before ++ e ∷ []) + 1) rest caller)
        → AllByRecursion (λ place. caller_at (before ++ e ∷ rest) place ≡ Some caller) (own_places_from (length before + 1 + 1) rest caller)
    later h =
        subst (λ (h : History). AllByRecursion (λ place. caller_at h place ≡ Some caller) (own_places_from (length before + 1 + 1) rest caller)) (append_assoc before (e ∷ []) rest)
        (subst (λ (n : ℕ). AllByRecursion (λ place. caller_at ((before ++ e ∷ []) ++ rest) place ≡ Some caller) (own_places_from (n + 1) rest caller)) (length_push before e) h)

    by_caller : (b : Bool) → (e.0 == caller) ≡ b → AllByRecursion (λ place. caller_at (before ++ e ∷ rest) place ≡ Some caller) (own_places_from (length before + 1 + 1) rest caller)
        → AllByRecursion (λ place. caller_at (before ++ e ∷ rest) place ≡ Some caller) (if b then (length before + 1) ∷ own_places_from (length before + 1 + 1) rest caller else own_places_from (length before + 1 + 1) rest caller)
    by_caller true is h = (at_middle (λ (d : ℕ × Call). d.0) before rest e ∙ ap Some (eqb-true e.0 caller is), h)
    by_caller false is h = h

-- at a caller's places stand the caller's calls
own_above : (least place : ℕ) (history : History) (caller : ℕ) → least < place → AllByRecursion (λ k. least < k) (own_places_from place history caller)
own_above least place [] caller lt = tt
own_above least place (e ∷ history) caller lt = by_caller (e.0 == caller) (own_above least (place + 1) history caller (omega (arith, lt)))
  where
    by_caller : (b : Bool) → AllByRecursion (λ k. least < k) (own_places_from (place + 1) history caller)
        → AllByRecursion (λ k. least < k) (if b then place ∷ own_places_from (place + 1) history caller else own_places_from (place + 1) history caller)
    by_caller true h = (lt, h)
    by_caller false h = h

rise_from : (place : ℕ) (history : History) (caller : ℕ) → Rises (own_places_from place history caller)
rise_from place [] caller = tt
rise_from place (e ∷ history) caller = by_caller (e.0 == caller) (own_above place (place + 1) history caller (omega arith)) (rise_from (place + 1) history caller)
  where
    by_caller : (b : Bool) → AllByRecursion (λ k. place < k) (own_places_from (place + 1) history caller) → Rises (own_places_from (place + 1) history caller)
        → Rises (if b then place ∷ own_places_from (place + 1) history caller else own_places_from (place + 1) history caller)
    by_caller true above rise = (above, rise)
    by_caller false above rise = rise

pub own_places_rise : (history : History) (caller : ℕ) → Rises (own_places history caller)
own_places_rise history caller = rise_from 1 history caller

pub own_places_have_own_calls : (history : History) (caller : ℕ) → map (call_at history) (own_places history caller) ≡ map (λ call. Some call) (own_calls history caller)
own_places_have_own_calls history caller = calls_from [] history caller

pub own_places_are_own : (history : History) (caller : ℕ) → AllByRecursion (λ place. caller_at history place ≡ Some caller) (own_places history caller)
own_places_are_own history caller = callers_from [] history caller

-- the least of some lengths is at most the first, and at most the least of the others
first_least : (n : ℕ) (o : Option ℕ) → option_map_or (λ k. min n k) o n ≤ n
first_least n None = omega arith
first_least n (Some k) = omega arith

low_at : (start : State) (history : History) (from count n : ℕ) → n < count → unwrap_or (least (lengths_behind start history from count)) 0 ≤ length_of (state_at start history (from + 1 + n))
low_at start history from zero n l = absurd (omega (arith, l))
low_at start history from (suc count) zero l = subst (λ (k : ℕ). unwrap_or (least (lengths_behind start history from (suc count))) 0 ≤ length_of (state_at start history k)) (sym (add-zero (from + 1))) (first_least (length_of (state_at start history (from + 1))) (least (lengths_behind start history (from + 1) count)))
low_at start history from (suc zero) (suc n) l = absurd (omega (arith, l))
low_at start history from (suc (suc count)) (suc n) l =
    let rest = low_at start history (from + 1) (suc count) n (omega (arith, l)) in
    let same : from + 1 + 1 + n ≡ from + 1 + suc n = omega arith in
    subst (λ (k : ℕ). unwrap_or (least (lengths_behind start history from (suc (suc count)))) 0 ≤ length_of (state_at start history k)) same (omega (arith, rest))

pub low_is_low : (start : State) (history : History) (from to place : ℕ) → from < place → place ≤ to → low start history from to ≤ length_of (state_at start history place)
low_is_low start history from to place l m =
    let same : from + 1 + (place - from - 1) ≡ place = omega arith in
    subst (λ (k : ℕ). low start history from to ≤ length_of (state_at start history k)) same (low_at start history from (to - from) (place - from - 1) (omega arith))

least_at : (start : State) (history : History) (from count bound : ℕ) → 0 < count → ((n : ℕ) → n < count → bound ≤ length_of (state_at start history (from + 1 + n))) → bound ≤ unwrap_or (least (lengths_behind start history from count)) 0
least_at start history from zero bound l f = absurd (omega (arith, l))
least_at start history from (suc zero) bound l f = subst (λ (k : ℕ). bound ≤ length_of (state_at start history k)) (add-zero (from + 1)) (f 0 (omega arith))
least_at start history from (suc (suc count)) bound l f =
    let first : bound ≤ length_of (state_at start history (from + 1)) = subst (λ (k : ℕ). bound ≤ length_of (state_at start history k)) (add-zero (from + 1)) (f 0 (omega arith)) in
    let rest = least_at start history (from + 1) (suc count) bound (omega arith) next in
    omega (arith, first, rest)
  where
    next : (n : ℕ) → n < suc count → bound ≤ length_of (state_at start history (from + 1 + 1 + n))
    next n m = subst (λ (k : ℕ). bound ≤ length_of (state_at start history k)) (let same : from + 1 + suc n ≡ from + 1 + 1 + n = omega arith in same) (f (suc n) (omega (arith, m)))

pub low_is_least : (start : State) (history : History) (from to bound : ℕ) → from < to → ((place : ℕ) → from < place → place ≤ to → bound ≤ length_of (state_at start history place)) → bound ≤ low start history from to
low_is_least start history from to bound l f = least_at start history from (to - from) bound (omega arith) (λ n m. f (from + 1 + n) (omega arith) (omega arith))
