-- One placed call more: the changes, the states and the numbers of calls.
use Rattle.std.proofs.Common.{◌≡◌, ◌≢◌, ℕ, List, [], ◌∷◌, ◌++◌, map, Bool, true, false, cond, ◌==◌, refl, ap, sym, ◌∙◌, append_assoc, subst, arith, ⊎_elim}
use Rattle.std.specs.Bool.{if◌then◌else◌}
use Rattle.std.specs.Option.{option_to_list}
use Rattle.std.specs.List.{filter}
use Rattle.std.proofs.lemmas.List.{append-nil, map-append}
use Rattle.std.proofs.lemmas.List.Elements.{filter-append}
use Rattle.std.proofs.lemmas.List.Sums.{fold-append}
use Rattle.std.proofs.lemmas.Bool.{cases_eq}
use Rattle.std.proofs.lemmas.Bool.Decides.{nat_tests}
use Rattle.mg_model.specs.declared.calls.Call.{Call}
use Rattle.mg_model.specs.declared.calls.Change.{Change}
use Rattle.mg_model.specs.State.{new_state, step, State}
use Rattle.mg_model.specs.History.{after_calls, after_change, after_changes, after_history, change_of, History}
use Rattle.mg_model.specs.Placed.{changes_at, changes_in, history_in, opening_after, state_in, Opening, Placed}
use Rattle.mg_model.proofs.HistoryLemmas.{changes_lead}
use Rattle.mg_model.proofs.ManyParts.{history-append, one_order}
use Rattle.mg_recover.specs.Made.{states_after, AllMade, AreMade, MayMake}
use Rattle.mg_wal.specs.Book.{Entry}

-- the changes of one call, where it finds this state
abbrev pub own : State → Placed → List Entry
own s p = map (λ c. (p.part, c)) (option_to_list (change_of s p.call))

-- the state of a partition behind the first call
state-cons : (opening : Opening) (q : Placed) (placed : List Placed) (part : ℕ) → state_in (opening_after opening q) placed part ≡ state_in opening (q ∷ placed) part
state-cons opening q placed part = by_part (q.part == part) refl
  where
    seen : Placed → ℕ × Call
    seen p = (p.client, p.call)

    rest : List Placed
    rest = filter (λ (p : Placed). p.part == part) placed

    by_part : (b : Bool) → (q.part == part) ≡ b → state_in (opening_after opening q) placed part ≡ state_in opening (q ∷ placed) part
    by_part true e =
        ap (λ (b : Bool). after_history (if b then (step (opening part) q.call).state else opening part) (history_in placed part)) e
        ∙ sym (ap (λ (b : Bool). after_history (opening part) (map (λ (p : Placed). (p.client, p.call)) (cond b (q ∷ filter (λ (p : Placed). p.part == part) placed) (filter (λ (p : Placed). p.part == part) placed)))) e)
    by_part false e =
        ap (λ (b : Bool). after_history (if b then (step (opening part) q.call).state else opening part) (history_in placed part)) e
        ∙ sym (ap (λ (b : Bool). after_history (opening part) (map (λ (p : Placed). (p.client, p.call)) (cond b (q ∷ filter (λ (p : Placed). p.part == part) placed) (filter (λ (p : Placed). p.part == part) placed)))) e)

-- the changes with one call more
pub changes-push : (opening : Opening) (placed : List Placed) (p : Placed) → changes_in opening (placed ++ p ∷ []) ≡ changes_in opening placed ++ own (state_in opening placed p.part) p
changes-push opening [] p = append-nil (own (opening p.part) p)
changes-push opening (q ∷ placed) p =
    ap (λ (cs : List Entry). own (opening q.part) q ++ cs) (changes-push (opening_after opening q) placed p)
    ∙ sym (append_assoc (own (opening q.part) q) (changes_in (opening_after opening q) placed) (own (state_in (opening_after opening q) placed p.part) p))
    ∙ ap (λ (s : State). changes_in opening (q ∷ placed) ++ own s p) (state-cons opening q placed p.part)

-- the history of the call's own partition, and of another
same : (n : ℕ) → (n == n) ≡ true
same n = grind (arith, nat_tests)

apart : (m n : ℕ) → m ≢ n → (m == n) ≡ false
apart m n h = grind (arith, nat_tests)

pub history-own : (placed : List Placed) (p : Placed) → history_in (placed ++ p ∷ []) p.part ≡ history_in placed p.part ++ (p.client, p.call) ∷ []
history-own placed p =
    history-append placed (p ∷ []) p.part
    ∙ ap (λ (b : Bool). history_in placed p.part ++ map (λ (q : Placed). (q.client, q.call)) (cond b (p ∷ []) [])) (same p.part)

pub history-other : (placed : List Placed) (p : Placed) (part : ℕ) → p.part ≢ part → history_in (placed ++ p ∷ []) part ≡ history_in placed part
history-other placed p part h =
    history-append placed (p ∷ []) part
    ∙ ap (λ (b : Bool). history_in placed part ++ map (λ (q : Placed). (q.client, q.call)) (cond b (p ∷ []) [])) (apart p.part part h)
    ∙ append-nil (history_in placed part)

-- the state of the call's own partition
pub state-on : (s : State) (history : History) (client : ℕ) (call : Call) → after_history s (history ++ (client, call) ∷ []) ≡ (step (after_history s history) call).state
state-on s history client call =
    ap (λ (calls : List Call). after_calls s calls) (map-append (λ (e : ℕ × Call). e.1) history ((client, call) ∷ []))
    ∙ fold-append (λ (t : State) (c : Call). (step t c).state) s (map (λ (e : ℕ × Call). e.1) history) (call ∷ [])

-- the changes of one partition, in two parts
changes_at-append : (xs ys : List Entry) (part : ℕ) → changes_at (xs ++ ys) part ≡ changes_at xs part ++ changes_at ys part
changes_at-append xs ys part = ap (map (λ (d : Entry). d.1)) (filter-append (λ (d : Entry). d.0 == part) xs ys) ∙ map-append (λ (d : Entry). d.1) (filter (λ (d : Entry). d.0 == part) xs) (filter (λ (d : Entry). d.0 == part) ys)

-- behind the changes of the opening, those of a run lead where its calls lead
pub states_lead : (opened : List Entry) (placed : List Placed) (part : ℕ) → states_after (opened ++ changes_in (states_after opened) placed) part ≡ state_in (states_after opened) placed part
states_lead opened placed part =
    ap (after_changes new_state) (changes_at-append opened (changes_in (states_after opened) placed) part)
    ∙ fold-append after_change new_state (changes_at opened part) (changes_at (changes_in (states_after opened) placed) part)
    ∙ ap (after_changes (states_after opened part)) (one_order (states_after opened) placed part)
    ∙ changes_lead (states_after opened part) (map (λ (e : ℕ × Call). e.1) (history_in placed part))

-- one change more that may be made
made-push : (s : State) (changes : List Change) (change : Change) → AllMade s changes → MayMake (after_changes s changes) change → AllMade s (changes ++ change ∷ [])
made-push s [] change a m = (m, tt)
made-push s (c ∷ changes) change a m = (a.0, made-push (after_change s c) changes change a.1 m)

pub are_made-push : (entries : List Entry) (part : ℕ) (change : Change) → AreMade entries → MayMake (states_after entries part) change → AreMade (entries ++ (part, change) ∷ [])
are_made-push entries part change a m k = ⊎_elim own_part other (cases_eq part k)
  where
    at_k : (b : Bool) → (part == k) ≡ b → changes_at (entries ++ (part, change) ∷ []) k ≡ changes_at entries k ++ map (λ (d : Entry). d.1) (cond b ((part, change) ∷ []) [])
    at_k b e = changes_at-append entries ((part, change) ∷ []) k ∙ ap (λ (b : Bool). changes_at entries k ++ map (λ (d : Entry). d.1) (cond b ((part, change) ∷ []) [])) e

    own_part : part ≡ k → AllMade new_state (changes_at (entries ++ (part, change) ∷ []) k)
    own_part e =
        subst (λ (cs : List Change). AllMade new_state cs) (sym (at_k true (subst (λ (n : ℕ). (part == n) ≡ true) e (same part))))
        (made-push new_state (changes_at entries k) change (a k) (subst (λ (n : ℕ). MayMake (states_after entries n) change) e m))

    other : part ≢ k → AllMade new_state (changes_at (entries ++ (part, change) ∷ []) k)
    other h = subst (λ (cs : List Change). AllMade new_state cs) (sym (at_k false (apart part k h) ∙ append-nil (changes_at entries k))) (a k)
