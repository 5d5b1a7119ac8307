-- The places that a client is shown are those of its calls in the history.
use Rattle.std.proofs.Common.{◌≡◌, ℕ, ◌+◌, List, [], ◌∷◌, ◌++◌, length, map, Bool, true, false, cond, Option, None, Some, Result, IfSome, refl, add-zero, ap, subst, sym, ◌∙◌, arith}
use Rattle.std.specs.Bool.{◌==◌, if◌then◌else◌}
use Rattle.std.specs.Option.{option_to_list}
use Rattle.std.specs.List.{filter, flat_map}
use Rattle.std.proofs.lemmas.List.{length-append}
use Rattle.std.proofs.lemmas.Bool.{eqb-true}
use Rattle.mg_types.specs.declared.faults.Fault.{Fault}
use Rattle.mg_model.specs.declared.calls.Call.{Call}
use Rattle.mg_model.specs.declared.replies.Answer.{Answer}
use Rattle.mg_model.specs.declared.replies.Reply.{Reply}
use Rattle.mg_model.specs.History.{History, own_places, own_places_from}
use Rattle.mg_model.specs.Fits.{entered}
use Rattle.mg_model.specs.Placed.{Placed, calls_in, history_in}
use Rattle.mg_model.proofs.ManyParts.{history-append}
use Rattle.mg_script.specs.declared.script.Line.{Line}
use Rattle.mg_serve.specs.Placed.{placed_by, placed_of}
use Rattle.mg_serve.specs.Answers.{AllFit}
use Rattle.mg_wal.specs.Lists.{Basis}
use Rattle.mg_serve.specs.Told.{numbered, numbered_answer, NumberedAnswer, places_shown, told_by}

own_places-append : (n : ℕ) (xs ys : History) (client : ℕ) → own_places_from n (xs ++ ys) client ≡ own_places_from n xs client ++ own_places_from (n + length xs) ys client
own_places-append n [] ys client = ap (λ (k : ℕ). own_places_from k ys client) (sym (add-zero n))
own_places-append n (x ∷ xs) ys client = by_client (x.0 == client) (own_places-append (n + 1) xs ys client ∙ ap (λ (k : ℕ). own_places_from (n + 1) xs client ++ own_places_from k ys client) place)
  where
    place : n + 1 + length xs ≡ n + length (x ∷ xs)
    place = omega arith

    by_client : (b : Bool) → own_places_from (n + 1) (xs ++ ys) client ≡ own_places_from (n + 1) xs client ++ own_places_from (n + length (x ∷ xs)) ys client
        → (if b then n ∷ own_places_from (n + 1) (xs ++ ys) client else own_places_from (n + 1) (xs ++ ys) client)
        ≡ (if b then n ∷ own_places_from (n + 1) xs client else own_places_from (n + 1) xs client) ++ own_places_from (n + length (x ∷ xs)) ys client
    by_client true h = ap (λ (l : List ℕ). n ∷ l) h
    by_client false h = h

-- the place of one answer, where it is to this client and of this partition
abbrev one_place : Bool → Bool → Option ℕ → List ℕ
one_place is_client is_part place = cond is_client (cond is_part (option_to_list place) []) []

-- the places of an answer and of those behind it
shown-cons : (it : NumberedAnswer) (its : List NumberedAnswer) (client part : ℕ) → places_shown (it ∷ its) client part ≡ one_place (it.client == client) (it.part == part) it.answer.place ++ places_shown its client part
shown-cons it its client part = by_client (it.client == client)
  where
    places : List NumberedAnswer → List ℕ
    places own = flat_map (λ (a : NumberedAnswer). option_to_list a.answer.place) own

    of_part : List NumberedAnswer → List NumberedAnswer
    of_part own = filter (λ (a : NumberedAnswer). a.part == part) own

    by_part : (b : Bool) → places (cond b (it ∷ of_part (told_by its client)) (of_part (told_by its client))) ≡ cond b (option_to_list it.answer.place) [] ++ places_shown its client part
    by_part true = refl
    by_part false = refl

    by_client : (b : Bool) → places (of_part (cond b (it ∷ told_by its client) (told_by its client))) ≡ one_place b (it.part == part) it.answer.place ++ places_shown its client part
    by_client true = by_part (it.part == part)
    by_client false = refl

-- an answer's place is the own place of its call
one_own : (n : ℕ) (line : Line) (place : Option ℕ) (result : Result Reply Fault) (client part : ℕ) → (line.part ≡ part → IfSome place (λ p. p ≡ n))
    → one_place (line.client == client) (line.part == part) place ≡ own_places_from n (history_in (placed_by line (record { place = place; result = result })) part) client
one_own n line None result client part h = none (line.client == client) (line.part == part)
  where
    none : (is_client is_part : Bool) → one_place is_client is_part None ≡ []
    none true true = refl
    none true false = refl
    none false is_part = refl
one_own n line (Some place) result client part h = by_part (line.part == part) refl
  where
    call : Call
    call = entered line.call result

    by_client : (b : Bool) → place ≡ n → cond b (place ∷ []) [] ≡ (if b then n ∷ [] else [])
    by_client true same = ap (λ (k : ℕ). k ∷ []) same
    by_client false same = refl

    none : (b : Bool) → cond {A = List ℕ} b [] [] ≡ []
    none true = refl
    none false = refl

    by_part : (b : Bool) → (line.part == part) ≡ b
        → one_place (line.client == client) b (Some place) ≡ own_places_from n (map (λ (p : Placed). (p.client, p.call)) (cond b (record { part = line.part; client = line.client; call = call } ∷ []) [])) client
    by_part true e = by_client (line.client == client) (h (eqb-true line.part part e))
    by_part false e = none (line.client == client)

shown_from : (basis : Basis) (before : List Placed) (earlier lines : List Line) (answers : List Answer) (client part : ℕ) → AllFit basis before lines answers
    → places_shown (numbered earlier lines answers) client part ≡ own_places_from (calls_in before part + 1) (history_in (placed_of lines answers) part) client
shown_from basis before earlier [] [] client part fit = refl
shown_from basis before earlier [] (answer ∷ answers) client part fit = absurd fit
shown_from basis before earlier (line ∷ lines) [] client part fit = absurd fit
shown_from basis before earlier (line ∷ lines) (answer ∷ answers) client part fit =
    let here = placed_by line answer in
    let behind = placed_of lines answers in
    let n : ℕ = calls_in before part + 1 in
    let next : calls_in (before ++ here) part + 1 ≡ calls_in before part + 1 + length (history_in here part) =
    ap (λ (h : History). length h + 1) (history-append before here part) ∙ more (length (history_in before part ++ history_in here part)) (calls_in before part) (length (history_in here part)) (length-append (history_in before part) (history_in here part)) in
    shown-cons (numbered_answer earlier line answer) (numbered (earlier ++ line ∷ []) lines answers) client part
    ∙ ap (λ (l : List ℕ). l ++ places_shown (numbered (earlier ++ line ∷ []) lines answers) client part) (one_own n line answer.place answer.result client part (at fit.0.last))
    ∙ ap (λ (l : List ℕ). own_places_from n (history_in here part) client ++ l) (shown_from basis (before ++ here) (earlier ++ line ∷ []) lines answers client part fit.1 ∙ ap (λ (k : ℕ). own_places_from k (history_in behind part) client) next)
    ∙ sym (own_places-append n (history_in here part) (history_in behind part) client)
    ∙ sym (ap (λ (h : History). own_places_from n h client) (history-append here behind part))
  where
    more : (a b c : ℕ) → a ≡ b + c → a + 1 ≡ b + 1 + c
    more a b c e = omega (arith, e)

    at : IfSome answer.place (λ place. place ≡ calls_in before line.part + 1) → line.part ≡ part → IfSome answer.place (λ place. place ≡ calls_in before part + 1)
    at h same = subst (λ (k : ℕ). IfSome answer.place (λ place. place ≡ calls_in before k + 1)) same h

pub shown_places : (basis : Basis) (lines : List Line) (answers : List Answer) (client part : ℕ) → AllFit basis [] lines answers → places_shown (numbered [] lines answers) client part ≡ own_places (history_in (placed_of lines answers) part) client
shown_places basis lines answers client part fit = shown_from basis [] [] lines answers client part fit
