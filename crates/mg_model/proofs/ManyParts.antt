-- The changes of one partition among those of all.
use Rattle.std.proofs.Common.{◌≡◌, ℕ, List, [], ◌∷◌, ◌++◌, map, Bool, true, false, cond, ◌==◌, refl, ap, sym, ◌∙◌}
use Rattle.std.specs.Bool.{if◌then◌else◌}
use Rattle.std.specs.Option.{option_to_list}
use Rattle.std.specs.List.{filter}
use Rattle.std.proofs.lemmas.List.{map-append}
use Rattle.std.proofs.lemmas.List.Elements.{filter-append}
use Rattle.std.proofs.lemmas.Bool.{eqb-true}
use Rattle.mg_model.specs.declared.calls.Call.{Call}
use Rattle.mg_model.specs.declared.calls.Change.{Change}
use Rattle.mg_model.specs.State.{step}
use Rattle.mg_model.specs.History.{change_of, changes_of}
use Rattle.mg_model.specs.Placed.{Opening, Placed, changes_at, changes_in, history_in, opening_after}

-- the calls of a partition
abbrev calls_of : List Placed → ℕ → List Call
calls_of placed part = map (λ e. e.1) (history_in placed part)

-- the changes that stand beside this partition's number, and beside another's
own_changes : (p part : ℕ) (cs : List Change) → (p == part) ≡ true → changes_at (map (λ c. (p, c)) cs) part ≡ cs
own_changes p part [] e = refl
own_changes p part (c ∷ cs) e =
    ap (λ (b : Bool). map (λ (d : ℕ × Change). d.1) (cond b ((p, c) ∷ filter (λ (d : ℕ × Change). d.0 == part) (map (λ c. (p, c)) cs)) (filter (λ (d : ℕ × Change). d.0 == part) (map (λ c. (p, c)) cs)))) e
    ∙ ap (λ (l : List Change). c ∷ l) (own_changes p part cs e)

other_changes : (p part : ℕ) (cs : List Change) → (p == part) ≡ false → changes_at (map (λ c. (p, c)) cs) part ≡ []
other_changes p part [] e = refl
other_changes p part (c ∷ cs) e =
    ap (λ (b : Bool). map (λ (d : ℕ × Change). d.1) (cond b ((p, c) ∷ filter (λ (d : ℕ × Change). d.0 == part) (map (λ c. (p, c)) cs)) (filter (λ (d : ℕ × Change). d.0 == part) (map (λ c. (p, c)) cs)))) e
    ∙ other_changes p part cs e

changes_at-append : (xs ys : List (ℕ × Change)) (part : ℕ) → changes_at (xs ++ ys) part ≡ changes_at xs part ++ changes_at ys part
changes_at-append xs ys part = ap (map (λ (d : ℕ × Change). d.1)) (filter-append (λ (d : ℕ × Change). d.0 == part) xs ys) ∙ map-append (λ (d : ℕ × Change). d.1) (filter (λ (d : ℕ × Change). d.0 == part) xs) (filter (λ (d : ℕ × Change). d.0 == part) ys)

-- restricted to a partition, the changes of all are the changes of its history
pub one_order : (opening : Opening) (placed : List Placed) (part : ℕ) → changes_at (changes_in opening placed) part ≡ changes_of (opening part) (calls_of placed part)
one_order opening [] part = refl
one_order opening (p ∷ placed) part = changes_at-append own (changes_in (opening_after opening p) placed) part ∙ by_part (p.part == part) refl (one_order (opening_after opening p) placed part)
  where
    own : List (ℕ × Change)
    own = map (λ c. (p.part, c)) (option_to_list (change_of (opening p.part) p.call))

    by_part : (b : Bool) → (p.part == part) ≡ b → changes_at (changes_in (opening_after opening p) placed) part ≡ changes_of (opening_after opening p part) (calls_of placed part)
        → changes_at (map (λ c. (p.part, c)) (option_to_list (change_of (opening p.part) p.call))) part ++ changes_at (changes_in (opening_after opening p) placed) part ≡ changes_of (opening part) (calls_of (p ∷ placed) part)
    by_part true e later =
        let same : p.part ≡ part = eqb-true p.part part e in
        ap (λ (l : List Change). l ++ changes_at (changes_in (opening_after opening p) placed) part) (own_changes p.part part (option_to_list (change_of (opening p.part) p.call)) e)
        ∙ ap (λ (k : ℕ). option_to_list (change_of (opening k) p.call) ++ changes_at (changes_in (opening_after opening p) placed) part) same
        ∙ ap (λ (l : List Change). option_to_list (change_of (opening part) p.call) ++ l) (later ∙ ap (λ (b : Bool). changes_of (if b then (step (opening part) p.call).state else opening part) (calls_of placed part)) e)
        ∙ sym (ap (λ (b : Bool). changes_of (opening part) (map (λ (e : ℕ × Call). e.1) (map (λ (q : Placed). (q.client, q.call)) (cond b (p ∷ filter (λ (q : Placed). q.part == part) placed) (filter (λ (q : Placed). q.part == part) placed))))) e)
    by_part false e later =
        ap (λ (l : List Change). l ++ changes_at (changes_in (opening_after opening p) placed) part) (other_changes p.part part (option_to_list (change_of (opening p.part) p.call)) e)
        ∙ later
        ∙ ap (λ (b : Bool). changes_of (if b then (step (opening part) p.call).state else opening part) (calls_of placed part)) e
        ∙ sym (ap (λ (b : Bool). changes_of (opening part) (map (λ (e : ℕ × Call). e.1) (map (λ (q : Placed). (q.client, q.call)) (cond b (p ∷ filter (λ (q : Placed). q.part == part) placed) (filter (λ (q : Placed). q.part == part) placed))))) e)

-- the history of a partition through some placed calls and more
pub history-append : (xs ys : List Placed) (part : ℕ) → history_in (xs ++ ys) part ≡ history_in xs part ++ history_in ys part
history-append xs ys part =
    ap (map (λ (q : Placed). (q.client, q.call))) (filter-append (λ (q : Placed). q.part == part) xs ys)
    ∙ map-append (λ (q : Placed). (q.client, q.call)) (filter (λ (q : Placed). q.part == part) xs) (filter (λ (q : Placed). q.part == part) ys)
