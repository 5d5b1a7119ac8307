-- Where the shared log is cut, each partition is left with a front of its history.
use Rattle.std.proofs.Common.{◌≡◌, ℕ, zero, suc, ◌-◌, ◌≤◌, List, [], ◌∷◌, ◌++◌, map, take, Option, None, Some, refl, ap, sym, ◌∙◌, arith}
use Rattle.std.specs.Option.{option_to_list}
use Rattle.std.proofs.Math.Seq.{take-nil}
use Rattle.mg_model.specs.declared.calls.Call.{Call}
use Rattle.mg_model.specs.declared.calls.Change.{Change}
use Rattle.mg_model.specs.History.{after_changes, change_of}
use Rattle.mg_model.specs.Placed.{CutsBehind, Opening, Placed, changes_at, changes_in, history_in, opening_after, up_to}
use Rattle.mg_model.proofs.HistoryLemmas.{changes_lead}
use Rattle.mg_model.proofs.ManyParts.{history-append, one_order}

-- the first placed calls, which made just so many changes
record Front (opening : Opening) (count : ℕ) (placed : List Placed) : Type 0 where
  first : List Placed
  later : List Placed
  whole : placed ≡ first ++ later
  changes : take count (changes_in opening placed) ≡ changes_in opening first

front_of : (opening : Opening) (count : ℕ) (placed : List Placed) → Front opening count placed
front_of opening count [] = record { first = []; later = []; whole = refl; changes = take-nil count }
front_of opening count (p ∷ placed) = by_change (change_of (opening p.part) p.call) refl count (λ n. front_of (opening_after opening p) n placed)
  where
    -- the changes of these calls behind the first one's
    with_first : Option Change → List Placed → List (ℕ × Change)
    with_first o calls = map (λ c. (p.part, c)) (option_to_list o) ++ changes_in (opening_after opening p) calls

    by_change : (o : Option Change) → change_of (opening p.part) p.call ≡ o → (n : ℕ) → ((k : ℕ) → Front (opening_after opening p) k placed) → Front opening n (p ∷ placed)
    by_change None e n rest =
        let f = rest n in
        record {
          first = p ∷ f.first;
          later = f.later;
          whole = ap (λ (l : List Placed). p ∷ l) f.whole;
          changes = ap (λ (o : Option Change). take n (with_first o placed)) e ∙ f.changes ∙ sym (ap (λ (o : Option Change). with_first o f.first) e);
        }
    by_change (Some c) e zero rest = record { first = []; later = p ∷ placed; whole = refl; changes = refl }
    by_change (Some c) e (suc n) rest =
        let f = rest n in
        record {
          first = p ∷ f.first;
          later = f.later;
          whole = ap (λ (l : List Placed). p ∷ l) f.whole;
          changes = ap (λ (o : Option Change). take (suc n) (with_first o placed)) e ∙ ap (λ (l : List (ℕ × Change)). (p.part, c) ∷ l) f.changes ∙ sym (ap (λ (o : Option Change). with_first o f.first) e);
        }

pub cut_leaves_fronts : (opening : Opening) (counted number : ℕ) (placed : List Placed) → CutsBehind opening counted number placed
cut_leaves_fronts opening counted number placed =
    let f = front_of opening (number - counted) placed in
    record {
      first = f.first;
      later = f.later;
      whole = f.whole;
      changes = f.changes;
      histories = λ part. ap (λ (l : List Placed). history_in l part) f.whole ∙ history-append f.first f.later part;
      states = λ part.
          ap (λ (l : List (ℕ × Change)). after_changes (opening part) (changes_at l part)) f.changes
          ∙ ap (after_changes (opening part)) (one_order opening f.first part)
          ∙ changes_lead (opening part) (map (λ (e : ℕ × Call). e.1) (history_in f.first part));
    }

take-take : {X : Type 0} (n m : ℕ) (xs : List X) → n ≤ m → take n (take m xs) ≡ take n xs
take-take zero m xs l = refl
take-take (suc n) zero xs l = absurd (omega (arith, l))
take-take (suc n) (suc m) [] l = refl
take-take (suc n) (suc m) (x ∷ xs) l = ap (λ ys. x ∷ ys) (take-take n m xs (omega (arith, l)))

pub later_has_earlier : (counted earlier number : ℕ) (changes : List (ℕ × Change)) → earlier ≤ number → up_to counted earlier (up_to counted number changes) ≡ up_to counted earlier changes
later_has_earlier counted earlier number changes l = take-take (earlier - counted) (number - counted) changes (omega (arith, l))
