-- How many calls each client made, one call on.
use Rattle.std.proofs.Common.{◌≡◌, ◌≢◌, ◌<◌, ℕ, ◌+◌, List, [], ◌∷◌, ◌++◌, length, Bool, cond, ⊎_elim, add-zero, zero-add, ap, sym, ◌∙◌, arith, get_or-set_same, get_or-set_other}
use Rattle.std.specs.Bool.{◌==◌}
use Rattle.std.specs.List.{count_by, slice_index, slice_set}
use Rattle.std.proofs.lemmas.List.Sums.{sum_by-append}
use Rattle.std.proofs.lemmas.Bool.{cases_eq}
use Rattle.std.proofs.lemmas.Bool.Decides.{nat_tests}
use Rattle.mg_script.specs.declared.script.Line.{Line}

-- one more to count
pub count-push : {X : Type 0} (p : X → Bool) (xs : List X) (x : X) → count_by p (xs ++ x ∷ []) ≡ count_by p xs + cond (p x) 1 0
count-push p xs x = let parts : count_by p (xs ++ x ∷ []) ≡ count_by p xs + (0 + cond (p x) 1 0) = sum_by-append (λ y. cond (p y) 1 0) xs (x ∷ []) in parts ∙ ap (λ n. count_by p xs + n) (zero-add (cond (p x) 1 0))

-- one call more of a client, where the others have as many as before
pub counted : (counts : List ℕ) (lines : List Line) (line : Line) (client : ℕ) → client < length counts → client ≡ line.client → client < 16
    → ((k : ℕ) → k < 16 → slice_index counts k ≡ count_by (λ (other : Line). other.client == k) lines) → (k : ℕ) → k < 16
    → slice_index (slice_set counts client (slice_index counts client + 1)) k ≡ count_by (λ (other : Line). other.client == k) (lines ++ line ∷ [])
counted counts lines line client within e m so_far k l = ⊎_elim same other (cases_eq k client)
  where
    yes : (a b : ℕ) → a ≡ b → cond {A = ℕ} (a == b) 1 0 ≡ 1
    yes a b h = grind (arith, nat_tests)

    no : (a b : ℕ) → a ≢ b → cond {A = ℕ} (a == b) 1 0 ≡ 0
    no a b h = grind (arith, nat_tests)

    same : k ≡ client → slice_index (slice_set counts client (slice_index counts client + 1)) k ≡ count_by (λ (other : Line). other.client == k) (lines ++ line ∷ [])
    same h =
        ap (λ i. slice_index (slice_set counts client (slice_index counts client + 1)) i) h
        ∙ get_or-set_same counts client (slice_index counts client + 1) 0 within
        ∙ ap (λ i. slice_index counts i + 1) (sym h)
        ∙ ap (λ n. n + 1) (so_far k l)
        ∙ sym (count-push (λ (other : Line). other.client == k) lines line ∙ ap (λ n. count_by (λ (other : Line). other.client == k) lines + n) (yes line.client k (sym e ∙ sym h)))

    other : k ≢ client → slice_index (slice_set counts client (slice_index counts client + 1)) k ≡ count_by (λ (other : Line). other.client == k) (lines ++ line ∷ [])
    other h =
        get_or-set_other counts client k (slice_index counts client + 1) 0 h
        ∙ so_far k l
        ∙ sym (count-push (λ (other : Line). other.client == k) lines line ∙ ap (λ n. count_by (λ (other : Line). other.client == k) lines + n) (no line.client k (λ q. h (sym q ∙ sym e))) ∙ add-zero (count_by (λ (other : Line). other.client == k) lines))
