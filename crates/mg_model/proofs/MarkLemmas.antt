-- A pass over the marks, one mark on.
use Rattle.std.proofs.Common.{◌≡◌, ℕ, ◌+◌, ◌<◌, ◌≤◌, max, min, List, [], ◌∷◌, ◌++◌, length, take, get_or, nat_le, cond, Some, ap, ◌∙◌, arith}
use Rattle.std.specs.Option.{option_map_or}
use Rattle.std.specs.List.{filter}
use Rattle.std.proofs.lemmas.List.{append-nil, take_more}
use Rattle.std.proofs.lemmas.List.Elements.{filter-append}
use Rattle.std.proofs.lemmas.Bool.Decides.{nat_tests}
use Rattle.mg_model.specs.Mutations.{greatest}
use Rattle.mg_model.specs.State.{least}
use Rattle.mg_model.proofs.ListLemmas.{greatest-push, least-push}

filtered_more : (ms : List ℕ) (i place : ℕ) → i < length ms → filter (λ m. nat_le m place) (take (i + 1) ms) ≡ filter (λ m. nat_le m place) (take i ms) ++ cond (nat_le (get_or ms i 0) place) (get_or ms i 0 ∷ []) []
filtered_more ms i place h = ap (filter (λ m. nat_le m place)) (take_more ms i 0 h) ∙ filter-append (λ m. nat_le m place) (take i ms) (get_or ms i 0 ∷ [])

pub greatest_takes : (ms : List ℕ) (i place : ℕ) → i < length ms → get_or ms i 0 ≤ place
    → greatest (filter (λ m. nat_le m place) (take (i + 1) ms)) ≡ Some (option_map_or (λ k. max k (get_or ms i 0)) (greatest (filter (λ m. nat_le m place) (take i ms))) (get_or ms i 0))
greatest_takes ms i place h l = ap greatest (filtered_more ms i place h ∙ ap (λ ns. filter (λ m. nat_le m place) (take i ms) ++ ns) (passes (get_or ms i 0) l)) ∙ greatest-push (filter (λ m. nat_le m place) (take i ms)) (get_or ms i 0)
  where
    passes : (n : ℕ) → n ≤ place → cond (nat_le n place) (n ∷ []) [] ≡ n ∷ []
    passes n l = grind (arith, nat_tests)

pub greatest_skips : (ms : List ℕ) (i place : ℕ) → i < length ms → place < get_or ms i 0
    → greatest (filter (λ m. nat_le m place) (take (i + 1) ms)) ≡ greatest (filter (λ m. nat_le m place) (take i ms))
greatest_skips ms i place h l = ap greatest (filtered_more ms i place h ∙ ap (λ ns. filter (λ m. nat_le m place) (take i ms) ++ ns) (fails (get_or ms i 0) l) ∙ append-nil (filter (λ m. nat_le m place) (take i ms)))
  where
    fails : (n : ℕ) → place < n → cond (nat_le n place) (n ∷ []) [] ≡ []
    fails n l = grind (arith, nat_tests)

pub least_takes : (ms : List ℕ) (i : ℕ) → i < length ms → least (take (i + 1) ms) ≡ Some (option_map_or (λ k. min k (get_or ms i 0)) (least (take i ms)) (get_or ms i 0))
least_takes ms i h = ap least (take_more ms i 0 h) ∙ least-push (take i ms) (get_or ms i 0)
