-- Bytes, cut at their first separator.
use Rattle.std.proofs.Common.{◌≡◌, ℕ, ◌+◌, ◌<◌, ◌≤◌, List, [], ◌∷◌, ◌++◌, length, take, drop, get_or, Bool, true, false, refl, ap, sym, ◌∙◌, arith}
use Rattle.std.specs.Bool.{◌==◌}
use Rattle.std.specs.List.{slice_split}
use Rattle.std.proofs.lemmas.List.{take-append-drop, drop_more, get_or-take, get_or_default, length-take-le, drop-drop}
use Rattle.std.proofs.lemmas.List.Splits.{slice_split_at, slice_split_none}

is_false : (b : Bool) → (b ≡ true → ⊥) → b ≡ false
is_false true h = absurd (h refl)
is_false false h = refl

-- the separator stands first at k
pub cut_at : (s : ℕ) (xs : List ℕ) (k : ℕ) → k < length xs → (get_or xs k 0 == s) ≡ true → ((j : ℕ) → j < k → (get_or xs j 0 == s) ≡ true → ⊥)
    → slice_split (λ b. b == s) xs ≡ take k xs ∷ slice_split (λ b. b == s) (drop 1 (drop k xs))
cut_at s xs k h here before =
    let parts : xs ≡ take k xs ++ get_or xs k 0 ∷ drop (k + 1) xs = sym (take-append-drop k xs) ∙ ap (λ (l : List ℕ). take k xs ++ l) (drop_more xs k 0 h) in
    let behind : drop (k + 1) xs ≡ drop 1 (drop k xs) = sym (drop-drop 1 k xs) in
    ap (slice_split (λ b. b == s)) parts
    ∙ slice_split_at (λ b. b == s) (take k xs) (get_or xs k 0) (drop (k + 1) xs) none here
    ∙ ap (λ (l : List ℕ). take k xs ∷ slice_split (λ b. b == s) l) behind
  where
    none : (j : ℕ) (d : ℕ) → j < length (take k xs) → (get_or (take k xs) j d == s) ≡ false
    none j d l =
        let low : j < k = omega (arith, length-take-le k xs) in
        let e : get_or (take k xs) j d ≡ get_or xs j 0 = get_or-take k xs j d low ∙ get_or_default xs j d 0 (omega arith) in
        is_false (get_or (take k xs) j d == s) (λ t. before j low (ap (λ b. b == s) (sym e) ∙ t))

-- the separator stands nowhere
pub cut_nowhere : (s : ℕ) (xs : List ℕ) → ((j : ℕ) → 0 ≤ j → j < length xs → (get_or xs j 0 == s) ≡ true → ⊥) → slice_split (λ b. b == s) xs ≡ xs ∷ []
cut_nowhere s xs nowhere = slice_split_none (λ b. b == s) xs (λ j d l. is_false (get_or xs j d == s) (λ t. nowhere j (omega arith) l (ap (λ b. b == s) (get_or_default xs j 0 d l) ∙ t)))
