-- A history: the entries of all callers in one order, each with its caller.
use Rattle.std.specs.Prelude.{◌≡◌, ℕ, ◌+◌, ◌≤◌, List, [], ◌∷◌, ◌++◌, map, length, ◌==◌, if◌then◌else◌, nat_lt}
use Rattle.std.specs.List.{filter}

-- the list begins with these, and goes on by some rest
abbrev pub IsPrefix : {A : Type 0} → List A → List A → Type 0
IsPrefix {A} xs ys = (rest : List A) × (xs ++ rest ≡ ys)

-- the entries of one caller, in order
abbrev pub calls_by : {E : Type 0} → ℕ → List (ℕ × E) → List E
calls_by caller history = map (λ x. x.1) (filter (λ x. x.0 == caller) history)

-- the longer of two lists
abbrev pub longer : {A : Type 0} → List A → List A → List A
longer xs ys = if nat_lt (length xs) (length ys) then ys else xs

-- the other one
abbrev pub shorter : {A : Type 0} → List A → List A → List A
shorter xs ys = if nat_lt (length xs) (length ys) then xs else ys

-- the sum of f over a list
abbrev pub total : {A : Type 0} → (A → ℕ) → List A → ℕ
total f [] = 0
total f (x ∷ xs) = f x + total f xs

-- how often the caller stands among these, each a caller with its calls
abbrev pub times_among : {E : Type 0} → ℕ → List (ℕ × List E) → ℕ
times_among caller own = total (λ o. if o.0 == caller then 1 else 0) own

-- these callers differ: each stands there once at most
abbrev pub AreApart : {E : Type 0} → List (ℕ × List E) → Type 0
AreApart own = (caller : ℕ) → times_among caller own ≤ 1

-- each of these callers made just these calls
abbrev pub AreCalls : {E : Type 0} → List (ℕ × E) → List (ℕ × List E) → Type 0
AreCalls history [] = Unit {0}
AreCalls history (o ∷ os) = (calls_by o.0 history ≡ o.1) × AreCalls history os

-- nobody else made a call
abbrev pub NoOthers : {E : Type 0} → List (ℕ × E) → List (ℕ × List E) → Type 0
NoOthers history own = (caller : ℕ) → times_among caller own ≡ 0 → calls_by caller history ≡ []

-- how many calls these callers made together
abbrev pub calls_in : {E : Type 0} → List (ℕ × List E) → ℕ
calls_in own = total (λ o. length o.1) own
