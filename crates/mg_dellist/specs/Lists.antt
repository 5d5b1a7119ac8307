-- Delete lists in memory.
use Rattle.std.specs.Prelude.{ℕ, ◌≢◌, ◌||◌, Bool, List, nat_lt}
use Rattle.std.specs.List.{All}
use Rattle.mg_types.specs.declared.items.Dead.{Dead}

-- the two lists have no number in common
abbrev pub AreApart : List Dead → List Dead → Type 0
AreApart a b = All (λ x. All (λ y. x.seq ≢ y.seq) b) a

-- a number is not from `first` to `last`
abbrev pub is_outside : ℕ → ℕ → ℕ → Bool
is_outside first last seq = nat_lt seq first || nat_lt last seq
