-- Members of lists, how often a number occurs among them, and the newest of a key.
use Rattle.std.specs.Prelude.{◌≡◌, ◌⊎◌, ℕ, List, [], ◌∷◌, map, Bool, ◌==◌, unwrap_or}
use Rattle.std.specs.List.{count_by, filter, list_any}
use Rattle.std.specs.Str.{bytes_eq}
use Rattle.mg_types.specs.declared.keys.Key.{Key}
use Rattle.mg_model.specs.Mutations.{greatest}
use Rattle.mg_model.specs.State.{Rises}

-- x is a member of a list
abbrev pub Has : {X : Type 0} → List X → X → Type 0
Has [] x = ⊥
Has (y ∷ ys) x = (y ≡ x) ⊎ Has ys x

-- each member of the first list is a member of the second
abbrev pub Within : {X : Type 0} → List X → List X → Type 0
Within {X} xs ys = (x : X) → Has xs x → Has ys x

-- two lists have the same members
pub record SameMembers {X : Type 0} (xs ys : List X) : Type 0 where
  pub there : Within xs ys
  pub back : Within ys xs

-- each member's number is below those of the members behind it
abbrev pub RisesBy : {X : Type 0} → (X → ℕ) → List X → Type 0
RisesBy number xs = Rises (map number xs)

-- how many members have this number
abbrev pub times : {X : Type 0} → (X → ℕ) → ℕ → List X → ℕ
times number n xs = count_by (λ x. number x == n) xs

-- whether a member has this number
abbrev pub occurs : {X : Type 0} → (X → ℕ) → List X → ℕ → Bool
occurs number xs n = list_any (λ x. number x == n) xs

-- the greatest number of a member with this key, or 0 where there is none
abbrev pub newest_by : {X : Type 0} → (X → Key) → (X → ℕ) → List X → Key → ℕ
newest_by key number xs k = unwrap_or (greatest (map number (filter (λ x. bytes_eq (key x) k) xs))) 0
