-- How values are spelled as bytes.
use Rattle.std.specs.Prelude.{◌≡◌, ℕ, ◌<◌, ◌^◌, List, [], ◌∷◌, ◌++◌, length, Option, IfSome, IsSome}
use Rattle.std.specs.Borrow.{Bor}
use Rattle.std.specs.List.{AllByRecursion}
use Rattle.mg_frame.specs.BigEndian.{big_endian}

-- what is said of a type that is spelled
pub record Spelling (X : Type 0) : Type 1 where
  -- the bytes that spell it
  pub bytes : X → List ℕ
  -- its fields have room for what it says
  pub fits : X → Type 0

-- the spellings of a list's values, one after another
abbrev pub listed : {X : Type 0} → Spelling X → List X → List ℕ
listed spelling [] = []
listed spelling (x ∷ xs) = spelling.bytes x ++ listed spelling xs

-- so many values, one after another
abbrev pub so_many : {X : Type 0} → ℕ → Spelling X → Spelling (List X)
so_many count spelling =
    record { bytes = λ xs. listed spelling xs; fits = λ xs. (length xs ≡ count) × AllByRecursion spelling.fits xs }

-- values after their number, which has `width` bytes
abbrev pub counted_list : {X : Type 0} → ℕ → Spelling X → Spelling (List X)
counted_list width spelling =
    record {
      bytes = λ xs. big_endian width (length xs) ++ listed spelling xs;
      fits = λ xs. (length xs < 256 ^ width) × AllByRecursion spelling.fits xs;
    }

-- What was found at the front of the bytes is the value that is spelled there and what follows it, and nothing only where none is spelled there.
abbrev pub IsSplit : {X : Type 0} → Spelling X → List ℕ → Option (X × Bor (List ℕ)) → Type 0
IsSplit spelling bytes found =
    IfSome found (λ split. spelling.fits split.0 × (bytes ≡ spelling.bytes split.0 ++ split.1.now))
    × ((x : _) (rest : List ℕ) → spelling.fits x → bytes ≡ spelling.bytes x ++ rest → IsSome found × IfSome found (λ split. (split.0 ≡ x) × (split.1.now ≡ rest)))

-- a value and what follows its spelling are spelled in one way
abbrev pub HasOneSpelling : {X : Type 0} → Spelling X → Type 0
HasOneSpelling {X} spelling = (x y : X) (rest more : List ℕ) → spelling.fits x → spelling.fits y → spelling.bytes x ++ rest ≡ spelling.bytes y ++ more → (x ≡ y) × (rest ≡ more)
