-- A kind of numbered record, and what its records look like in a block.
use Rattle.std.specs.Prelude.{◌≡◌, ℕ, ◌-◌, ◌<◌, ◌≤◌, ◌^◌, List, ◌++◌, length, Option, Some, None}
use Rattle.mg_frame.specs.BigEndian.{big_endian}

-- what is said of the records of a kind
pub record Kind (T : Type 0) : Type 1 where
  pub seq : T → ℕ
  pub size : T → ℕ
  -- the bytes that follow its number in a block
  pub contents : T → List ℕ
  -- its contents may stand in a file
  pub fits : T → Type 0

-- What each kind keeps: sizes and lengths are in range, contents go with each number, and they end by themselves, so that a list of
-- records has one spelling.
pub record IsLawful {T : Type 0} (kind : Kind T) : Type 0 where
  pub some_size : (it : T) → kind.fits it → 1 ≤ kind.size it
  pub most_size : (it : T) → kind.fits it → kind.size it ≤ 1048826
  pub most_bytes : (it : T) → kind.fits it → length (kind.contents it) ≤ 2 ^ 21 - 9
  pub numbered : (it : T) (number : ℕ) → kind.fits it → (other : T) × (kind.seq other ≡ number) × kind.fits other × (kind.contents other ≡ kind.contents it)
  pub one_spelling : (it other : T) (rest rest' : List ℕ) → kind.fits it → kind.fits other → kind.seq it ≡ kind.seq other
      → kind.contents it ++ rest ≡ kind.contents other ++ rest' → (it ≡ other) × (rest ≡ rest')

-- a record's bytes in a block: its number in 8 bytes, and then its contents
abbrev pub record_bytes : {T : Type 0} → Kind T → T → List ℕ
record_bytes kind it = big_endian 8 (kind.seq it) ++ kind.contents it

-- A record may stand in a file: numbers begin at 1 and are below 2 ^ 62.
pub record IsRecord {T : Type 0} (kind : Kind T) (it : T) : Type 0 where
  pub some : 1 ≤ kind.seq it
  pub small : kind.seq it < 2 ^ 62
  pub fits : kind.fits it

-- the bytes are the contents of a record
abbrev pub IsContents : {T : Type 0} → Kind T → List ℕ → Type 0
IsContents {T} kind bytes = (it : T) × kind.fits it × (bytes ≡ kind.contents it)

-- the bytes begin with contents of this length, or with none
abbrev pub Measures : {T : Type 0} → Kind T → List ℕ → Option ℕ → Type 0
Measures {T} kind bytes (Some len) = (it : T) × (rest : List ℕ) × kind.fits it × (bytes ≡ kind.contents it ++ rest) × (len ≡ length (kind.contents it))
Measures {T} kind bytes None = (it : T) (rest : List ℕ) → kind.fits it → bytes ≡ kind.contents it ++ rest → ⊥

-- the record of this number and these contents
abbrev pub IsTaken : {T : Type 0} → Kind T → ℕ → List ℕ → T → Type 0
IsTaken kind number bytes it = (kind.seq it ≡ number) × kind.fits it × (bytes ≡ kind.contents it)
