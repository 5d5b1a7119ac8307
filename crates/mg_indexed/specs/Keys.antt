-- The first keys of blocks, as an index has them.
use Rattle.std.specs.Prelude.{◌≡◌, ℕ, ◌≤◌, ◌^◌, ◌⊎◌, List, ◌++◌, length, Result, Ok, Err}
use Rattle.mg_types.specs.declared.faults.Fault.{Fault}
use Rattle.mg_types.specs.declared.faults.Fault.TheVariants.{NoMemory}
use Rattle.mg_types.specs.declared.names.FileId.{FileId}
use Rattle.mg_sealed.specs.Blocks.{IsUnfitAt}

-- what is said of a type of first keys
pub record Keys (K : Type 0) : Type 1 where
  -- its spelling in an index
  pub bytes : K → List ℕ
  -- it fits its field
  pub fits : K → Type 0
  -- a key that is below those of all blocks
  pub lowest : K
  -- the first is below the second
  pub before : K → K → Type 0
  -- a block with the second as its first key may stand behind one with the first
  pub follows : K → K → Type 0
  -- how an index at an offset of a file is refused where the second key may not follow the first
  pub refused : FileId → ℕ → K → K → Fault → Type 0

-- What each type of first keys keeps: keys are spelled in one way and shortly; their order is transitive, and a key that follows is above
-- the other and is not refused; where one is refused, that is at the index.
pub record IsLawful {K : Type 0} (keys : Keys K) : Type 0 where
  pub one_spelling : (key other : K) (rest rest' : List ℕ) → keys.fits key → keys.fits other → keys.bytes key ++ rest ≡ keys.bytes other ++ rest' → (key ≡ other) × (rest ≡ rest')
  pub follows_fits : (previous key : K) → keys.follows previous key → keys.fits key
  pub before_on : (key other last : K) → keys.before key other → keys.before other last → keys.before key last
  pub follows_before : (previous key : K) → keys.follows previous key → keys.before previous key
  pub not_refused : (id : FileId) (at : ℕ) (previous key : K) (fault : Fault) → keys.follows previous key → keys.refused id at previous key fault → ⊥
  pub refused_there : (id : FileId) (at : ℕ) (previous key : K) (fault : Fault) → keys.refused id at previous key fault → IsUnfitAt id at fault
  pub short : (key : K) → keys.fits key → length (keys.bytes key) ≤ 2 ^ 16

-- the bytes spell a key
abbrev pub IsSpelled : {K : Type 0} → Keys K → List ℕ → Type 0
IsSpelled {K} keys bytes = (key : K) × keys.fits key × (bytes ≡ keys.bytes key)

-- What is read where a key is spelled in an index at this offset, behind a block with the first key `previous`: a key that follows, or
-- how it is refused.
abbrev pub IsReading : {K : Type 0} → Keys K → FileId → ℕ → K → List ℕ → Result K Fault → Type 0
IsReading keys id at previous bytes (Ok key) = keys.fits key × (bytes ≡ keys.bytes key) × keys.follows previous key
IsReading {K} keys id at previous bytes (Err fault) =
    (fault ≡ NoMemory) ⊎ ((key : K) × keys.fits key × (bytes ≡ keys.bytes key) × keys.refused id at previous key fault)
