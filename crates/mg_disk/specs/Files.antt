-- What the calls of a port do to drafts and read of sealed files.
use Rattle.std.specs.Prelude.{◌≡◌, ℕ, ◌-◌, min, Option, None, Some, List, ◌++◌, length, take, drop}

-- bytes, where they are told, with more behind them
abbrev pub extended : Option (List ℕ) → List ℕ → Option (List ℕ)
extended None more = None
extended (Some bytes) more = Some (bytes ++ more)

-- the first is a front of the second
abbrev pub IsFront : List ℕ → List ℕ → Type 0
IsFront front bytes = take (length front) bytes ≡ front

-- A read at this place into a buffer puts as many bytes there as both have, and leaves what is behind them.
pub record ReadsAt (file : List ℕ) (at : ℕ) (before after : List ℕ) (taken : ℕ) : Type 0 where
  pub count : taken ≡ min (length before) (length file - at)
  pub bytes : after ≡ take taken (drop at file) ++ drop taken before

-- the bytes of a file that was found, or none
abbrev pub found_bytes : {S : Type 0} → (S → Option (List ℕ)) → Option S → Option (List ℕ)
found_bytes told None = None
found_bytes told (Some file) = told file
