-- One item of a block, as its fields.
use Rattle.std.specs.Prelude.{◌≡◌, ℕ, ◌+◌, ◌<◌, ◌≤◌, ◌⊎◌, List, ◌∷◌, ◌++◌, length, slice_index}

-- bytes behind their number
abbrev pub counted : List ℕ → List ℕ
counted bytes = length bytes ∷ bytes

-- how many bytes the key shares with the one before it, the rest of the key, and the payload
abbrev pub spelled : ℕ → List ℕ → List ℕ → List ℕ
spelled shared rest payload = shared ∷ counted rest ++ counted payload

-- the key of `shared` bytes of the previous one and this rest is above that one, shares no more with it, and is not too long
pub record Extends (previous : List ℕ) (shared : ℕ) (rest : List ℕ) : Type 0 where
  pub within : shared ≤ length previous
  pub more : 0 < length rest
  pub rises : (shared ≡ length previous) ⊎ (slice_index previous shared < slice_index rest 0)
  pub fits : shared + length rest ≤ 250
