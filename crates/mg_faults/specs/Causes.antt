-- When a call on something outside may answer that it failed.
use Rattle.std.specs.Prelude.{◌≡◌, ℕ, ◌+◌, ◌-◌, ◌^◌, ◌≤◌, min, Result, OnOk}
use Rattle.std.specs.Result.{IsErrOf}

-- the last number of a count, at which it stays
abbrev pub last_count : ℕ
last_count = 2 ^ 64 - 1

-- a count as its type keeps it, which is never above the last number
abbrev pub kept_count : ℕ → ℕ
kept_count count = min count last_count

-- a count that has risen by so much, but for its last number
abbrev pub raised : ℕ → ℕ → ℕ
raised before by = min (before + by) last_count

-- the count has risen between two moments, or stands at its last number
abbrev pub Rose : ℕ → ℕ → Type 0
Rose before now = raised before 1 ≤ now

-- the count has risen by one between two moments, or stayed at its last number
abbrev pub RoseOnce : ℕ → ℕ → Type 0
RoseOnce before now = now ≡ raised before 1

-- the count does not fall, and this failure is answered only where it rose
pub record HasCause {T E : Type 0} (failure : E) (before now : ℕ) (result : Result T E) : Type 0 where
  pub later : before ≤ now
  pub failed : IsErrOf result failure → Rose before now

-- an Ok keeps the count, and an error raises it by one at most
pub record CountsOnce {T E : Type 0} (before now : ℕ) (result : Result T E) : Type 0 where
  pub kept : OnOk result (now ≡ before)
  pub once : now ≤ raised before 1
