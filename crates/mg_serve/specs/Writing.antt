-- What was written of some bytes.
use Rattle.std.specs.Prelude.{◌≡◌, ◌≤◌, ℕ, ◌+◌, List, [], ◌∷◌, ◌++◌, length, Option, Result, Ok, Err}
use Rattle.std.specs.Io.KnownBytes.{Appends}
use Rattle.mg_faults.specs.Causes.{RoseOnce}
use Rattle.mg_types.specs.declared.faults.Fault.{Fault}
use Rattle.mg_types.specs.declared.faults.Fault.TheVariants as fault
use Rattle.mg_serve.specs.Told.{joined}

-- a front of some bytes was written, and so many at least are left
pub record WritesFront (written written' : Option (List ℕ)) (bytes : List ℕ) (least : ℕ) : Type 0 where
  pub front : List ℕ
  pub rest : List ℕ
  pub split : bytes ≡ front ++ rest
  pub left : least ≤ length rest
  pub text : Appends written written' front

-- a count stays, or rises by one
abbrev pub MayRise : ℕ → ℕ → Type 0
MayRise faults faults' = (faults ≤ faults') × (faults' ≤ faults + 1)

-- why writing some bytes stopped, and what was written of them
abbrev pub StopsWriting : Option (List ℕ) → Option (List ℕ) → ℕ → ℕ → List ℕ → Fault → Type 0
StopsWriting written written' faults faults' bytes fault.NoMemory = MayRise faults faults' × WritesFront written written' bytes 0
StopsWriting written written' faults faults' bytes fault.WriteFault = RoseOnce faults faults' × WritesFront written written' bytes 1
StopsWriting written written' faults faults' bytes other = ⊥

-- some bytes were written, or why writing them stopped
abbrev pub Wrote : Option (List ℕ) → Option (List ℕ) → ℕ → ℕ → List ℕ → Result Unit Fault → Type 0
Wrote written written' faults faults' bytes (Ok done) = Appends written written' bytes
Wrote written written' faults faults' bytes (Err f) = StopsWriting written written' faults faults' bytes f

-- Of some texts all but the last were written, and of the last a front; of that so many bytes at least are left.
pub record WritesSome (written written' : Option (List ℕ)) (texts : List (List ℕ)) (least : ℕ) : Type 0 where
  pub earlier : List (List ℕ)
  pub last : List ℕ
  pub front : List ℕ
  pub rest : List ℕ
  pub split : texts ≡ earlier ++ last ∷ []
  pub cut : last ≡ front ++ rest
  pub left : least ≤ length rest
  pub text : Appends written written' (joined earlier ++ front)

-- why writing stopped in the last of some texts, and what was written of them
abbrev pub StopsInLast : Option (List ℕ) → Option (List ℕ) → ℕ → ℕ → List (List ℕ) → Fault → Type 0
StopsInLast written written' faults faults' texts fault.NoMemory = MayRise faults faults' × WritesSome written written' texts 0
StopsInLast written written' faults faults' texts fault.WriteFault = RoseOnce faults faults' × WritesSome written written' texts 1
StopsInLast written written' faults faults' texts other = ⊥
