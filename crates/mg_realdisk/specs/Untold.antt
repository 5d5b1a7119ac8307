-- What is said of a volume and a host that tell nothing.
use Rattle.std.proofs.Common.{sym}
use Rattle.std.proofs.lemmas.Bool.{true≢false}
use Rattle.std.specs.Prelude.{ℕ, Bool, false, IsTrue, None, [], ⊤}
use Rattle.mg_disk.specs.Hosts.{HostState}
use Rattle.mg_disk.specs.Images.{View}

-- the view of a volume that tells nothing
abbrev pub no_view : View
no_view = record {
  contents = λ _. None;
  written = λ _. [];
  may_leave = λ _. ⊤;
  moment = 0;
  left_since = λ _ _. ⊤;
}

-- the state of a host that tells nothing but which volumes are lent; each began with no fault
abbrev pub lent_state : {V : Type 0} → (ℕ → Bool) → HostState V
lent_state out = record {
  settings = None;
  out = out;
  inside = λ _. None;
  lent_faults = λ _. 0;
  lent_moment = λ _. 0;
}

-- a volume that does not tell tells nothing
abbrev pub never : IsTrue false → ⊥
never told = true≢false (sym told)
