-- What an object in memory that stands for the outside counts, and which of its calls fail.
use Rattle.std.specs.Prelude.{◌==◌, ℕ, List, Bool, if◌then◌else◌}
use Rattle.std.specs.List.{list_any}
use Rattle.mg_faults.specs.Causes.{raised}

-- the numbers of the calls that are to fail, how many calls were made, and how many of them failed
pub record CallCounts : Type 0 where
  pub failing : List ℕ
  pub calls : ℕ
  pub faults : ℕ

-- no call so far; the calls with these numbers, from 1, are to fail
abbrev pub no_calls : List ℕ → CallCounts
no_calls failing = record { failing = failing; calls = 0; faults = 0 }

-- the number of the next call
abbrev pub next_call : CallCounts → ℕ
next_call c = raised c.calls 1

-- whether the next call is one of those that are to fail
abbrev pub next_fails : CallCounts → Bool
next_fails c = list_any (λ number. number == next_call c) c.failing

-- the counts once one call more was made: a fault more where it is to fail, and else as many as before
abbrev pub after_call : CallCounts → CallCounts
after_call c = record c { calls = next_call c; faults = if next_fails c then raised c.faults 1 else c.faults }
