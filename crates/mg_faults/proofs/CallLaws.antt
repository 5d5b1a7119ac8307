-- What the counts of calls say of an answer that a call failed.
use Rattle.std.specs.Prelude.{ℕ, ◌≤◌, Bool, true, false, min, if◌then◌else◌, Result, IsTrue}
use Rattle.std.specs.Result.{IsErrOf}
use native.Mathlib.Omega.{arith}
use Rattle.std.proofs.Math.Nat.{min-le_right, le_refl}
use Rattle.mg_faults.specs.Causes.{last_count, kept_count, raised, Rose, HasCause}
use Rattle.mg_faults.specs.Calls.{CallCounts, next_fails, after_call}

-- a count that is kept is never above the last number
pub kept_is_bounded : (n : ℕ) → kept_count n ≤ last_count
kept_is_bounded n = min-le_right n last_count

-- a call that answers this failure only where it is to fail has its cause in the counts
pub cause_of_call : {T E : Type 0} (failure : E) (c : CallCounts) (result : Result T E)
    → (IsErrOf result failure → IsTrue (next_fails c)) → HasCause failure (kept_count c.faults) (kept_count (after_call c).faults) result
cause_of_call failure c result fails = record { later = later (next_fails c); failed = λ e. failed (next_fails c) (fails e) }
  where
    goes_on : min c.faults last_count ≤ min (raised c.faults 1) last_count
    goes_on = omega arith

    later : (b : Bool) → kept_count c.faults ≤ kept_count (if b then raised c.faults 1 else c.faults)
    later true = goes_on
    later false = le_refl _

    failed : (b : Bool) → IsTrue b → Rose (kept_count c.faults) (kept_count (if b then raised c.faults 1 else c.faults))
    failed true t = omega arith
    failed false t = cc
