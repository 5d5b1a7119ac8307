-- Calls that read a volume, one after the other.
use Rattle.std.proofs.Common.{◌≡◌, ◌∙◌, ◌≤◌, ⊎_elim, ap, arith, inl, inr, ℕ, Err, Ok, Result, subst}
use Rattle.mg_disk.specs.Images.{Image, Stays, View}
use Rattle.mg_faults.specs.Causes.{last_count, raised, CountsOnce, HasCause, Rose}
use Rattle.mg_types.specs.declared.faults.Fault.{Fault}
use Rattle.mg_types.specs.declared.faults.Fault.TheVariants.{NoMemory, ReadFault}

-- what a crash may leave now, it leaves at a moment since each earlier one
abbrev pub CountsNow : View → Type 0
CountsNow view = (t : ℕ) (image : Image) → t ≤ view.moment → view.may_leave image → view.left_since t image

-- where neither of two calls changes anything, both change nothing
pub stays_both : (old mid new : View) → CountsNow old → Stays old mid → Stays mid new → Stays old new
stays_both old mid new now first second = record {
  time = record {
    later = omega (arith, first.time.later, second.time.later);
    nothing_else = λ t c at left. ⊎_elim
        (λ before. ⊎_elim inl (λ here. inl (now t c at (first.images c here))) (first.time.nothing_else t c at before))
        inr (second.time.nothing_else t c (omega (arith, at, first.time.later)) left);
    keeps = λ t c at left. second.time.keeps t c (omega (arith, at, first.time.later)) (first.time.keeps t c at left);
  };
  contents = second.contents ∙ first.contents;
  written = second.written ∙ first.written;
  images = λ c left. first.images c (second.images c left);
}

-- a count that rose later rose
pub rose_later : (old mid new : ℕ) → old ≤ mid → Rose mid new → Rose old new
rose_later old mid new later rose = omega (arith, later, rose)

-- a call behind one that did not fail has its cause
pub cause_behind : {T E : Type 0} (failure : E) (old mid new : ℕ) (result : Result T E) → old ≤ mid → HasCause failure mid new result → HasCause failure old new result
cause_behind failure old mid new result later cause = record {
  later = omega (arith, later, cause.later);
  failed = λ is. rose_later old mid new later (cause.failed is);
}

-- a value has no cause
pub ok_cause : {T E : Type 0} (failure : E) (before now : ℕ) (value : T) → before ≤ now → HasCause failure before now (Ok value)
ok_cause failure before now value later = record { later = later; failed = λ is. absurd (cc) }

err_same : {T E : Type 0} (x y : E) → ◌≡◌ {A = Result T E} (Err x) (Err y) → x ≡ y
err_same x y same = cc

-- an error that is handed on has its cause
pub cause_on : {T U E : Type 0} (failure : E) (old mid new : ℕ) (one : Result T E) (other : Result U E) (error : E) → old ≤ mid → one ≡ Err error → other ≡ Err error → HasCause failure mid new one → HasCause failure old new other
cause_on failure old mid new (Ok x) other error later was is cause = absurd (cc)
cause_on failure old mid new (Err e) (Ok y) error later was is cause = absurd (cc)
cause_on {T} {U} {E} failure old mid new (Err e) (Err f) error later was is cause =
    let same : e ≡ f = cc in
    record { later = omega (arith, later, cause.later); failed = λ failed. rose_later old mid new later (cause.failed (ap (λ (x : E). Err x) (same ∙ err_same f failure failed))) }

-- want of memory is no failed read
pub memory_cause : {T : Type 0} (old new : ℕ) (result : Result T Fault) → old ≤ new → result ≡ Err NoMemory → HasCause ReadFault old new result
memory_cause old new (Ok x) later is = absurd (cc)
memory_cause old new (Err e) later is = record { later = later; failed = λ failed. absurd (cc) }

-- a count that stayed the same is not above its rise by one
not_above : (before now : ℕ) → before ≤ last_count → now ≡ before → now ≤ raised before 1
not_above before now bounded same = omega (arith, bounded, same)

-- where the count stayed the same, each answer counts once
pub once_same : {T E : Type 0} (before now : ℕ) (result : Result T E) → before ≤ last_count → now ≡ before → CountsOnce before now result
once_same before now (Ok x) bounded same = record { kept = same; once = not_above before now bounded same }
once_same before now (Err e) bounded same = record { kept = tt; once = not_above before now bounded same }

-- an error that is handed on counts once behind calls that kept the count
pub once_on : {T U E : Type 0} (before middle now : ℕ) (one : Result T E) (other : Result U E) (error : E) → middle ≡ before → one ≡ Err error → other ≡ Err error → CountsOnce middle now one → CountsOnce before now other
once_on before middle now one (Ok y) error same was is once = absurd (cc)
once_on before middle now one (Err f) error same was is once = record { kept = tt; once = subst (λ (n : ℕ). now ≤ raised n 1) same once.once }
