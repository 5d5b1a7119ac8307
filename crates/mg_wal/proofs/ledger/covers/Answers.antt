use Rattle.std.proofs.Common.{◌≡◌, ◌⊎◌, ◌+◌, ◌<◌, ◌≤◌, ◌≢◌, ℕ, List, length, get_or, eqb, leb, true, false, inl, inr, subst, arith, sym}
use Rattle.std.proofs.lemmas.Bool.Decides.{eqb_tells, leb_tells}
use Rattle.std.proofs.lemmas.List.{get_or_past}
use Rattle.mg_wal.proofs.ledger.covers.Goals as goal

-- one count more is covered
one_more : (released before : List ℕ) (part i : ℕ) → ((j : ℕ) → j < part → get_or before j 0 ≤ get_or released j 0) → get_or before part 0 ≤ get_or released part 0 → i < part + 1
    → ((eqb i part ≡ true) × (i ≡ part)) ⊎ ((eqb i part ≡ false) × (i ≢ part)) → get_or before i 0 ≤ get_or released i 0
one_more released before part i all here below (inl same) = subst (λ (k : ℕ). get_or before k 0 ≤ get_or released k 0) (sym same.1) here
one_more released before part i all here below (inr differs) = all i (le_other i part below differs.1)
  where
    le_other : (i part : ℕ) → i < part + 1 → i ≢ part → i < part
    le_other i part below differs = omega (arith, below, differs)

-- all counts are, where those are that there are
all_covered : (released before : List ℕ) (part i : ℕ) → length before ≤ part → ((j : ℕ) → j < part → get_or before j 0 ≤ get_or released j 0)
    → ((leb part i ≡ true) × (part ≤ i)) ⊎ ((leb part i ≡ false) × (i < part)) → get_or before i 0 ≤ get_or released i 0
all_covered released before part i enough all (inl past) = omega (arith, get_or_past before i 0 (omega (arith, enough, past.1)))
all_covered released before part i enough all (inr within) = all i within.1

pub loop-part-init : goal.loop-part-init
loop-part-init c i below = absurd (omega (arith, below))

pub loop-part-preserved : goal.loop-part-preserved
loop-part-preserved c i below =
    one_more c.args.released.now c.args.before.now c.loop-part.part i c.loop-part.invariant (omega (arith, c.if-count_at-count.false, c.count_at.ensures)) below (eqb_tells i c.loop-part.part)

pub returns-clause-yes : goal.returns-clause-yes
returns-clause-yes c is i = all_covered c.args.released.now c.args.before.now c.loop-part.part i c.loop-part-test.false c.loop-part.invariant (leb_tells c.loop-part.part i)
