use Rattle.std.proofs.Common.{◌≡◌, ℕ, ◌⊎◌, length, sym, ap, arith, inl, inr}
use Rattle.mg_model.specs.declared.calls.Change.{Change}
use Rattle.mg_model.specs.declared.calls.Change.TheVariants.{Forget, Back}
use Rattle.mg_wal_format.specs.Records.{change_bytes}
use Rattle.mg_wal_format.proofs.SpellingLaws.{length-set, length-delete, length-marked, length-unmarked}
use Rattle.mg_wal_format.proofs.change.change_len.Goals as goal

pub returns-in-Set-clause-exact : goal.returns-in-Set-clause-exact
returns-in-Set-clause-exact c =
    omega (
      arith,
      ap length c.bytes.ensures.bytes,
      ap length c.bytes-in-Set.ensures.bytes,
      length-set c.in-Set.key c.in-Set.doc,
      ap (λ (w : Change). length (change_bytes w)) c.in-Set.is,
    )

pub returns-in-Del-clause-exact : goal.returns-in-Del-clause-exact
returns-in-Del-clause-exact c =
    omega (arith, ap length c.bytes-in-Del.ensures.bytes, length-delete c.in-Del.key, ap (λ (w : Change). length (change_bytes w)) c.in-Del.is)

-- a change that names this mark names one
names_a_mark : (what : Change) (mark : ℕ) → (what ≡ Forget mark) ⊎ (what ≡ Back mark) → ((m : ℕ) × (what ≡ Forget m)) ⊎ ((m : ℕ) × (what ≡ Back m))
names_a_mark what mark (inl is) = inl (mark, is)
names_a_mark what mark (inr is) = inr (mark, is)

pub returns-in-Forget-clause-exact : goal.returns-in-Forget-clause-exact
returns-in-Forget-clause-exact c = sym (length-marked c.args.what.now (names_a_mark c.args.what.now c.in-Forget.mark c.in-Forget.is))

pub returns-in-Mark-clause-exact : goal.returns-in-Mark-clause-exact
returns-in-Mark-clause-exact c = sym (length-unmarked c.args.what.now c.in-Mark.is)

pub returns-in-Mark-2-clause-exact : goal.returns-in-Mark-2-clause-exact
returns-in-Mark-2-clause-exact c = sym (length-unmarked c.args.what.now c.in-Mark.is)
