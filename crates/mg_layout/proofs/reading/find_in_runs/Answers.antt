use Rattle.std.proofs.Common.{◌≡◌, ◌+◌, ◌⊎◌, ◌∙◌, inl, inr, drop, None, Ok, sym, ap, subst, arith}
use Rattle.std.specs.Option.{is_some}
use Rattle.std.specs.Prelude.{Any, true}
use Rattle.std.proofs.lemmas.Grind.{common_steps}
use Rattle.mg_core.specs.Reads.{found}
use Rattle.mg_sealed.specs.Answers.{IsOutside}
use Rattle.mg_sealed.proofs.AnswerLaws.{err_is, outside}
use Rattle.mg_table.specs.Reading.{HasUnfit}
use Rattle.mg_table.specs.declared.table.Table.{Table}
use Rattle.mg_layout.specs.Files.{RunFile}
use Rattle.mg_layout.proofs.SeekLaws.{first_is, found_behind, found_from, none_is, run_gives, run_outside}
use Rattle.mg_layout.proofs.reading.find_in_runs.Goals as goal

pub returns-in_err-found-clause-found : goal.returns-in_err-found-clause-found
returns-in_err-found-clause-found g c tells rs holds =
    outside _ c.from_residual.result c.in_err-found.field-0.0 (grind (arith, common_steps))
    (run_outside g.F.Files.told c.args.runs.now rs c.args.key.now c.loop-run.run-index c.run-item.result c.table.result.now c.in_err-found.field-0.0
    c.loop-run-test.true c.run-item.is c.table.ensures tells holds c.in_err-found.ensures.found)

pub returns-in_err-found-clause-refusals : goal.returns-in_err-found-clause-refusals
returns-in_err-found-clause-refusals g c =
    let files = c.args.runs.now in
    let fault = c.in_err-found.field-0.0 in
    err_is c.from_residual.result fault (λ f. IsOutside f ⊎ Any (λ (run : RunFile g.row.S.Denot). HasUnfit run.table f) files) (grind (arith, common_steps))
    (elim c.in_err-found.ensures.refusals [
      | inl from ↦ inl from
      | inr unfit ↦ inr (
        c.loop-run.run-index,
        c.run-item.result,
        c.loop-run-test.true,
        sym c.run-item.is,
        subst (λ (t : Table g.row.S.Denot). HasUnfit t fault) c.table.ensures unfit,
      )
    ])

pub returns-then-is_some-clause-found : goal.returns-then-is_some-clause-found
returns-then-is_some-clause-found g c tells rs holds =
    let told = g.F.Files.told in
    let key = c.args.key.now in
    let i = c.loop-run.run-index in
    let o = c.in_ok-found.found in
    let some : is_some o ≡ true = sym c.is_some.ensures ∙ c.if-is_some.true in
    ap Ok (c.loop-run.invariant.left tells rs holds
    ∙ (found_from told c.args.runs.now rs key i c.run-item.result o c.loop-run-test.true c.run-item.is holds
    (run_gives told c.run-item.result c.table.result.now key o c.table.ensures tells c.in_ok-found.ensures.found)
    ∙ first_is o (found (drop (i + 1) rs) key) some))

pub loop-run-preserved : goal.loop-run-preserved
loop-run-preserved g c =
    let told = g.F.Files.told in
    let key = c.args.key.now in
    let o = c.in_ok-found.found in
    let none : o ≡ None = none_is o (sym c.is_some.ensures ∙ c.if-is_some.false) in
    record {
      kept = c.in_ok-found.ensures.once.kept ∙ c.loop-run.invariant.kept;
      bounded = c.loop-run.invariant.bounded;
      left = λ tells rs holds. c.loop-run.invariant.left tells rs holds
          ∙ found_from told c.args.runs.now rs key c.loop-run.run-index c.run-item.result None c.loop-run-test.true c.run-item.is holds
          (λ entries stands. run_gives told c.run-item.result c.table.result.now key o c.table.ensures tells c.in_ok-found.ensures.found entries stands ∙ none);
    }

pub returns-clause-found : goal.returns-clause-found
returns-clause-found g c tells rs holds =
    ap Ok (c.loop-run.invariant.left tells rs holds
    ∙ found_behind g.F.Files.told c.args.runs.now rs c.args.key.now c.loop-run.run-index c.loop-run-test.false holds)
