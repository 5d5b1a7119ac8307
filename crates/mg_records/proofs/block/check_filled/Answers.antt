use Rattle.std.proofs.Common.{arith}
use Rattle.std.proofs.lemmas.Grind.{common_steps}
use Rattle.mg_sealed.proofs.AnswerLaws.{err_is}
use Rattle.mg_records.specs.Lookup.{IsBodyRefused}
use Rattle.mg_records.proofs.ScanLaws.{unfit_first}
use Rattle.mg_records.proofs.block.check_filled.Goals as goal

pub returns-in_err-first-clause-refusals : goal.returns-in_err-first-clause-refusals
returns-in_err-first-clause-refusals g c =
    let kind = g.R.Record.kind in
    let fault = c.in_err-first.field-0.0 in
    err_is c.from_residual.result fault (λ f. IsBodyRefused kind c.args.before c.args.span.now c.args.body.now f) (grind (arith, common_steps))
    (unfit_first kind c.args.before c.args.span.now c.args.body.now fault c.in_err-first.ensures.refusals)
