use Rattle.std.proofs.Common.{length, ap, arith}
use Rattle.std.proofs.lemmas.Grind.{common_steps}
use Rattle.std.proofs.lemmas.List.{length-append}
use Rattle.mg_sealed.proofs.AnswerLaws.{err_is}
use Rattle.mg_records.specs.Lookup.{IsRecordUnfit}
use Rattle.mg_records.specs.Record.{record_bytes}
use Rattle.mg_records.proofs.RecordLaws.{great_here, some_bytes_of, split_is}
use Rattle.mg_records.proofs.block.split_record.Goals as goal

pub returns-in_err-check_numbers-clause-refusals : goal.returns-in_err-check_numbers-clause-refusals
returns-in_err-check_numbers-clause-refusals g c =
    let kind = g.R.Record.kind in
    let fault = c.in_err-check_numbers.field-0.0 in
    err_is c.from_residual.result fault (λ f. IsRecordUnfit kind c.args.span.now.file c.args.span.now.at c.args.low c.args.bound c.args.bytes.now f) (grind (arith, common_steps))
    (great_here kind c.args.span.now.file c.args.span.now.at c.args.low c.args.bound c.args.bytes.now c.in-Some.number c.in-Some.rest.now fault (grind (arith, common_steps)) c.in-Some.ensures.split
    c.in_err-check_numbers.ensures)

pub returns-clause-spelled : goal.returns-clause-spelled
returns-clause-spelled g c =
    let kind = g.R.Record.kind in
    split_is kind g.met.R.Record.lawful c.args.low c.args.bound c.args.bytes.now c.in-Some.number c.in-Some.rest.now c.in-Some-measure.len _ _ c.requires
    (grind (arith, common_steps)) (grind (arith, common_steps)) (grind (arith, common_steps)) c.in-Some.ensures.split c.in-Some-measure.ensures c.split_at.ensures.front c.split_at.ensures.back

pub returns-clause-shorter : goal.returns-clause-shorter
returns-clause-shorter g c =
    let kind = g.R.Record.kind in
    let split = split_is kind g.met.R.Record.lawful c.args.low c.args.bound c.args.bytes.now c.in-Some.number c.in-Some.rest.now c.in-Some-measure.len c.split_at.result.0.now c.split_at.result.1.now c.requires
    (grind (arith, common_steps)) (grind (arith, common_steps)) (grind (arith, common_steps)) c.in-Some.ensures.split c.in-Some-measure.ensures c.split_at.ensures.front c.split_at.ensures.back in
    omega (arith, ap length split.6, length-append (record_bytes kind split.0) c.split_at.result.1.now, some_bytes_of kind split.0)
