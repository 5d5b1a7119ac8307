use Rattle.std.proofs.Common.{◌≡◌, ◌⊎◌, length, subst, IfSome, IfErr}
use Rattle.mg_sealed.specs.Answers.{Answers, IsOutside}
use Rattle.mg_sealed.specs.Blocks.{block_body, IsUnfitAt}
use Rattle.mg_sealed.specs.declared.reading.SealedFile.{SealedFile}
use Rattle.mg_records.specs.Writing.{Filed}
use Rattle.mg_records.proofs.LookupLaws.{block_read, span_faults}
use Rattle.mg_records.proofs.file.RecordFile.read_span.Goals as goal

pub returns-clause-read : goal.returns-clause-read
returns-clause-read g c = λ some records holds.
    let told = g.F.Files.told in
    let span = c.args.span.now in
    let known = subst (λ (f : Filed g.row.S.Denot). IfSome (told f.file.file) (λ bytes. f.file.len ≡ length bytes → Answers (block_body f.file.id bytes span.at span.len c.args.number) c.block.result))
    c.self.view_is
    (subst (λ (f : SealedFile g.row.S.Denot). IfSome (told f.file) (λ bytes. f.len ≡ length bytes → Answers (block_body f.id bytes span.at span.len c.args.number) c.block.result)) c.file.ensures c.block.ensures.told) in
    block_read g.R.Record.kind g.met.R.Record.lawful told c.args.self.now records holds c.args.number span c.block.result some c.requires.is_span known

pub returns-clause-refusals : goal.returns-clause-refusals
returns-clause-refusals g c =
    let span = c.args.span.now in
    span_faults c.args.self.now c.args.number span c.block.result c.requires.is_span
    (subst (λ (f : Filed g.row.S.Denot). IfErr c.block.result (λ fault. IsOutside fault ⊎ IsUnfitAt f.file.id span.at fault)) c.self.view_is
    (subst (λ (f : SealedFile g.row.S.Denot). IfErr c.block.result (λ fault. IsOutside fault ⊎ IsUnfitAt f.id span.at fault)) c.file.ensures c.block.ensures.refusals))
