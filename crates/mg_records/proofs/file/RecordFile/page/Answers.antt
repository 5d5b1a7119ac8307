use Rattle.std.proofs.Common.{◌≡◌, ◌∙◌, ◌⊎◌, length, refl, inl, inr, IfSome, arith}
use Rattle.std.proofs.lemmas.Grind.{common_steps}
use Rattle.mg_sealed.specs.Answers.{IsOutside}
use Rattle.mg_sealed.proofs.AnswerLaws.{err_is, some_any}
use Rattle.mg_records.specs.Lookup.{IsBlock, IsBlockFault, IsBodyRefused}
use Rattle.mg_records.specs.Pages.{IsPageRefused}
use Rattle.mg_records.proofs.LookupLaws.{body_refused, fills, frame_refused, outside_answer, refused_at, right_block, span_fault}
use Rattle.mg_records.proofs.PageLaws.{page_of}
use Rattle.mg_records.proofs.ScanLaws.{block_not_refused, scanned_right}
use Rattle.mg_records.proofs.file.RecordFile.page.Goals as goal

pub returns-in_err-frame-clause-page : goal.returns-in_err-frame-clause-page
returns-in_err-frame-clause-page g c = λ some records holds.
    outside_answer c.from_residual.result c.in_err-frame.field-0.0 _ (grind (arith, common_steps)) (c.in_err-frame.ensures.read some records holds)

pub returns-in_err-frame-clause-causes : goal.returns-in_err-frame-clause-causes
returns-in_err-frame-clause-causes g c =
    let kind = g.R.Record.kind in
    let filed = c.args.self.now in
    let told = g.F.Files.told filed.file.file in
    let block = c.args.block in
    let fault = c.in_err-frame.field-0.0 in
    err_is c.from_residual.result fault (λ fault. IfSome told (λ bytes. filed.file.len ≡ length bytes → IsOutside fault ⊎ IsPageRefused kind bytes filed block fault)) (grind (arith, common_steps))
    (frame_refused told filed.file.len filed block c.span-span.result (IsBodyRefused kind 4096) (λ bytes n. n ≡ block) fault c.span-span.ensures.is_span (some_any told (λ bytes. filed.file.len ≡ length bytes → block ≡ block) (λ bytes same. refl))
    c.in_err-frame.ensures.told)

pub returns-in_err-scan_block-clause-page : goal.returns-in_err-scan_block-clause-page
returns-in_err-scan_block-clause-page g c = λ some records holds.
    let kind = g.R.Record.kind in
    let block = c.args.block in
    let span = c.span-span.result in
    let body = c.body.result.now in
    let b = c.in_ok-frame.ensures.read some records holds in
    let here : IsBlock kind holds.blocks block body = record { before = b.before; block = b.block; later = b.later; all = b.all; many = b.many; spelling = c.body.ensures ∙ b.spelling } in
    let right = right_block kind g.F.Files.told c.args.self.now records holds block span body c.span-span.ensures.is_span here in
    let fault = c.in_err-scan_block.field-0.0 in
    outside_answer c.from_residual-in_err-scan_block.result fault _ (grind (arith, common_steps))
    (elim c.in_err-scan_block.ensures.refusals [
      | inl memory ↦ inl memory
      | inr bad ↦ absurd (block_not_refused kind g.met.R.Record.lawful 4096 span body b.block fault right.0 right.1 (fills kind 4096 b.block (omega arith) right.0.some) bad)
    ])

pub returns-in_err-scan_block-clause-causes : goal.returns-in_err-scan_block-clause-causes
returns-in_err-scan_block-clause-causes g c =
    let kind = g.R.Record.kind in
    let filed = c.args.self.now in
    let told = g.F.Files.told filed.file.file in
    let block = c.args.block in
    let fault = c.in_err-scan_block.field-0.0 in
    err_is c.from_residual-in_err-scan_block.result fault (λ fault. IfSome told (λ bytes. filed.file.len ≡ length bytes → IsOutside fault ⊎ IsPageRefused kind bytes filed block fault)) (grind (arith, common_steps))
    (body_refused told filed.file.len filed block c.span-span.result c.in_ok-frame.frame c.body.result.now (IsBodyRefused kind 4096) (λ bytes n. n ≡ block) fault c.span-span.ensures.is_span c.body.ensures
    c.in_err-scan_block.ensures.refusals (some_any told (λ bytes. filed.file.len ≡ length bytes → block ≡ block) (λ bytes same. refl)) c.in_ok-frame.ensures.told)

pub returns-in_err-scan_block-clause-refusals : goal.returns-in_err-scan_block-clause-refusals
returns-in_err-scan_block-clause-refusals g c =
    let kind = g.R.Record.kind in
    let filed = c.args.self.now in
    let span = c.span-span.result in
    let fault = c.in_err-scan_block.field-0.0 in
    err_is c.from_residual-in_err-scan_block.result fault (λ fault. IsOutside fault ⊎ IsBlockFault filed.file.id filed.index fault) (grind (arith, common_steps))
    (elim c.in_err-scan_block.ensures.refusals [
      | inl memory ↦ inl (inl memory)
      | inr bad ↦ inr (span_fault filed c.args.block span fault c.span-span.ensures.is_span (refused_at kind 4096 span c.body.result.now fault bad))
    ])

pub returns-clause-page : goal.returns-clause-page
returns-clause-page g c = λ some records holds.
    let kind = g.R.Record.kind in
    let block = c.args.block in
    let after = c.args.after in
    let span = c.span-span.result in
    let body = c.body.result.now in
    let old = c.new-records.result.items in
    let page = c.scan_block.new.records.items in
    let b = c.in_ok-frame.ensures.read some records holds in
    let here : IsBlock kind holds.blocks block body = record { before = b.before; block = b.block; later = b.later; all = b.all; many = b.many; spelling = c.body.ensures ∙ b.spelling } in
    let right = right_block kind g.F.Files.told c.args.self.now records holds block span body c.span-span.ensures.is_span here in
    page_of kind holds.blocks after block body old page here c.new-records.ensures.items
    (scanned_right kind g.met.R.Record.lawful 4096 span after body b.block old page _ right.0.fit right.0.spelling c.in_ok-scan_block.ensures.scanned)
