use Rattle.std.proofs.Common.{◌≡◌, ◌+◌, ◌<◌, ◌∙◌, ◌⊎◌, length, IfSome, sym, ap, subst, arith}
use Rattle.std.proofs.lemmas.Grind.{common_steps}
use Rattle.mg_sealed.specs.Answers.{IsOutside}
use Rattle.mg_sealed.specs.Filling.{items_of}
use Rattle.mg_sealed.proofs.AnswerLaws.{err_is, some_any}
use Rattle.mg_indexed.specs.Index.{BeginUpTo}
use Rattle.mg_indexed.specs.NumberKeys.{number_keys}
use Rattle.mg_records.specs.File.{first_number, last_number, record_of}
use Rattle.mg_records.specs.Lookup.{IsSoughtDamaged}
use Rattle.mg_records.specs.Writing.{Filed}
use Rattle.mg_indexed.specs.declared.footer.Footer.{Footer}
use Rattle.mg_records.proofs.LookupLaws.{found_in, frame_refused, no_handle, none_above_last, none_below_first, outside_answer}
use Rattle.mg_records.proofs.file.RecordFile.block_for.Goals as goal
use Rattle.mg_records.proofs.file.RecordFile.block_for.Goals.{then-number-footer-via-then-number-footer, then-number-footer-via-else-number-footer+then-number-footer-2}

pub returns-then-number-footer-clause-found : goal.returns-then-number-footer-clause-found
returns-then-number-footer-clause-found g c = λ some records holds.
    let kind = g.R.Record.kind in
    let number = c.args.number in
    let items = items_of holds.blocks in
    elim c.then-number-footer.branch [
      | then-number-footer-via-then-number-footer w ↦
          (let below : number < first_number kind items = omega (arith, w.if-number-footer.true, ap (λ (f : Footer). f.low) c.footer-footer.ensures.footer, ap (λ (f : Filed g.row.S.Denot). f.footer.low) c.self.view_is, ap (λ (f : Footer). f.low) holds.footer) in
          (ap (record_of kind number) (sym holds.all) ∙ none_below_first kind number items holds.are.rise below))
      | then-number-footer-via-else-number-footer+then-number-footer-2 w ↦
          (let above : last_number kind items < number = omega (arith, w.if-number-footer-2.true, ap (λ (f : Footer). f.high) c.footer-footer.ensures.footer, ap (λ (f : Filed g.row.S.Denot). f.footer.high) c.self.view_is, ap (λ (f : Footer). f.high) holds.footer) in
          (ap (record_of kind number) (sym holds.all) ∙ none_above_last kind number items holds.are.rise above))
    ]

pub returns-in_err-frame-clause-found : goal.returns-in_err-frame-clause-found
returns-in_err-frame-clause-found g c = λ some records holds.
    outside_answer c.from_residual.result c.in_err-frame.field-0.0 _ (grind (arith, common_steps)) (c.in_err-frame.ensures.read some records holds)

pub returns-clause-found : goal.returns-clause-found
returns-clause-found g c = λ some records holds.
    let kind = g.R.Record.kind in
    let number = c.args.number in
    let blocks = holds.blocks in
    let block = c.block_of-block.result in
    let b = c.in_ok-frame.ensures.read some records holds in
    let point = subst (λ es. BeginUpTo number_keys es number (block + 1)) holds.index c.block_of-block.ensures.point in
    let same : record_of kind number b.block ≡ record_of kind number records =
    sym (found_in kind blocks holds.are number (block + 1) no_handle b.before b.block b.later point b.all (omega (arith, b.many))) ∙ ap (record_of kind number) holds.all in
    (b.block, b.spelling, same)

pub returns-in_err-frame-clause-causes : goal.returns-in_err-frame-clause-causes
returns-in_err-frame-clause-causes g c =
    let number = c.args.number in
    let filed = c.args.self.now in
    let told = g.F.Files.told filed.file.file in
    let block = c.block_of-block.result in
    let fault = c.in_err-frame.field-0.0 in
    let sought = some_any told (λ bytes. filed.file.len ≡ length bytes → BeginUpTo number_keys filed.index number (block + 1)) (λ bytes same. c.block_of-block.ensures.point) in
    err_is c.from_residual.result fault (λ fault. IfSome told (λ bytes. filed.file.len ≡ length bytes → IsOutside fault ⊎ IsSoughtDamaged bytes filed number fault)) (grind (arith, common_steps))
    (frame_refused told filed.file.len filed block c.span-span.result (λ span body fault. ⊥) (λ bytes n. BeginUpTo number_keys filed.index number (n + 1)) fault c.span-span.ensures.is_span sought c.in_err-frame.ensures.told)
