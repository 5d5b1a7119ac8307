use Rattle.std.proofs.Common.{◌≡◌, ◌+◌, ◌<◌, ◌∙◌, ◌⊎◌, List, ℕ, length, IfSome, inl, inr, sym, ap, subst, arith}
use Rattle.std.proofs.lemmas.Grind.{common_steps}
use Rattle.mg_sealed.specs.Filling.{items_of}
use Rattle.mg_frame.specs.Frame.{StandsAt}
use Rattle.mg_types.specs.declared.faults.Fault.TheVariants.{NoMemory}
use Rattle.mg_sealed.specs.Answers.{IsOutside}
use Rattle.mg_sealed.proofs.AnswerLaws.{err_is, err_then, ok_then, some_any, some_then}
use Rattle.mg_indexed.specs.Index.{BeginUpTo}
use Rattle.mg_indexed.specs.NumberKeys.{number_keys}
use Rattle.mg_records.specs.Lookup.{IsBlock, IsBlockFault, IsFoundIn, IsGot, IsSoughtRefused, IsUnfitFor}
use Rattle.mg_records.specs.File.{first_number, last_number, record_of}
use Rattle.mg_records.specs.Writing.{Filed}
use Rattle.mg_indexed.specs.declared.footer.Footer.{Footer}
use Rattle.mg_records.proofs.LookupLaws.{body_refused, found_in, frame_refused, no_handle, no_unfit_for, none_above_last, none_below_first, outside_answer, right_answer, right_block, span_fault, unfit_for_at}
use Rattle.mg_records.proofs.ScanLaws.{found_right}
use Rattle.mg_records.proofs.file.RecordFile.get_with.Goals as goal
use Rattle.mg_records.proofs.file.RecordFile.get_with.Goals.{then-number-footer-via-then-number-footer, then-number-footer-via-else-number-footer+then-number-footer-2}

pub returns-then-number-footer-clause-found : goal.returns-then-number-footer-clause-found
returns-then-number-footer-clause-found g c = λ some records holds.
    let kind = g.R.Record.kind in
    let number = c.args.number in
    let items = items_of holds.blocks in
    elim c.then-number-footer.branch [
      | then-number-footer-via-then-number-footer w ↦
          (let below : number < first_number kind items = omega (arith, w.if-number-footer.true, ap (λ (f : Footer). f.low) c.footer-footer.ensures.footer, ap (λ (f : Filed g.row.S.Denot). f.footer.low) c.self.view_is, ap (λ (f : Footer). f.low) holds.footer) in
          sym (ap (record_of kind number) (sym holds.all) ∙ none_below_first kind number items holds.are.rise below))
      | then-number-footer-via-else-number-footer+then-number-footer-2 w ↦
          (let above : last_number kind items < number = omega (arith, w.if-number-footer-2.true, ap (λ (f : Footer). f.high) c.footer-footer.ensures.footer, ap (λ (f : Filed g.row.S.Denot). f.footer.high) c.self.view_is, ap (λ (f : Footer). f.high) holds.footer) in
          sym (ap (record_of kind number) (sym holds.all) ∙ none_above_last kind number items holds.are.rise above))
    ]

pub returns-in_err-frame-clause-found : goal.returns-in_err-frame-clause-found
returns-in_err-frame-clause-found g c = λ some records holds.
    outside_answer c.from_residual.result c.in_err-frame.field-0.0 _ (grind (arith, common_steps)) (c.in_err-frame.ensures.read some records holds)

pub returns-in_err-frame-clause-causes : goal.returns-in_err-frame-clause-causes
returns-in_err-frame-clause-causes g c =
    let kind = g.R.Record.kind in
    let number = c.args.number in
    let filed = c.args.self.now in
    let told = g.F.Files.told filed.file.file in
    let block = c.block_of-block.result in
    let fault = c.in_err-frame.field-0.0 in
    let sought = some_any told (λ bytes. filed.file.len ≡ length bytes → BeginUpTo number_keys filed.index number (block + 1)) (λ bytes same. c.block_of-block.ensures.point) in
    err_is c.from_residual.result fault (λ fault. IfSome told (λ bytes. filed.file.len ≡ length bytes → IsOutside fault ⊎ IsSoughtRefused kind bytes filed number fault)) (grind (arith, common_steps))
    (frame_refused told filed.file.len filed block c.span-span.result (IsUnfitFor kind number) (λ bytes n. BeginUpTo number_keys filed.index number (n + 1)) fault c.span-span.ensures.is_span sought c.in_err-frame.ensures.told)

pub returns-clause-found : goal.returns-clause-found
returns-clause-found g c = λ some records holds.
    let kind = g.R.Record.kind in
    let lawful = g.met.R.Record.lawful in
    let number = c.args.number in
    let blocks = holds.blocks in
    let block = c.block_of-block.result in
    let span = c.span-span.result in
    let body = c.body.result.now in
    let b = c.in_ok-frame.ensures.read some records holds in
    let point = subst (λ es. BeginUpTo number_keys es number (block + 1)) holds.index c.block_of-block.ensures.point in
    let here : IsBlock kind blocks block body = record { before = b.before; block = b.block; later = b.later; all = b.all; many = b.many; spelling = c.body.ensures ∙ b.spelling } in
    let right = right_block kind g.F.Files.told c.args.self.now records holds block span body c.span-span.ensures.is_span here in
    let same : record_of kind number b.block ≡ record_of kind number records =
    sym (found_in kind blocks holds.are number (block + 1) no_handle b.before b.block b.later point b.all (omega (arith, b.many))) ∙ ap (record_of kind number) holds.all in
    right_answer c.find_in_block-found.result (λ found. IsFoundIn kind number span body found) (λ found. found ≡ record_of kind number records)
    (λ f. IsUnfitFor kind number span body f)
    (λ found there. found_right kind lawful number span body b.block found right.0.fit right.0.spelling there ∙ same)
    (λ f unfit. no_unfit_for kind lawful number span body b.block f right.0 right.1 unfit)
    c.find_in_block-found.ensures.found c.find_in_block-found.ensures.refusals

pub returns-clause-read : goal.returns-clause-read
returns-clause-read g c = λ over under.
    let kind = g.R.Record.kind in
    let number = c.args.number in
    let filed = c.args.self.now in
    let told = g.F.Files.told filed.file.file in
    let block = c.block_of-block.result in
    let span = c.span-span.result in
    let frame = c.in_ok-frame.frame in
    ok_then c.find_in_block-found.result (λ found. IsFoundIn kind number span c.body.result.now found) (λ found. IfSome told (λ bytes. filed.file.len ≡ length bytes → IsGot kind bytes filed number found))
    (λ found there. some_then told (λ bytes. filed.file.len ≡ length bytes → StandsAt bytes span.at (block, frame)) (λ bytes. filed.file.len ≡ length bytes → IsGot kind bytes filed number found)
    (λ bytes h same. (
      frame,
      record { block = block; point = c.block_of-block.ensures.point; span = span; is_span = c.span-span.ensures.is_span; long = c.in_ok-frame.ensures.len; stands = h same },
      subst (λ (b : List ℕ). IsFoundIn kind number span b found) c.body.ensures there,
    )) c.in_ok-frame.ensures.stands)
    c.find_in_block-found.ensures.found

pub returns-clause-causes : goal.returns-clause-causes
returns-clause-causes g c =
    let kind = g.R.Record.kind in
    let number = c.args.number in
    let filed = c.args.self.now in
    let told = g.F.Files.told filed.file.file in
    let block = c.block_of-block.result in
    let span = c.span-span.result in
    let body = c.body.result.now in
    let sought = some_any told (λ bytes. filed.file.len ≡ length bytes → BeginUpTo number_keys filed.index number (block + 1)) (λ bytes same. c.block_of-block.ensures.point) in
    err_then c.find_in_block-found.result (λ fault. (fault ≡ NoMemory) ⊎ IsUnfitFor kind number span body fault)
    (λ fault. IfSome told (λ bytes. filed.file.len ≡ length bytes → IsOutside fault ⊎ IsSoughtRefused kind bytes filed number fault))
    (λ fault result unfit. body_refused told filed.file.len filed block span c.in_ok-frame.frame body (IsUnfitFor kind number)
    (λ bytes n. BeginUpTo number_keys filed.index number (n + 1)) fault c.span-span.ensures.is_span c.body.ensures unfit sought c.in_ok-frame.ensures.told)
    c.find_in_block-found.ensures.refusals

pub returns-clause-refusals : goal.returns-clause-refusals
returns-clause-refusals g c =
    let kind = g.R.Record.kind in
    let number = c.args.number in
    let filed = c.args.self.now in
    let span = c.span-span.result in
    let body = c.body.result.now in
    err_then c.find_in_block-found.result (λ fault. (fault ≡ NoMemory) ⊎ IsUnfitFor kind number span body fault) (λ fault. IsOutside fault ⊎ IsBlockFault filed.file.id filed.index fault)
    (λ fault result unfit. elim unfit [
      | inl memory ↦ inl (inl memory)
      | inr bad ↦ inr (span_fault filed c.block_of-block.result span fault c.span-span.ensures.is_span (unfit_for_at kind number span body fault bad))
    ])
    c.find_in_block-found.ensures.refusals
