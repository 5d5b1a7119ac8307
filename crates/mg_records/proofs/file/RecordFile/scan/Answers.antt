use Rattle.std.proofs.Common.{◌≡◌, ◌+◌, ◌-◌, ◌^◌, ◌≤◌, min, ◌∙◌, ◌++◌, [], ℕ, length, drop, sym, ap, subst, inl, inr, refl, IfSome, arith, ◌⊎◌}
use Rattle.std.proofs.lemmas.Grind.{common_steps}
use Rattle.std.specs.Prelude.{filter, nat_lt, sum_by}
use Rattle.mg_types.specs.declared.faults.Fault.TheVariants.{Malformed}
use Rattle.mg_sealed.specs.Filling.{items_of}
use Rattle.mg_sealed.specs.Answers.{IsOutside}
use Rattle.mg_sealed.proofs.AnswerLaws.{err_is, some_any}
use Rattle.mg_records.specs.Lookup.{AreTotals, IsBlock, IsBlockFault, IsBodyRefused, IsScanRefused}
use Rattle.mg_records.specs.File.{last_number}
use Rattle.mg_records.specs.Reading.{IsKept}
use Rattle.mg_records.specs.Writing.{Filed}
use Rattle.mg_indexed.specs.declared.footer.Footer.{Footer}
use Rattle.mg_records.proofs.HandleLaws.{first_most}
use Rattle.mg_records.proofs.FileLaws.{length-index_from}
use Rattle.mg_records.proofs.ListingLaws.{IsListedUpTo, WasListed, listed_all, listed_before, listed_none, listed_on, scan_refused, totals_refused, totals_are, totals_of, whole_scan}
use Rattle.mg_records.proofs.LookupLaws.{body_refused, follows_behind, frame_refused, none_over_last, outside_answer, refused_at, right_block, right_totals, scan_ends, scan_starts, scan_step, span_fault}
use Rattle.mg_records.proofs.ScanLaws.{block_not_refused, scanned_last, scanned_right}
use Rattle.mg_records.proofs.file.RecordFile.scan.Goals as goal

pub returns-then-after-footer-clause-scanned : goal.returns-then-after-footer-clause-scanned
returns-then-after-footer-clause-scanned g c = λ some records holds.
    let kind = g.R.Record.kind in
    let after = c.args.after in
    let items = items_of holds.blocks in
    let none : c.new-records.result.items ≡ [] = c.new-records.ensures.items in
    let under : last_number kind items ≤ after = omega (arith, c.if-after-footer.true, ap (λ (f : Footer). f.high) c.footer-footer.ensures.footer, ap (λ (f : Filed g.row.S.Denot). f.footer.high) c.self.view_is, ap (λ (f : Footer). f.high) holds.footer) in
    none ∙ sym (ap (filter (λ it. nat_lt after (kind.seq it))) (sym holds.all) ∙ none_over_last kind after items holds.are.rise under)

pub returns-then-after-footer-clause-whole : goal.returns-then-after-footer-clause-whole
returns-then-after-footer-clause-whole g c = λ below.
    absurd (omega (arith, below, c.if-after-footer.true, ap (λ (f : Footer). f.high) c.footer-footer.ensures.footer, first_most g.R.BlockItem.form _ _ c.self.invariant, ap (λ (f : Filed g.row.S.Denot). f.footer.low) c.self.view_is))

pub loop-block-init : goal.loop-block-init
loop-block-init g c = (
  (refl, g.met.F.Files.bounded c.args.port.now),
  λ some all holds. (
    ap (λ xs. xs ++ filter (λ it. nat_lt c.args.after (g.R.Record.kind.seq it)) (items_of (drop c.first_block-start.result holds.blocks))) c.new-records.ensures.items
        ∙ scan_starts g.R.Record.kind g.F.Files.told c.args.self.now all holds c.args.after c.first_block-start.result c.first_block-start.ensures.within c.first_block-start.ensures.starts,
    inl (refl, refl),
  ),
  some_any (g.F.Files.told c.args.self.now.file.file) _
      (λ bytes long. listed_none g.R.Record.kind bytes c.args.self.now c.args.after c.first_block-start.result c.new-records.result.items 4096 0 c.new-records.ensures.items refl),
)

pub returns-in_err-frame-clause-scanned : goal.returns-in_err-frame-clause-scanned
returns-in_err-frame-clause-scanned g c = λ some records holds.
    outside_answer c.from_residual.result c.in_err-frame.field-0.0 _ (grind (arith, common_steps)) (c.in_err-frame.ensures.read some records holds)

pub returns-in_err-frame-clause-causes : goal.returns-in_err-frame-clause-causes
returns-in_err-frame-clause-causes g c =
    let kind = g.R.Record.kind in
    let after = c.args.after in
    let filed = c.args.self.now in
    let told = g.F.Files.told filed.file.file in
    let block = c.loop-block.block in
    let before = c.loop-block.before in
    let fault = c.in_err-frame.field-0.0 in
    let were = listed_before kind told filed after c.first_block-start.result block c.loop-block.records.items before c.loop-block.last c.first_block-start.ensures.starts c.loop-block.invariant.2 in
    err_is c.from_residual.result fault (λ fault. IfSome told (λ bytes. filed.file.len ≡ length bytes → IsOutside fault ⊎ IsScanRefused kind bytes filed after fault)) (grind (arith, common_steps))
    (scan_refused kind told filed after before fault
    (frame_refused told filed.file.len filed block c.span-span.result (IsBodyRefused kind before) (WasListed kind filed after before) fault c.span-span.ensures.is_span were c.in_err-frame.ensures.told))

pub returns-in_err-frame-clause-refusals : goal.returns-in_err-frame-clause-refusals
returns-in_err-frame-clause-refusals g c =
    let filed = c.args.self.now in
    let fault = c.in_err-frame.field-0.0 in
    err_is c.from_residual.result fault (λ fault. IsOutside fault ⊎ IsBlockFault filed.file.id filed.index fault ⊎ (fault ≡ Malformed filed.file.id (filed.file.len - 65))) (grind (arith, common_steps))
    (elim c.in_err-frame.ensures.refusals [ inl outside ↦ inl outside | inr bad ↦ inr (inl bad) ])

pub returns-in_err-last-clause-scanned : goal.returns-in_err-last-clause-scanned
returns-in_err-last-clause-scanned g c = λ some records holds.
    let kind = g.R.Record.kind in
    let block = c.loop-block.block in
    let before = c.loop-block.before in
    let span = c.span-span.result in
    let body = c.body.result.now in
    let b = c.in_ok-frame.ensures.read some records holds in
    let here : IsBlock kind holds.blocks block body = record { before = b.before; block = b.block; later = b.later; all = b.all; many = b.many; spelling = c.body.ensures ∙ b.spelling } in
    let right = right_block kind g.F.Files.told c.args.self.now records holds block span body c.span-span.ensures.is_span here in
    let follows = follows_behind kind holds.blocks c.first_block-start.result block before c.loop-block.last body holds.are.filled (c.loop-block.invariant.1 some records holds).1 here in
    let fault = c.in_err-last.field-0.0 in
    outside_answer c.from_residual-in_err-last.result fault _ (grind (arith, common_steps))
    (elim c.in_err-last.ensures.refusals [
      | inl memory ↦ inl memory
      | inr bad ↦ absurd (block_not_refused kind g.met.R.Record.lawful before span body b.block fault right.0 right.1 follows bad)
    ])

pub returns-in_err-last-clause-causes : goal.returns-in_err-last-clause-causes
returns-in_err-last-clause-causes g c =
    let kind = g.R.Record.kind in
    let after = c.args.after in
    let filed = c.args.self.now in
    let told = g.F.Files.told filed.file.file in
    let block = c.loop-block.block in
    let before = c.loop-block.before in
    let fault = c.in_err-last.field-0.0 in
    let were = listed_before kind told filed after c.first_block-start.result block c.loop-block.records.items before c.loop-block.last c.first_block-start.ensures.starts c.loop-block.invariant.2 in
    err_is c.from_residual-in_err-last.result fault (λ fault. IfSome told (λ bytes. filed.file.len ≡ length bytes → IsOutside fault ⊎ IsScanRefused kind bytes filed after fault)) (grind (arith, common_steps))
    (scan_refused kind told filed after before fault
    (body_refused told filed.file.len filed block c.span-span.result c.in_ok-frame.frame c.body.result.now (IsBodyRefused kind before) (WasListed kind filed after before) fault c.span-span.ensures.is_span c.body.ensures
    c.in_err-last.ensures.refusals were c.in_ok-frame.ensures.told))

pub returns-in_err-last-clause-refusals : goal.returns-in_err-last-clause-refusals
returns-in_err-last-clause-refusals g c =
    let kind = g.R.Record.kind in
    let filed = c.args.self.now in
    let span = c.span-span.result in
    let fault = c.in_err-last.field-0.0 in
    err_is c.from_residual-in_err-last.result fault (λ fault. IsOutside fault ⊎ IsBlockFault filed.file.id filed.index fault ⊎ (fault ≡ Malformed filed.file.id (filed.file.len - 65))) (grind (arith, common_steps))
    (elim c.in_err-last.ensures.refusals [
      | inl memory ↦ inl (inl memory)
      | inr bad ↦ inr (inl (span_fault filed c.loop-block.block span fault c.span-span.ensures.is_span (refused_at kind c.loop-block.before span c.body.result.now fault bad)))
    ])

pub loop-block-preserved : goal.loop-block-preserved
loop-block-preserved g c = (
  (c.in_ok-frame.ensures.once.kept ∙ c.loop-block.invariant.0.0, c.loop-block.invariant.0.1),
  λ some all holds.
      let kind = g.R.Record.kind in
      let after = c.args.after in
      let block = c.loop-block.block in
      let before = c.loop-block.before in
      let span = c.span-span.result in
      let body = c.body.result.now in
      let old = c.loop-block.records.items in
      let new = c.scan_block.new.records.items in
      let b = c.in_ok-frame.ensures.read some all holds in
      let here : IsBlock kind holds.blocks block body = record { before = b.before; block = b.block; later = b.later; all = b.all; many = b.many; spelling = c.body.ensures ∙ b.spelling } in
      let right = right_block kind g.F.Files.told c.args.self.now all holds block span body c.span-span.ensures.is_span here in
      let more = scanned_right kind g.met.R.Record.lawful before span after body b.block old new c.in_ok-last.last right.0.fit right.0.spelling c.in_ok-last.ensures.scanned in
      let last = scanned_last kind g.met.R.Record.lawful before span after body b.block old new c.in_ok-last.last right.0.fit right.0.spelling c.in_ok-last.ensures.scanned in (
        scan_step kind holds.blocks after block body old new here more ∙ (c.loop-block.invariant.1 some all holds).0,
        inr (b.before, b.block, b.later, b.all, ap (λ (n : ℕ). n + 1) b.many, ap length (c.body-before.ensures ∙ b.spelling), last),
      ),
  let filed = c.args.self.now in
      let told = g.F.Files.told filed.file.file in
      let block = c.loop-block.block in
      let same : length c.body.result.now ≡ length c.body-before.result.now = ap length (c.body.ensures ∙ sym c.body-before.ensures) in
      subst (λ (n : ℕ). IfSome told (λ bytes. filed.file.len ≡ length bytes → IsListedUpTo g.R.Record.kind bytes filed c.args.after c.first_block-start.result (block + 1) c.scan_block.new.records.items n c.in_ok-last.last)) same
      (listed_on g.R.Record.kind told filed c.args.after c.first_block-start.result block c.span-span.result c.in_ok-frame.frame c.body.result.now c.loop-block.records.items c.scan_block.new.records.items
      c.loop-block.before c.loop-block.last c.in_ok-last.last c.span-span.ensures.is_span c.body.ensures c.in_ok-last.ensures.scanned c.in_ok-frame.ensures.len c.in_ok-frame.ensures.stands c.loop-block.invariant.2),
)

pub returns-in_err-check_totals-clause-scanned : goal.returns-in_err-check_totals-clause-scanned
returns-in_err-check_totals-clause-scanned g c = λ some records holds.
    let kind = g.R.Record.kind in
    let filed = c.args.self.now in
    let after = c.args.after in
    let block = c.loop-block.block in
    let ends : block ≡ length filed.index = grind (arith, common_steps) in
    let past : length holds.blocks ≤ block = omega (arith, ends, ap length holds.index, length-index_from kind 0 holds.blocks) in
    let h = c.loop-block.invariant.1 some records holds in
    let found = scan_ends kind holds.blocks after block records c.loop-block.records.items past h.0 in
    let totals = right_totals kind g.F.Files.told filed records holds after c.first_block-start.result block c.loop-block.records.items c.loop-block.before c.loop-block.last c.first_block-start.ensures.within ends found h.1 in
    let kept = subst (λ (f : Filed g.row.S.Denot). IsKept g.R.BlockItem.form f.footer f.index) c.self.view_is c.self.invariant in
    let counted : c.len-count.result ≡ length c.loop-block.records.items = grind (arith, common_steps) in
    let summed = c.sum_of_sizes-sum.ensures ∙ ap (λ xs. min (sum_by kind.size xs) (2 ^ 64 - 1)) c.deref.ensures.value in
    absurd (c.in_err-check_totals.ensures.refusals.1 (totals_of kind filed after c.loop-block.last _ _ c.loop-block.records.items kept.whole.is_footer.sum counted summed totals))

pub returns-in_err-check_totals-clause-causes : goal.returns-in_err-check_totals-clause-causes
returns-in_err-check_totals-clause-causes g c =
    let kind = g.R.Record.kind in
    let filed = c.args.self.now in
    let after = c.args.after in
    let told = g.F.Files.told filed.file.file in
    let block = c.loop-block.block in
    let ends : block ≡ length filed.index = grind (arith, common_steps) in
    let kept = subst (λ (f : Filed g.row.S.Denot). IsKept g.R.BlockItem.form f.footer f.index) c.self.view_is c.self.invariant in
    let fault = c.in_err-check_totals.field-0.0 in
    let counted : c.len-count.result ≡ length c.loop-block.records.items = grind (arith, common_steps) in
    let summed = c.sum_of_sizes-sum.ensures ∙ ap (λ xs. min (sum_by kind.size xs) (2 ^ 64 - 1)) c.deref.ensures.value in
    let none : AreTotals kind filed after c.loop-block.last c.loop-block.records.items → ⊥ = λ totals. c.in_err-check_totals.ensures.refusals.1 (totals_of kind filed after c.loop-block.last _ _ c.loop-block.records.items kept.whole.is_footer.sum counted summed totals) in
    err_is c.from_residual-in_err-check_totals.result fault (λ fault. IfSome told (λ bytes. filed.file.len ≡ length bytes → IsOutside fault ⊎ IsScanRefused kind bytes filed after fault)) (grind (arith, common_steps))
    (totals_refused kind g.R.BlockItem.form told filed after c.first_block-start.result block c.loop-block.records.items c.loop-block.before c.loop-block.last fault kept c.first_block-start.ensures.within ends c.first_block-start.ensures.starts
    c.in_err-check_totals.ensures.refusals.0 none c.loop-block.invariant.2)

pub returns-clause-scanned : goal.returns-clause-scanned
returns-clause-scanned g c = λ some records holds.
    let kind = g.R.Record.kind in
    let filed = c.args.self.now in
    let block = c.loop-block.block in
    let ends : block ≡ length filed.index = grind (arith, common_steps) in
    let past : length holds.blocks ≤ block = omega (arith, ends, ap length holds.index, length-index_from kind 0 holds.blocks) in
    scan_ends kind holds.blocks c.args.after block records c.loop-block.records.items past (c.loop-block.invariant.1 some records holds).0

pub returns-clause-read : goal.returns-clause-read
returns-clause-read g c = λ below.
    let filed = c.args.self.now in
    let block = c.loop-block.block in
    let ends : block ≡ length filed.index = grind (arith, common_steps) in
    listed_all g.R.Record.kind (g.F.Files.told filed.file.file) filed c.args.after c.first_block-start.result block c.loop-block.records.items c.loop-block.before c.loop-block.last c.first_block-start.ensures.within ends
    c.first_block-start.ensures.starts c.in_ok-check_totals.ensures.told.0 c.loop-block.invariant.2

pub returns-clause-whole : goal.returns-clause-whole
returns-clause-whole g c = λ below.
    let kind = g.R.Record.kind in
    let filed = c.args.self.now in
    let after = c.args.after in
    let told = g.F.Files.told filed.file.file in
    let block = c.loop-block.block in
    let ends : block ≡ length filed.index = grind (arith, common_steps) in
    let kept = subst (λ (f : Filed g.row.S.Denot). IsKept g.R.BlockItem.form f.footer f.index) c.self.view_is c.self.invariant in
    let counted : c.len-count.result ≡ length c.loop-block.records.items = grind (arith, common_steps) in
    let summed = c.sum_of_sizes-sum.ensures ∙ ap (λ xs. min (sum_by kind.size xs) (2 ^ 64 - 1)) c.deref.ensures.value in
    let totals = totals_are kind filed after c.loop-block.last _ _ c.loop-block.records.items kept.whole.is_footer.sum counted summed c.in_ok-check_totals.ensures.told in
    whole_scan kind g.R.BlockItem.form told filed after c.loop-block.last c.loop-block.records.items kept below totals
    (listed_all kind told filed after c.first_block-start.result block c.loop-block.records.items c.loop-block.before c.loop-block.last c.first_block-start.ensures.within ends
    c.first_block-start.ensures.starts totals.0 c.loop-block.invariant.2)
