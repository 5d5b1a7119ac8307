use Rattle.std.proofs.Common.{◌-◌, ◌++◌, ◌⊎◌, take, ◌≡◌, ◌∙◌, ◌<◌, ◌≤◌, ℕ, List, [], length, get_or, map, inl, inr, refl, sym, ap, subst, arith}
use Rattle.std.proofs.lemmas.List.{take_all}
use Rattle.std.proofs.lemmas.Grind.{common_steps}
use Rattle.mg_block.specs.Block.{IsBlock}
use Rattle.mg_table.specs.Entries.{block_body, pair_of}
use Rattle.mg_table.specs.Scanning.{AreCounted, IsNext}
use Rattle.mg_table.proofs.ScanningLaws.{counted-in-table, next-in-table}
use Rattle.mg_types.specs.declared.items.Entry.{Entry}
use Rattle.mg_indexed.specs.declared.footer.Footer.{Footer}
use Rattle.mg_indexed.specs.declared.handle.BlockHandle.{BlockHandle}
use Rattle.mg_table.proofs.ScanLaws.{Lined, len_before-next, lined-more, lined-none, order_refused, counts_refused, parts-of, scan_refused, scanned-all, frame-read, scanned-more, scanned-whole}
use Rattle.mg_types.specs.declared.faults.Fault.TheVariants.{Malformed, NoMemory}
use Rattle.mg_types.specs.declared.names.FileId.{FileId}
use Rattle.mg_sealed.specs.Answers.{IsOutside}
use Rattle.mg_sealed.specs.Blocks.{IsUnfitAt}
use Rattle.mg_sealed.proofs.AnswerLaws.{err_is, outside, some_any, some_both}
use Rattle.mg_table.specs.Reading.{AreRead, HasUnfit, IsListUnfit, IsScanRefused}
use Rattle.mg_table.proofs.CauseLaws.{body_refused, frame_refused}
use Rattle.mg_indexed.proofs.LoadingSteps.{Under, under_then}
use Rattle.mg_table.proofs.LoadingLaws.{length-handles_from}
use Rattle.mg_table.proofs.ReadingLaws.{block-answered, block-refused, told-then}
use Rattle.mg_table.proofs.table.Table.scan.Goals as goal

pub returns-in_err-frame-clause-listed : goal.returns-in_err-frame-clause-listed
returns-in_err-frame-clause-listed g c =
    let told = g.F.Files.told in
    let table = c.args.self.now in
    let number = c.loop-number.number in
    let handle = c.index-handles-number.result in
    let within : number < length table.indexed.index = omega (arith, ap length c.handles-handles.ensures.handles) in
    let is : handle ≡ get_or table.indexed.index number handle = c.index-handles-number.is ∙ ap (λ ps. get_or ps number handle) c.handles-handles.ensures.handles in
    told-then (told table.indexed.file.file) _ _ (λ bytes tells known entries stands.
    outside _ c.from_residual.result c.in_err-frame.field-0.0 (grind (arith, common_steps))
    (block-refused told table entries stands bytes tells handle number within is c.in_err-frame.field-0.0 known))
    c.in_err-frame.ensures.told

pub returns-in_err-list_block-clause-listed : goal.returns-in_err-list_block-clause-listed
returns-in_err-list_block-clause-listed g c =
    let told = g.F.Files.told in
    let table = c.args.self.now in
    let number = c.loop-number.number in
    let handle = c.index-handles-number.result in
    let within : number < length table.indexed.index = omega (arith, ap length c.handles-handles.ensures.handles) in
    let is : handle ≡ get_or table.indexed.index number handle = c.index-handles-number.is ∙ ap (λ ps. get_or ps number handle) c.handles-handles.ensures.handles in
    told-then (told table.indexed.file.file) _ _ (λ bytes tells known entries stands.
    let block = get_or stands.blocks number [] in
    let read = block-answered told table entries stands bytes tells handle number within is c.in_ok-frame.frame known [] in
    outside _ c.from_residual-in_err-list_block.result c.in_err-list_block.field-0.0 (grind (arith, common_steps))
    (inl (c.in_err-list_block.ensures.in_block block read.1 (subst (λ (b : List ℕ). IsBlock b (map pair_of block)) (sym c.body.ensures) read.0))))
    c.in_ok-frame.ensures.told

pub returns-in_err-list_block-clause-refusals : goal.returns-in_err-list_block-clause-refusals
returns-in_err-list_block-clause-refusals g c =
    let table = c.args.self.now in
    let number = c.loop-number.number in
    let handle = c.index-handles-number.result in
    let within : number < length table.indexed.index = omega (arith, ap length c.handles-handles.ensures.handles) in
    let is : handle ≡ get_or table.indexed.index number handle = c.index-handles-number.is ∙ ap (λ ps. get_or ps number handle) c.handles-handles.ensures.handles in
    let fault = c.in_err-list_block.field-0.0 in
    err_is c.from_residual-in_err-list_block.result fault (λ f. IsOutside f ⊎ HasUnfit table f ⊎ (f ≡ Malformed table.indexed.file.id (table.indexed.file.len - 73))) (grind (arith, common_steps))
    (elim c.in_err-list_block.ensures.refusals [
      | inl memory ↦ inl (inl memory)
      | inr unfit ↦ inr (inl (number, handle, within, sym is, subst (λ (i : FileId). IsUnfitAt i handle.at fault) c.id-id.ensures unfit))
    ])

pub loop-number-preserved : goal.loop-number-preserved
loop-number-preserved g c =
    let told = g.F.Files.told in
    let table = c.args.self.now in
    let number = c.loop-number.number in
    let handle = c.index-handles-number.result in
    let within : number < length table.indexed.index = omega (arith, ap length c.handles-handles.ensures.handles) in
    let is : handle ≡ get_or table.indexed.index number handle = c.index-handles-number.is ∙ ap (λ ps. get_or ps number handle) c.handles-handles.ensures.handles in
    let l = c.in_ok-list_block.ensures.read in
    let frame = c.in_ok-frame.frame in
    let block = subst (λ (b : List ℕ). IsBlock b (map pair_of l.0)) c.body.ensures l.2 in
    let size : (length c.body-size.result.now) ≡ length frame = ap length c.body-size.ensures in
    let parts = parts-of c.loop-number.entries c.as_slice.result.now l.0 c.len-listed.result (c.as_slice.ensures ∙ l.1) c.len-listed.ensures in
    let next : IsNext handle.first c.loop-number.entries c.loop-number.len l.0 (length c.body-size.result.now) =
    subst (λ (es : List Entry). IsNext handle.first es c.loop-number.len l.0 (length c.body-size.result.now)) parts.0
    (subst (λ (es : List Entry). IsNext handle.first (take c.len-listed.result c.as_slice.result.now) c.loop-number.len es (length c.body-size.result.now)) parts.1
    c.in_ok-check_block.ensures) in
    record {
      unmoved = c.in_ok-frame.ensures.once.kept ∙ c.loop-number.invariant.unmoved;
      bounded = c.loop-number.invariant.bounded;
      room = omega (arith, size, c.in_ok-frame.ensures.len);
      listed = told-then (told table.indexed.file.file) _ _ (λ bytes tells known all stands.
          let block = get_or stands.blocks number [] in
          let read = block-answered told table all stands bytes tells handle number within is frame known.0 [] in
          let inside : number < length stands.blocks = omega (arith, ap length stands.index, length-handles_from 0 stands.blocks) in (
            scanned-more stands.blocks number c.loop-number.entries c.list_block.new.entries inside (known.1 all stands).0
                (c.in_ok-list_block.ensures.in_block block read.1 (subst (λ (b : List ℕ). IsBlock b (map pair_of block)) (sym c.body.ensures) read.0)),
            size ∙ ap length read.0.spelling ∙ sym (len_before-next stands.blocks number),
          ))
          (some_both (told table.indexed.file.file) _ _ c.in_ok-frame.ensures.told c.loop-number.invariant.listed);
      lined = lined-more (told table.indexed.file.file) table number handle frame c.loop-number.entries c.list_block.new.entries l.0 c.loop-number.len (length c.body-size.result.now)
          within is l.1 block l.3 next size (frame-read (told table.indexed.file.file) table number handle frame c.in_ok-frame.ensures.told c.in_ok-frame.ensures.stands) c.loop-number.invariant.lined;
    }

pub returns-clause-listed : goal.returns-clause-listed
returns-clause-listed g c =
    let told = g.F.Files.told in
    let table = c.args.self.now in
    let number = c.loop-number.number in
    let past : length table.indexed.index ≤ number = omega (arith, ap length c.handles-handles.ensures.handles) in
    told-then (told table.indexed.file.file) _ _ (λ bytes tells listed all stands.
    let same : all ≡ c.loop-number.entries = scanned-all told table all stands number c.loop-number.entries past (listed all stands).0 in
    cc)
    c.loop-number.invariant.listed

pub returns-in_err-frame-clause-causes : goal.returns-in_err-frame-clause-causes
returns-in_err-frame-clause-causes g c =
    let table = c.args.self.now in
    let told = g.F.Files.told table.indexed.file.file in
    let number = c.loop-number.number in
    let handle = c.index-handles-number.result in
    let within : number < length table.indexed.index = omega (arith, ap length c.handles-handles.ensures.handles) in
    let is : handle ≡ get_or table.indexed.index number handle = c.index-handles-number.is ∙ ap (λ ps. get_or ps number handle) c.handles-handles.ensures.handles in
    let fault = c.in_err-frame.field-0.0 in
    err_is c.from_residual.result fault (λ f. Under told table.indexed.file.len (λ bytes. IsOutside f ⊎ IsScanRefused table bytes f)) (grind (arith, common_steps))
    (scan_refused told table number c.loop-number.entries c.loop-number.len fault within c.loop-number.invariant.lined
    (frame_refused told table number handle (λ (p : BlockHandle (List ℕ)) body. IsListUnfit table.indexed.file.id p.at body) fault within is c.in_err-frame.ensures.told))

pub returns-in_err-list_block-clause-causes : goal.returns-in_err-list_block-clause-causes
returns-in_err-list_block-clause-causes g c =
    let table = c.args.self.now in
    let told = g.F.Files.told table.indexed.file.file in
    let number = c.loop-number.number in
    let handle = c.index-handles-number.result in
    let within : number < length table.indexed.index = omega (arith, ap length c.handles-handles.ensures.handles) in
    let is : handle ≡ get_or table.indexed.index number handle = c.index-handles-number.is ∙ ap (λ ps. get_or ps number handle) c.handles-handles.ensures.handles in
    let fault = c.in_err-list_block.field-0.0 in
    let why = subst (λ (i : FileId). (fault ≡ NoMemory) ⊎ IsListUnfit i handle.at c.in_ok-frame.frame fault) c.id-id.ensures
    (subst (λ (body : List ℕ). (fault ≡ NoMemory) ⊎ IsListUnfit c.id-id.result handle.at body fault) c.body.ensures c.in_err-list_block.ensures.causes) in
    err_is c.from_residual-in_err-list_block.result fault (λ f. Under told table.indexed.file.len (λ bytes. IsOutside f ⊎ IsScanRefused table bytes f)) (grind (arith, common_steps))
    (scan_refused told table number c.loop-number.entries c.loop-number.len fault within c.loop-number.invariant.lined
    (body_refused told table number handle (λ (p : BlockHandle (List ℕ)) body. IsListUnfit table.indexed.file.id p.at body) fault c.in_ok-frame.frame within is why c.in_ok-frame.ensures.told))

pub returns-clause-read : goal.returns-clause-read
returns-clause-read g c =
    let table = c.args.self.now in
    let told = g.F.Files.told table.indexed.file.file in
    let number = c.loop-number.number in
    let l = c.loop-number.invariant.lined in
    let whole : take number table.indexed.index ≡ table.indexed.index = take_all number table.indexed.index (omega (arith, ap length c.handles-handles.ensures.handles)) in
    under_then told table.indexed.file.len (λ bytes. AreRead table.indexed.file.id bytes 0 (take number table.indexed.index) l.blocks) _
    (λ bytes same h. (l.blocks, subst (λ ps. AreRead table.indexed.file.id bytes 0 ps l.blocks) whole h, l.filled, l.are)) l.read

pub returns-clause-whole : goal.returns-clause-whole
returns-clause-whole g c =
    let table = c.args.self.now in
    let told = g.F.Files.told table.indexed.file.file in
    let past : length table.indexed.index ≤ c.loop-number.number = omega (arith, ap length c.handles-handles.ensures.handles) in
    let counted = subst (λ (f : Footer). AreCounted f c.loop-number.entries) c.footer.ensures.footer (subst (λ (es : List Entry). AreCounted c.footer.result.now es) c.as_slice-2.ensures c.in_ok-check_counts.ensures) in
    scanned-whole told table c.loop-number.number c.loop-number.entries c.loop-number.len past counted c.loop-number.invariant.lined

pub returns-clause-right : goal.returns-clause-right
returns-clause-right g c =
    let counted = subst (λ (es : List Entry). AreCounted c.footer.result.now es) c.as_slice-2.ensures c.in_ok-check_counts.ensures in
    (c.loop-number.invariant.lined.rising, subst (λ (f : Footer). AreCounted f c.loop-number.entries) c.footer.ensures.footer counted)

pub returns-in_err-frame-clause-refusals : goal.returns-in_err-frame-clause-refusals
returns-in_err-frame-clause-refusals g c =
    let table = c.args.self.now in
    let number = c.loop-number.number in
    let handle = c.index-handles-number.result in
    let within : number < length table.indexed.index = omega (arith, ap length c.handles-handles.ensures.handles) in
    let is : handle ≡ get_or table.indexed.index number handle = c.index-handles-number.is ∙ ap (λ ps. get_or ps number handle) c.handles-handles.ensures.handles in
    let fault = c.in_err-frame.field-0.0 in
    err_is c.from_residual.result fault (λ f. IsOutside f ⊎ HasUnfit table f ⊎ (f ≡ Malformed table.indexed.file.id (table.indexed.file.len - 73))) (grind (arith, common_steps))
    (elim c.in_err-frame.ensures.refusals [ inl from ↦ inl from | inr unfit ↦ inr (inl (number, handle, within, sym is, unfit)) ])

-- the next block may not stand there
pub returns-in_err-check_block-clause-listed : goal.returns-in_err-check_block-clause-listed
returns-in_err-check_block-clause-listed g c =
    let told = g.F.Files.told in
    let table = c.args.self.now in
    let number = c.loop-number.number in
    let handle = c.index-handles-number.result in
    let within : number < length table.indexed.index = omega (arith, ap length c.handles-handles.ensures.handles) in
    let is : handle ≡ get_or table.indexed.index number handle = c.index-handles-number.is ∙ ap (λ ps. get_or ps number handle) c.handles-handles.ensures.handles in
    let frame = c.in_ok-frame.frame in
    let size : (length c.body-size.result.now) ≡ length frame = ap length c.body-size.ensures in
    told-then (told table.indexed.file.file) _ _ (λ bytes tells known all stands.
    let block = get_or stands.blocks number [] in
    let read = block-answered told table all stands bytes tells handle number within is frame known.0 [] in
    let listed : c.list_block.new.entries ≡ c.loop-number.entries ++ block =
    c.in_ok-list_block.ensures.in_block block read.1 (subst (λ (b : List ℕ). IsBlock b (map pair_of block)) (sym c.body.ensures) read.0) in
    let parts = parts-of c.loop-number.entries c.as_slice.result.now block c.len-listed.result (c.as_slice.ensures ∙ listed) c.len-listed.ensures in
    let next = next-in-table told table all stands number handle _ _ c.loop-number.len (length c.body-size.result.now) within is
    (parts.0 ∙ (known.1 all stands).0) parts.1 (known.1 all stands).1 (size ∙ ap length read.0.spelling ∙ ap (λ (b : List Entry). length (block_body b)) (sym parts.1)) in
    absurd (c.in_err-check_block.ensures.0 next))
    (some_both (told table.indexed.file.file) _ _ c.in_ok-frame.ensures.told c.loop-number.invariant.listed)

pub returns-in_err-check_block-clause-refusals : goal.returns-in_err-check_block-clause-refusals
returns-in_err-check_block-clause-refusals g c =
    let table = c.args.self.now in
    let number = c.loop-number.number in
    let handle = c.index-handles-number.result in
    let within : number < length table.indexed.index = omega (arith, ap length c.handles-handles.ensures.handles) in
    let is : handle ≡ get_or table.indexed.index number handle = c.index-handles-number.is ∙ ap (λ ps. get_or ps number handle) c.handles-handles.ensures.handles in
    let fault = c.in_err-check_block.field-0.0 in
    err_is c.from_residual-in_err-check_block.result fault (λ f. IsOutside f ⊎ HasUnfit table f ⊎ (f ≡ Malformed table.indexed.file.id (table.indexed.file.len - 73))) (grind (arith, common_steps))
    (inr (inl (number, handle, within, sym is, inr (c.in_err-check_block.ensures.1 ∙ ap (λ (i : FileId). Malformed i handle.at) c.id-id.ensures))))

pub returns-in_err-check_block-clause-causes : goal.returns-in_err-check_block-clause-causes
returns-in_err-check_block-clause-causes g c =
    let table = c.args.self.now in
    let told = g.F.Files.told table.indexed.file.file in
    let number = c.loop-number.number in
    let handle = c.index-handles-number.result in
    let within : number < length table.indexed.index = omega (arith, ap length c.handles-handles.ensures.handles) in
    let is : handle ≡ get_or table.indexed.index number handle = c.index-handles-number.is ∙ ap (λ ps. get_or ps number handle) c.handles-handles.ensures.handles in
    let l = c.in_ok-list_block.ensures.read in
    let frame = c.in_ok-frame.frame in
    let block = subst (λ (b : List ℕ). IsBlock b (map pair_of l.0)) c.body.ensures l.2 in
    let size : (length c.body-size.result.now) ≡ length frame = ap length c.body-size.ensures in
    let parts = parts-of c.loop-number.entries c.as_slice.result.now l.0 c.len-listed.result (c.as_slice.ensures ∙ l.1) c.len-listed.ensures in
    let apart = subst (λ (es : List Entry). IsNext handle.first es c.loop-number.len l.0 (length c.body-size.result.now) → ⊥) parts.0
    (subst (λ (es : List Entry). IsNext handle.first (take c.len-listed.result c.as_slice.result.now) c.loop-number.len es (length c.body-size.result.now) → ⊥) parts.1
    c.in_err-check_block.ensures.0) in
    let fault = c.in_err-check_block.field-0.0 in
    err_is c.from_residual-in_err-check_block.result fault (λ f. Under told table.indexed.file.len (λ bytes. IsOutside f ⊎ IsScanRefused table bytes f)) (grind (arith, common_steps))
    (order_refused told table number handle frame c.loop-number.entries l.0 c.loop-number.len (length c.body-size.result.now) fault within is block l.3 apart size
    (c.in_err-check_block.ensures.1 ∙ ap (λ (i : FileId). Malformed i handle.at) c.id-id.ensures) (frame-read told table number handle frame c.in_ok-frame.ensures.told c.in_ok-frame.ensures.stands) c.loop-number.invariant.lined)

-- the footer says something else
pub returns-in_err-check_counts-clause-listed : goal.returns-in_err-check_counts-clause-listed
returns-in_err-check_counts-clause-listed g c =
    let told = g.F.Files.told in
    let table = c.args.self.now in
    let number = c.loop-number.number in
    let past : length table.indexed.index ≤ number = omega (arith, ap length c.handles-handles.ensures.handles) in
    told-then (told table.indexed.file.file) _ _ (λ bytes tells listed all stands.
    let same : all ≡ c.loop-number.entries = scanned-all told table all stands number c.loop-number.entries past (listed all stands).0 in
    absurd (c.in_err-check_counts.ensures.0
    (subst (λ (f : Footer). AreCounted f c.as_slice-2.result.now) (sym c.footer.ensures.footer)
    (subst (λ (es : List Entry). AreCounted table.indexed.footer es) (same ∙ sym c.as_slice-2.ensures) (counted-in-table told table all stands)))))
    c.loop-number.invariant.listed

pub returns-in_err-check_counts-clause-causes : goal.returns-in_err-check_counts-clause-causes
returns-in_err-check_counts-clause-causes g c =
    let table = c.args.self.now in
    let told = g.F.Files.told table.indexed.file.file in
    let number = c.loop-number.number in
    let past : length table.indexed.index ≤ number = omega (arith, ap length c.handles-handles.ensures.handles) in
    let apart = subst (λ (f : Footer). AreCounted f c.loop-number.entries → ⊥) c.footer.ensures.footer
    (subst (λ (es : List Entry). AreCounted c.footer.result.now es → ⊥) c.as_slice-2.ensures c.in_err-check_counts.ensures.0) in
    let fault = c.in_err-check_counts.field-0.0 in
    let named : fault ≡ Malformed table.indexed.file.id (table.indexed.file.len - 73) = grind (arith, common_steps) in
    err_is c.from_residual-in_err-check_counts.result fault (λ f. Under told table.indexed.file.len (λ bytes. IsOutside f ⊎ IsScanRefused table bytes f)) (grind (arith, common_steps))
    (counts_refused told table number c.loop-number.entries c.loop-number.len fault past apart named c.loop-number.invariant.lined)

pub loop-number-init : goal.loop-number-init
loop-number-init g c =
    let told = g.F.Files.told in
    let table = c.args.self.now in
    record {
      unmoved = refl;
      bounded = g.met.F.Files.bounded c.args.port.now;
      room = omega arith;
      listed = some_any (told table.indexed.file.file) _ (λ bytes all stands. (c.new-entries.ensures, refl));
      lined = subst (λ (es : List Entry). Lined (told table.indexed.file.file) table 0 es 4096) (sym c.new-entries.ensures) (lined-none (told table.indexed.file.file) table);
    }
