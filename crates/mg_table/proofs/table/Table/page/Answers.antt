use Rattle.std.proofs.Common.{◌≡◌, ◌∙◌, ◌<◌, ◌⊎◌, ◌++◌, List, ℕ, [], length, get_or, map, inl, inr, sym, ap, subst, arith, Ok}
use Rattle.std.proofs.lemmas.List.Elements.{at_read}
use Rattle.std.proofs.lemmas.Grind.{common_steps}
use Rattle.mg_block.specs.Block.{IsBlock}
use Rattle.mg_frame.specs.Frame.{StandsAt}
use Rattle.mg_types.specs.declared.faults.Fault.TheVariants.{Malformed, NoMemory}
use Rattle.mg_types.specs.declared.items.Entry.{Entry}
use Rattle.mg_types.specs.declared.names.FileId.{FileId}
use Rattle.mg_sealed.specs.Answers.{IsOutside}
use Rattle.mg_sealed.specs.Blocks.{IsUnfitAt}
use Rattle.mg_sealed.proofs.AnswerLaws.{err_is}
use Rattle.mg_indexed.specs.declared.handle.BlockHandle.{BlockHandle}
use Rattle.mg_indexed.proofs.LoadingSteps.{Under, under_both, under_then}
use Rattle.mg_table.specs.Entries.{block_body, pair_of, AreEntries}
use Rattle.mg_table.specs.Pages.{IsPageRead, IsPageUnfit, IsPlaced}
use Rattle.mg_table.specs.Reading.{read_at, HasUnfit, IsBlockRefused, IsListUnfit}
use Rattle.mg_table.proofs.CauseLaws.{body_refused, frame_refused}
use Rattle.mg_table.proofs.LoadingLaws.{length-handles_from}
use Rattle.mg_table.proofs.PageLaws.{outside-answer, page-of, placed-in-table}
use Rattle.mg_table.proofs.ReadingLaws.{block-answered, block-refused, told-then}
use Rattle.mg_table.proofs.table.Table.page.Goals as goal

pub returns-in_err-frame-clause-page : goal.returns-in_err-frame-clause-page
returns-in_err-frame-clause-page g c =
    let told = g.F.Files.told in
    let table = c.args.self.now in
    let number = c.args.number in
    let handle = c.index-handles-number.result in
    let within : number < length table.indexed.index = c.requires in
    let is : handle ≡ get_or table.indexed.index number handle = c.index-handles-number.is ∙ ap (λ ps. get_or ps number handle) c.handles-handles.ensures.handles in
    let fault = c.in_err-frame.field-0.0 in
    told-then (told table.indexed.file.file) _ _ (λ bytes tells known entries stands.
    outside-answer c.from_residual.result fault _ (grind (arith, common_steps)) (block-refused told table entries stands bytes tells handle number within is fault known))
    c.in_err-frame.ensures.told

pub returns-in_err-frame-clause-refusals : goal.returns-in_err-frame-clause-refusals
returns-in_err-frame-clause-refusals g c =
    let told = g.F.Files.told in
    let table = c.args.self.now in
    let number = c.args.number in
    let handle = c.index-handles-number.result in
    let within : number < length table.indexed.index = c.requires in
    let is : handle ≡ get_or table.indexed.index number handle = c.index-handles-number.is ∙ ap (λ ps. get_or ps number handle) c.handles-handles.ensures.handles in
    let fault = c.in_err-frame.field-0.0 in
    err_is c.from_residual.result fault (λ f. IsOutside f ⊎ HasUnfit table f) (grind (arith, common_steps))
    (elim c.in_err-frame.ensures.refusals [ inl from ↦ inl from | inr unfit ↦ inr (number, handle, within, sym is, unfit) ])

pub returns-in_err-frame-clause-causes : goal.returns-in_err-frame-clause-causes
returns-in_err-frame-clause-causes g c =
    let told = g.F.Files.told in
    let table = c.args.self.now in
    let number = c.args.number in
    let handle = c.index-handles-number.result in
    let within : number < length table.indexed.index = c.requires in
    let is : handle ≡ get_or table.indexed.index number handle = c.index-handles-number.is ∙ ap (λ ps. get_or ps number handle) c.handles-handles.ensures.handles in
    let fault = c.in_err-frame.field-0.0 in
    err_is c.from_residual.result fault (λ f. Under (told table.indexed.file.file) table.indexed.file.len (λ bytes. IsOutside f ⊎ IsBlockRefused table bytes number (IsPageUnfit table number) f)) (grind (arith, common_steps))
    (frame_refused (told table.indexed.file.file) table number handle (IsPageUnfit table number) fault within is c.in_err-frame.ensures.told)

pub returns-in_err-list_block-clause-page : goal.returns-in_err-list_block-clause-page
returns-in_err-list_block-clause-page g c =
    let told = g.F.Files.told in
    let table = c.args.self.now in
    let number = c.args.number in
    let handle = c.index-handles-number.result in
    let within : number < length table.indexed.index = c.requires in
    let is : handle ≡ get_or table.indexed.index number handle = c.index-handles-number.is ∙ ap (λ ps. get_or ps number handle) c.handles-handles.ensures.handles in
    let fault = c.in_err-list_block.field-0.0 in
    told-then (told table.indexed.file.file) _ _ (λ bytes tells known entries stands.
    let block = get_or stands.blocks number [] in
    let read = block-answered told table entries stands bytes tells handle number within is c.in_ok-frame.frame known [] in
    outside-answer c.from_residual-in_err-list_block.result fault _ (grind (arith, common_steps))
    (inl (c.in_err-list_block.ensures.in_block block read.1 (subst (λ (b : List ℕ). IsBlock b (map pair_of block)) (sym c.body.ensures) read.0))))
    c.in_ok-frame.ensures.told

pub returns-in_err-list_block-clause-refusals : goal.returns-in_err-list_block-clause-refusals
returns-in_err-list_block-clause-refusals g c =
    let told = g.F.Files.told in
    let table = c.args.self.now in
    let number = c.args.number in
    let handle = c.index-handles-number.result in
    let within : number < length table.indexed.index = c.requires in
    let is : handle ≡ get_or table.indexed.index number handle = c.index-handles-number.is ∙ ap (λ ps. get_or ps number handle) c.handles-handles.ensures.handles in
    let fault = c.in_err-list_block.field-0.0 in
    err_is c.from_residual-in_err-list_block.result fault (λ f. IsOutside f ⊎ HasUnfit table f) (grind (arith, common_steps))
    (elim c.in_err-list_block.ensures.refusals [
      | inl memory ↦ inl (inl memory)
      | inr unfit ↦ inr (number, handle, within, sym is, subst (λ (i : FileId). IsUnfitAt i handle.at fault) c.id-id.ensures unfit)
    ])

pub returns-in_err-list_block-clause-causes : goal.returns-in_err-list_block-clause-causes
returns-in_err-list_block-clause-causes g c =
    let told = g.F.Files.told in
    let table = c.args.self.now in
    let number = c.args.number in
    let handle = c.index-handles-number.result in
    let within : number < length table.indexed.index = c.requires in
    let is : handle ≡ get_or table.indexed.index number handle = c.index-handles-number.is ∙ ap (λ ps. get_or ps number handle) c.handles-handles.ensures.handles in
    let fault = c.in_err-list_block.field-0.0 in
    let why = subst (λ (i : FileId). (fault ≡ NoMemory) ⊎ IsListUnfit i handle.at c.in_ok-frame.frame fault) c.id-id.ensures
    (subst (λ (body : List ℕ). (fault ≡ NoMemory) ⊎ IsListUnfit c.id-id.result handle.at body fault) c.body.ensures c.in_err-list_block.ensures.causes) in
    err_is c.from_residual-in_err-list_block.result fault (λ f. Under (told table.indexed.file.file) table.indexed.file.len (λ bytes. IsOutside f ⊎ IsBlockRefused table bytes number (IsPageUnfit table number) f)) (grind (arith, common_steps))
    (body_refused (told table.indexed.file.file) table number handle (IsPageUnfit table number) fault c.in_ok-frame.frame within is
    (elim why [ inl memory ↦ inl memory | inr unfit ↦ inr (inl unfit) ]) c.in_ok-frame.ensures.told)

pub returns-in_err-check_page-clause-page : goal.returns-in_err-check_page-clause-page
returns-in_err-check_page-clause-page g c =
    let told = g.F.Files.told in
    let table = c.args.self.now in
    let number = c.args.number in
    let handle = c.index-handles-number.result in
    let within : number < length table.indexed.index = c.requires in
    let is : handle ≡ get_or table.indexed.index number handle = c.index-handles-number.is ∙ ap (λ ps. get_or ps number handle) c.handles-handles.ensures.handles in
    told-then (told table.indexed.file.file) _ _ (λ bytes tells known entries stands.
    let block = get_or stands.blocks number [] in
    let read = block-answered told table entries stands bytes tells handle number within is c.in_ok-frame.frame known [] in
    let listed = c.in_ok-list_block.ensures.in_block block read.1 (subst (λ (b : List ℕ). IsBlock b (map pair_of block)) (sym c.body.ensures) read.0) in
    let page : c.list_block.new.entries ≡ block = listed ∙ ap (λ (es : List Entry). es ++ block) c.new-entries.ensures in
    let size : length c.body-size.result.now ≡ length (block_body block) = ap length c.body-size.ensures ∙ ap length read.0.spelling in
    let placed = placed-in-table told table entries stands number handle c.list_block.new.entries (length c.body-size.result.now) within is page (size ∙ ap (λ (b : List Entry). length (block_body b)) (sym page)) in
    absurd (c.in_err-check_page.ensures.0 (subst (λ (es : List Entry). IsPlaced c.handles-handles.result.now number es (length c.body-size.result.now)) (sym c.as_slice.ensures)
    (subst (λ ps. IsPlaced ps number c.list_block.new.entries (length c.body-size.result.now)) (sym c.handles-handles.ensures.handles) placed))))
    c.in_ok-frame.ensures.told

pub returns-in_err-check_page-clause-refusals : goal.returns-in_err-check_page-clause-refusals
returns-in_err-check_page-clause-refusals g c =
    let told = g.F.Files.told in
    let table = c.args.self.now in
    let number = c.args.number in
    let handle = c.index-handles-number.result in
    let within : number < length table.indexed.index = c.requires in
    let is : handle ≡ get_or table.indexed.index number handle = c.index-handles-number.is ∙ ap (λ ps. get_or ps number handle) c.handles-handles.ensures.handles in
    let fault = c.in_err-check_page.field-0.0 in
    let named : fault ≡ Malformed table.indexed.file.id handle.at =
    c.in_err-check_page.ensures.1 handle ∙ ap (λ (h : BlockHandle (List ℕ)). Malformed c.id-id.result h.at) (sym c.index-handles-number.is) ∙ ap (λ (i : FileId). Malformed i handle.at) c.id-id.ensures in
    err_is c.from_residual-in_err-check_page.result fault (λ f. IsOutside f ⊎ HasUnfit table f) (grind (arith, common_steps))
    (inr (number, handle, within, sym is, inr named))

pub returns-in_err-check_page-clause-causes : goal.returns-in_err-check_page-clause-causes
returns-in_err-check_page-clause-causes g c =
    let told = g.F.Files.told in
    let table = c.args.self.now in
    let number = c.args.number in
    let handle = c.index-handles-number.result in
    let within : number < length table.indexed.index = c.requires in
    let is : handle ≡ get_or table.indexed.index number handle = c.index-handles-number.is ∙ ap (λ ps. get_or ps number handle) c.handles-handles.ensures.handles in
    let l = c.in_ok-list_block.ensures.read in
    let page = c.list_block.new.entries in
    let same : page ≡ l.0 = l.1 ∙ ap (λ (es : List Entry). es ++ l.0) c.new-entries.ensures in
    let frame = c.in_ok-frame.frame in
    let block = subst (λ (b : List ℕ). IsBlock b (map pair_of l.0)) c.body.ensures l.2 in
    let are : AreEntries page = subst AreEntries (sym same) (record { rising = block.rising; each = l.3 }) in
    let body : frame ≡ block_body page = block.spelling ∙ ap block_body (sym same) in
    let size : length c.body-size.result.now ≡ length (block_body page) = ap length c.body-size.ensures ∙ ap length body in
    let fault = c.in_err-check_page.field-0.0 in
    let named : fault ≡ Malformed table.indexed.file.id handle.at =
    c.in_err-check_page.ensures.1 handle ∙ ap (λ (h : BlockHandle (List ℕ)). Malformed c.id-id.result h.at) (sym c.index-handles-number.is) ∙ ap (λ (i : FileId). Malformed i handle.at) c.id-id.ensures in
    let apart = subst (λ ps. IsPlaced ps number page (length frame) → ⊥) c.handles-handles.ensures.handles
    (subst (λ (es : List Entry). IsPlaced c.handles-handles.result.now number es (length frame) → ⊥) c.as_slice.ensures
    (subst (λ (n : ℕ). IsPlaced c.handles-handles.result.now number c.as_slice.result.now n → ⊥) (ap length c.body-size.ensures) c.in_err-check_page.ensures.0)) in
    err_is c.from_residual-in_err-check_page.result fault (λ f. Under (told table.indexed.file.file) table.indexed.file.len (λ bytes. IsOutside f ⊎ IsBlockRefused table bytes number (IsPageUnfit table number) f)) (grind (arith, common_steps))
    (body_refused (told table.indexed.file.file) table number handle (IsPageUnfit table number) fault frame within is
    (inr (inr (page, body, are, apart, named))) c.in_ok-frame.ensures.told)

pub returns-clause-page : goal.returns-clause-page
returns-clause-page g c =
    let told = g.F.Files.told in
    let table = c.args.self.now in
    let number = c.args.number in
    let handle = c.index-handles-number.result in
    let within : number < length table.indexed.index = c.requires in
    let is : handle ≡ get_or table.indexed.index number handle = c.index-handles-number.is ∙ ap (λ ps. get_or ps number handle) c.handles-handles.ensures.handles in
    told-then (told table.indexed.file.file) _ _ (λ bytes tells known entries stands.
    let block = get_or stands.blocks number [] in
    let read = block-answered told table entries stands bytes tells handle number within is c.in_ok-frame.frame known [] in
    page-of stands.blocks number c.new-entries.result c.list_block.new.entries (omega (arith, within, ap length stands.index, length-handles_from 0 stands.blocks)) c.new-entries.ensures
    (c.in_ok-list_block.ensures.in_block block read.1 (subst (λ (b : List ℕ). IsBlock b (map pair_of block)) (sym c.body.ensures) read.0)))
    c.in_ok-frame.ensures.told

pub returns-clause-right : goal.returns-clause-right
returns-clause-right g c =
    let told = g.F.Files.told in
    let table = c.args.self.now in
    let number = c.args.number in
    let handle = c.index-handles-number.result in
    let within : number < length table.indexed.index = c.requires in
    let is : handle ≡ get_or table.indexed.index number handle = c.index-handles-number.is ∙ ap (λ ps. get_or ps number handle) c.handles-handles.ensures.handles in
    let l = c.in_ok-list_block.ensures.read in
    let page = c.list_block.new.entries in
    let same : page ≡ l.0 = l.1 ∙ ap (λ (es : List Entry). es ++ l.0) c.new-entries.ensures in
    let frame = c.in_ok-frame.frame in
    let block = subst (λ (b : List ℕ). IsBlock b (map pair_of l.0)) c.body.ensures l.2 in
    let are : AreEntries page = subst AreEntries (sym same) (record { rising = block.rising; each = l.3 }) in
    let body : frame ≡ block_body page = block.spelling ∙ ap block_body (sym same) in
    let size : length c.body-size.result.now ≡ length (block_body page) = ap length c.body-size.ensures ∙ ap length body in (
      are,
      subst (λ (n : ℕ). IsPlaced table.indexed.index number page n) size
          (subst (λ ps. IsPlaced ps number page (length c.body-size.result.now)) c.handles-handles.ensures.handles
          (subst (λ (es : List Entry). IsPlaced c.handles-handles.result.now number es (length c.body-size.result.now)) c.as_slice.ensures c.in_ok-check_page.ensures)),
    )

pub returns-clause-read : goal.returns-clause-read
returns-clause-read g c =
    let told = g.F.Files.told in
    let table = c.args.self.now in
    let number = c.args.number in
    let handle = c.index-handles-number.result in
    let within : number < length table.indexed.index = c.requires in
    let is : handle ≡ get_or table.indexed.index number handle = c.index-handles-number.is ∙ ap (λ ps. get_or ps number handle) c.handles-handles.ensures.handles in
    let l = c.in_ok-list_block.ensures.read in
    let page = c.list_block.new.entries in
    let same : page ≡ l.0 = l.1 ∙ ap (λ (es : List Entry). es ++ l.0) c.new-entries.ensures in
    let frame = c.in_ok-frame.frame in
    let block = subst (λ (b : List ℕ). IsBlock b (map pair_of l.0)) c.body.ensures l.2 in
    let are : AreEntries page = subst AreEntries (sym same) (record { rising = block.rising; each = l.3 }) in
    let body : frame ≡ block_body page = block.spelling ∙ ap block_body (sym same) in
    let size : length c.body-size.result.now ≡ length (block_body page) = ap length c.body-size.ensures ∙ ap length body in
    let Read : List ℕ → BlockHandle (List ℕ) → Type 0 = λ bytes h. (read_at table.indexed.file.id bytes h number ≡ Ok (block_body page)) × StandsAt bytes h.at (number, block_body page) in
    under_then (told table.indexed.file.file) table.indexed.file.len (λ bytes. (read_at table.indexed.file.id bytes handle number ≡ Ok frame) × StandsAt bytes handle.at (number, frame))
    (λ bytes. IsPageRead table bytes number page)
    (λ bytes long h. at_read table.indexed.index (Read bytes) number handle within is
    (subst (λ (b : List ℕ). (read_at table.indexed.file.id bytes handle number ≡ Ok b) × StandsAt bytes handle.at (number, b)) body h))
    (under_both (told table.indexed.file.file) table.indexed.file.len (λ bytes. read_at table.indexed.file.id bytes handle number ≡ Ok frame) (λ bytes. StandsAt bytes handle.at (number, frame))
    c.in_ok-frame.ensures.told c.in_ok-frame.ensures.stands)
