use Rattle.std.proofs.Common.{◌⊎◌, inl, inr, MatchOption, ◌≡◌, ◌∙◌, ℕ, List, [], get_or, map, sym, ap, subst, arith}
use Rattle.std.proofs.lemmas.Grind.{common_steps}
use Rattle.mg_block.specs.Block.{IsBlock}
use Rattle.mg_block.specs.Search.{Finds, Misses}
use Rattle.mg_table.specs.Entries.{pair_of, payload_of}
use Rattle.mg_types.specs.Items.{IsEntry}
use Rattle.mg_table.specs.Reading.{entry_of, BeginsWithKey, HasUnfit, IsFindRead, IsFindRefused, IsFindUnfit, IsSearchUnfit}
use Rattle.mg_types.specs.declared.faults.Fault.TheVariants.{Malformed, NoMemory}
use Rattle.mg_types.specs.declared.names.FileId.{FileId}
use Rattle.mg_sealed.specs.Answers.{IsOutside}
use Rattle.mg_sealed.specs.Blocks.{IsUnfitAt}
use Rattle.mg_sealed.proofs.AnswerLaws.{err_is, err_then, ok_then, outside, some_any}
use Rattle.mg_table.proofs.CauseLaws.{body_refused, find_read, find_refused, frame_refused}
use Rattle.mg_table.proofs.FrontLaws.{block-begins}
use Rattle.mg_indexed.proofs.LoadingSteps.{Under}
use Rattle.mg_table.proofs.ScanningLaws.{first-in-table}
use Rattle.mg_indexed.specs.declared.handle.BlockHandle.{BlockHandle}
use Rattle.mg_table.proofs.ReadingLaws.{answers-from, block-answered, block-refused, told-then}
use Rattle.mg_table.proofs.table.Table.find_hashed.Goals as goal

pub returns-in_err-frame-clause-found : goal.returns-in_err-frame-clause-found
returns-in_err-frame-clause-found g c =
    let told = g.F.Files.told in
    let table = c.args.self.now in
    let number = c.in-Some.number in
    let handle = c.index-handles-number.result in
    let is : handle ≡ get_or table.indexed.index number handle = c.index-handles-number.is ∙ ap (λ ps. get_or ps number handle) c.handles.ensures.handles in
    told-then (told table.indexed.file.file) _ _ (λ bytes tells known entries stands.
    outside _ c.from_residual.result c.in_err-frame.field-0.0 (grind (arith, common_steps))
    (block-refused told table entries stands bytes tells handle number c.in-Some.ensures.sought.within is c.in_err-frame.field-0.0 known))
    c.in_err-frame.ensures.told

pub returns-clause-found : goal.returns-clause-found
returns-clause-found g c =
    let told = g.F.Files.told in
    let table = c.args.self.now in
    let key = c.args.key.now in
    let number = c.in-Some.number in
    let handle = c.index-handles-number.result in
    let is : handle ≡ get_or table.indexed.index number handle = c.index-handles-number.is ∙ ap (λ ps. get_or ps number handle) c.handles.ensures.handles in
    told-then (told table.indexed.file.file) _ _ (λ bytes tells known entries stands.
    let block = get_or stands.blocks number [] in
    let read = block-answered told table entries stands bytes tells handle number c.in-Some.ensures.sought.within is c.in_ok-frame.frame known [] in
    let one : entry_of key entries ≡ entry_of key block = c.in-Some.ensures.only entries stands.blocks stands.parts stands.index [] in
    answers-from (entry_of key entries) (entry_of key block) c.find_in_block-found.result one
    (c.find_in_block-found.ensures.in_block block read.1 (subst (λ (b : List ℕ). IsBlock b (map pair_of block)) (sym c.body-2.ensures) read.0)))
    c.in_ok-frame.ensures.told

pub returns-in_err-frame-clause-causes : goal.returns-in_err-frame-clause-causes
returns-in_err-frame-clause-causes g c =
    let table = c.args.self.now in
    let key = c.args.key.now in
    let told = g.F.Files.told table.indexed.file.file in
    let number = c.in-Some.number in
    let handle = c.index-handles-number.result in
    let is : handle ≡ get_or table.indexed.index number handle = c.index-handles-number.is ∙ ap (λ ps. get_or ps number handle) c.handles.ensures.handles in
    let fault = c.in_err-frame.field-0.0 in
    err_is c.from_residual.result fault (λ f. Under told table.indexed.file.len (λ bytes. IsOutside f ⊎ IsFindRefused table bytes key f)) (grind (arith, common_steps))
    (find_refused told table key number fault c.in-Some.ensures.sought
    (frame_refused told table number handle (λ (p : BlockHandle (List ℕ)) body. IsFindUnfit table.indexed.file.id p body key) fault c.in-Some.ensures.sought.within is c.in_err-frame.ensures.told))

pub returns-clause-causes : goal.returns-clause-causes
returns-clause-causes g c =
    let table = c.args.self.now in
    let key = c.args.key.now in
    let told = g.F.Files.told table.indexed.file.file in
    let number = c.in-Some.number in
    let handle = c.index-handles-number.result in
    let is : handle ≡ get_or table.indexed.index number handle = c.index-handles-number.is ∙ ap (λ ps. get_or ps number handle) c.handles.ensures.handles in
    let id = table.indexed.file.id in
    let begins : BeginsWithKey c.in_ok-frame.frame handle.first = subst (λ (body : List ℕ). BeginsWithKey body handle.first) c.body.ensures c.in_ok-check_first.ensures in
    err_then c.find_in_block-found.result (λ fault. (fault ≡ NoMemory) ⊎ IsSearchUnfit c.id-id.result handle.at c.body-2.result.now key fault)
    (λ fault. Under told table.indexed.file.len (λ bytes. IsOutside fault ⊎ IsFindRefused table bytes key fault))
    (λ fault same why. find_refused told table key number fault c.in-Some.ensures.sought
    (body_refused told table number handle (λ (p : BlockHandle (List ℕ)) body. IsFindUnfit id p body key) fault c.in_ok-frame.frame c.in-Some.ensures.sought.within is
    (elim (subst (λ (i : FileId). (fault ≡ NoMemory) ⊎ IsSearchUnfit i handle.at c.in_ok-frame.frame key fault) c.id-id.ensures
    (subst (λ (body : List ℕ). (fault ≡ NoMemory) ⊎ IsSearchUnfit c.id-id.result handle.at body key fault) c.body-2.ensures why)) [
      | inl memory ↦ inl memory
      | inr unfit ↦ inr (inr (begins, unfit))
    ]) c.in_ok-frame.ensures.told))
    c.find_in_block-found.ensures.causes

pub returns-in_default-clause-read : goal.returns-in_default-clause-read
returns-in_default-clause-read g c = some_any (g.F.Files.told c.args.self.now.indexed.file.file) _ (λ bytes same. inl c.in_default.ensures.sought)

pub returns-clause-read : goal.returns-clause-read
returns-clause-read g c =
    let table = c.args.self.now in
    let key = c.args.key.now in
    let told = g.F.Files.told table.indexed.file.file in
    let number = c.in-Some.number in
    let handle = c.index-handles-number.result in
    let is : handle ≡ get_or table.indexed.index number handle = c.index-handles-number.is ∙ ap (λ ps. get_or ps number handle) c.handles.ensures.handles in
    ok_then c.find_in_block-found.result
    (λ found. MatchOption found (Misses c.body-2.result.now key) (λ entry. (entry.key ≡ key) × IsEntry entry × Finds c.body-2.result.now key (payload_of entry)))
    (λ found. Under told table.indexed.file.len (λ bytes. IsFindRead table bytes key found))
    (λ found h. find_read told table key number handle c.in_ok-frame.frame found c.in-Some.ensures.sought is
    (subst (λ (body : List ℕ). BeginsWithKey body handle.first) c.body.ensures c.in_ok-check_first.ensures)
    (subst (λ (body : List ℕ). MatchOption found (Misses body key) (λ entry. (entry.key ≡ key) × IsEntry entry × Finds body key (payload_of entry))) c.body-2.ensures h)
    c.in_ok-frame.ensures.told)
    c.find_in_block-found.ensures.read

-- the block begins with another key
pub returns-in_err-check_first-clause-found : goal.returns-in_err-check_first-clause-found
returns-in_err-check_first-clause-found g c =
    let told = g.F.Files.told in
    let table = c.args.self.now in
    let number = c.in-Some.number in
    let handle = c.index-handles-number.result in
    let within = c.in-Some.ensures.sought.within in
    let is : handle ≡ get_or table.indexed.index number handle = c.index-handles-number.is ∙ ap (λ ps. get_or ps number handle) c.handles.ensures.handles in
    told-then (told table.indexed.file.file) _ _ (λ bytes tells known entries stands.
    let block = get_or stands.blocks number [] in
    let read = block-answered told table entries stands bytes tells handle number within is c.in_ok-frame.frame known [] in
    let first = first-in-table told table entries stands number handle within is in
    let begins = block-begins c.in_ok-frame.frame handle.first block read.0 first.0 first.1 in
    absurd (c.in_err-check_first.ensures.0 (subst (λ (body : List ℕ). BeginsWithKey body handle.first) (sym c.body.ensures) begins)))
    c.in_ok-frame.ensures.told

pub returns-in_err-check_first-clause-causes : goal.returns-in_err-check_first-clause-causes
returns-in_err-check_first-clause-causes g c =
    let table = c.args.self.now in
    let key = c.args.key.now in
    let told = g.F.Files.told table.indexed.file.file in
    let number = c.in-Some.number in
    let handle = c.index-handles-number.result in
    let is : handle ≡ get_or table.indexed.index number handle = c.index-handles-number.is ∙ ap (λ ps. get_or ps number handle) c.handles.ensures.handles in
    let id = table.indexed.file.id in
    let fault = c.in_err-check_first.field-0.0 in
    let never = subst (λ (body : List ℕ). BeginsWithKey body handle.first → ⊥) c.body.ensures c.in_err-check_first.ensures.0 in
    err_is c.from_residual-in_err-check_first.result fault (λ f. Under told table.indexed.file.len (λ bytes. IsOutside f ⊎ IsFindRefused table bytes key f)) (grind (arith, common_steps))
    (find_refused told table key number fault c.in-Some.ensures.sought
    (body_refused told table number handle (λ (p : BlockHandle (List ℕ)) body. IsFindUnfit id p body key) fault c.in_ok-frame.frame c.in-Some.ensures.sought.within is
    (inr (inl (never, c.in_err-check_first.ensures.1 ∙ ap (λ (i : FileId). Malformed i handle.at) c.id-id.ensures))) c.in_ok-frame.ensures.told))

pub returns-in_err-check_first-clause-refusals : goal.returns-in_err-check_first-clause-refusals
returns-in_err-check_first-clause-refusals g c =
    let table = c.args.self.now in
    let number = c.in-Some.number in
    let handle = c.index-handles-number.result in
    let is : handle ≡ get_or table.indexed.index number handle = c.index-handles-number.is ∙ ap (λ ps. get_or ps number handle) c.handles.ensures.handles in
    let fault = c.in_err-check_first.field-0.0 in
    err_is c.from_residual-in_err-check_first.result fault (λ f. IsOutside f ⊎ HasUnfit table f) (grind (arith, common_steps))
    (inr (number, handle, c.in-Some.ensures.sought.within, sym is, inr (c.in_err-check_first.ensures.1 ∙ ap (λ (i : FileId). Malformed i handle.at) c.id-id.ensures)))

pub returns-in_err-frame-clause-refusals : goal.returns-in_err-frame-clause-refusals
returns-in_err-frame-clause-refusals g c =
    let table = c.args.self.now in
    let number = c.in-Some.number in
    let handle = c.index-handles-number.result in
    let is : handle ≡ get_or table.indexed.index number handle = c.index-handles-number.is ∙ ap (λ ps. get_or ps number handle) c.handles.ensures.handles in
    err_is c.from_residual.result c.in_err-frame.field-0.0 (λ f. IsOutside f ⊎ HasUnfit table f) (grind (arith, common_steps))
    (elim c.in_err-frame.ensures.refusals [
      | inl from ↦ inl from
      | inr unfit ↦ inr (number, handle, c.in-Some.ensures.sought.within, sym is, unfit)
    ])

pub returns-clause-refusals : goal.returns-clause-refusals
returns-clause-refusals g c =
    let table = c.args.self.now in
    let number = c.in-Some.number in
    let handle = c.index-handles-number.result in
    let is : handle ≡ get_or table.indexed.index number handle = c.index-handles-number.is ∙ ap (λ ps. get_or ps number handle) c.handles.ensures.handles in
    err_then c.find_in_block-found.result (λ fault. (fault ≡ NoMemory) ⊎ IsUnfitAt c.id-id.result handle.at fault) (λ fault. IsOutside fault ⊎ HasUnfit table fault)
    (λ fault same why. elim why [
      | inl memory ↦ inl (inl memory)
      | inr unfit ↦ inr (number, handle, c.in-Some.ensures.sought.within, sym is, subst (λ (i : FileId). IsUnfitAt i handle.at fault) c.id-id.ensures unfit)
    ])
    c.find_in_block-found.ensures.refusals
