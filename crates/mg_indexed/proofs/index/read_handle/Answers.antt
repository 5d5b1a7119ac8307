use Rattle.std.proofs.Common.{◌≡◌, ◌⊎◌, ◌<◌, ◌^◌, inl, inr, arith, rules}
use Rattle.std.proofs.lemmas.Grind.{common_steps}
use Rattle.mg_types.specs.declared.faults.Fault.TheVariants.{NoMemory}
use Rattle.mg_sealed.proofs.AnswerLaws.{err_is}
use Rattle.mg_indexed.specs.Index.{first_after, handle_bytes, item_bytes, FitsFields, IsHandleUnfit}
use Rattle.mg_indexed.specs.Forms.{IsFrameLength}
use Rattle.mg_indexed.specs.declared.handle.BlockHandle.{BlockHandle}
use Rattle.mg_indexed.proofs.HandleLaws.{item_refused}
use Rattle.mg_indexed.proofs.index.read_handle.Goals as goal

pub returns-in_err-first-clause-refusals : goal.returns-in_err-first-clause-refusals
returns-in_err-first-clause-refusals g c =
    let keys = g.K.BlockKey.keys in
    let form = g.T.BlockItem.form in
    let item = c.args.item in
    let previous = first_after keys.lowest c.args.before.now in
    let small : item.at < 2 ^ 64 = search rules in
    let short : item.len < 2 ^ 32 = search rules in
    let fault = c.in_err-first.field-0.0 in
    err_is c.from_residual.result fault
    (λ f. (f ≡ NoMemory) ⊎ ((handle : BlockHandle g.row.K.Denot) × FitsFields keys handle × (item_bytes item.first.now item.at item.len ≡ handle_bytes keys handle)
    × IsHandleUnfit keys form c.args.id c.args.at previous c.args.end handle f)) (grind (arith, common_steps))
    (elim c.in_err-first.ensures [
      | inl memory ↦ inl memory
      | inr refused ↦
          item_refused keys form c.args.id c.args.at previous c.args.end item.first.now refused.0 item.at item.len fault refused.1 refused.2 small short (inl refused.3)
    ])

pub returns-in_err-check_offset-clause-refusals : goal.returns-in_err-check_offset-clause-refusals
returns-in_err-check_offset-clause-refusals g c =
    let keys = g.K.BlockKey.keys in
    let form = g.T.BlockItem.form in
    let item = c.args.item in
    let previous = first_after keys.lowest c.args.before.now in
    let small : item.at < 2 ^ 64 = search rules in
    let short : item.len < 2 ^ 32 = search rules in
    let fault = c.in_err-check_offset.field-0.0 in
    let key = c.in_ok-first.ensures in
    err_is c.from_residual-in_err-check_offset.result fault
    (λ f. (f ≡ NoMemory) ⊎ ((handle : BlockHandle g.row.K.Denot) × FitsFields keys handle × (item_bytes item.first.now item.at item.len ≡ handle_bytes keys handle)
    × IsHandleUnfit keys form c.args.id c.args.at previous c.args.end handle f)) (grind (arith, common_steps))
    (item_refused keys form c.args.id c.args.at previous c.args.end item.first.now c.in_ok-first.first item.at item.len fault key.0 key.1 small short (inr (inl (key.2, c.in_err-check_offset.ensures))))

pub returns-then-not-is_frame_len-clause-refusals : goal.returns-then-not-is_frame_len-clause-refusals
returns-then-not-is_frame_len-clause-refusals g c =
    let keys = g.K.BlockKey.keys in
    let form = g.T.BlockItem.form in
    let item = c.args.item in
    let previous = first_after keys.lowest c.args.before.now in
    let small : item.at < 2 ^ 64 = search rules in
    let short : item.len < 2 ^ 32 = search rules in
    let key = c.in_ok-first.ensures in
    let offset = c.in_ok-check_offset.ensures in
    let other : IsFrameLength form item.len → ⊥ = λ is. (let yes = c.is_frame_len.ensures.1 is in absurd (grind (arith, common_steps, yes))) in
    item_refused keys form c.args.id c.args.at previous c.args.end item.first.now c.in_ok-first.first item.at item.len c.malformed.result key.0 key.1 small short
    (inr (inr (key.2, offset.0, offset.1, other, c.malformed.ensures)))
