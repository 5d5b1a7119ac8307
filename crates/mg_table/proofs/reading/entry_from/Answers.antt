use Rattle.std.proofs.Common.{◌≡◌, ◌∙◌, ap, refl, rules, Ok}
use Rattle.mg_frame.proofs.BigEndianLaws.{AreBytes-from_reads}
use Rattle.mg_table.specs.Payload.{judged_payload, numbers_of}
use Rattle.mg_table.specs.declared.entry.Payload.{Payload}
use Rattle.mg_types.specs.declared.items.Entry.{Entry}
use Rattle.mg_table.proofs.PayloadLaws.{payload-back, payload-read}
use Rattle.mg_table.proofs.reading.entry_from.Goals as goal

pub returns-in-Ok-clause-written : goal.returns-in-Ok-clause-written
returns-in-Ok-clause-written c = λ entry is key payload.
    let read : c.take_payload.result ≡ Ok (numbers_of entry) = c.take_payload.ensures ∙ ap judged_payload payload ∙ payload-read entry is in
    let same : c.in-Ok.field-0 ≡ numbers_of entry = cc in
    let made : Payload → Entry = λ (p : Payload). record { key = entry.key; seq = p.seq; size = p.size; gone = p.gone } in
    let again : made c.in-Ok.field-0 ≡ entry = ap made same in
    cc

pub returns-in-Err-Number-clause-written : goal.returns-in-Err-Number-clause-written
returns-in-Err-Number-clause-written c = λ entry is key payload.
    let read : c.take_payload.result ≡ Ok (numbers_of entry) = c.take_payload.ensures ∙ ap judged_payload payload ∙ payload-read entry is in
    absurd cc

pub returns-clause-written : goal.returns-clause-written
returns-clause-written c = λ entry is key payload.
    let read : c.take_payload.result ≡ Ok (numbers_of entry) = c.take_payload.ensures ∙ ap judged_payload payload ∙ payload-read entry is in
    absurd cc

pub returns-in-Ok-clause-read : goal.returns-in-Ok-clause-read
returns-in-Ok-clause-read c =
    let read : judged_payload c.args.payload.now ≡ Ok c.in-Ok.field-0 = cc in
    let back = payload-back c.args.payload.now c.args.key c.in-Ok.field-0 (AreBytes-from_reads c.args.payload.now (λ i. search (rules, c.type_inv.payload i))) read in
    (refl, back.1, back.0)
