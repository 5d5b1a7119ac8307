use Rattle.std.specs.Option.{option_copied}
use Rattle.mg_records.proofs.item.ItemRecord.measure.Goals as goal

pub returns : goal.returns
returns c =
    let found = c.in_ok-contents.ensures.spelled in
    (record { seq = 0; key = c.in_ok-contents.contents.key.now; doc = option_copied c.in_ok-contents.contents.doc }, found.0, c.in_ok-contents.ensures.form, found.1, c.spelled_len.ensures.exact)
