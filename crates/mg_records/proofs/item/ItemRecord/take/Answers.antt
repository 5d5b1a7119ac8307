use Rattle.std.proofs.Common.{[]}
use Rattle.std.specs.Option.{option_copied}
use Rattle.mg_records.proofs.ItemReading.{item_taken, some_by_none, whole_contents}
use Rattle.mg_records.proofs.item.ItemRecord.take.Goals as goal

pub unwrap-requires : goal.unwrap-requires
unwrap-requires c =
    some_by_none c.read.result _ c.read.ensures.none
    (λ none. none c.requires.0.key c.requires.0.doc [] c.requires.1 (whole_contents c.args.contents.now c.requires))

pub returns : goal.returns
returns c =
    let form = rw c.unwrap.ensures at c.read.ensures.form in
    let spelled = rw c.unwrap.ensures at c.read.ensures.spelled in
    item_taken c.args.contents.now c.args.seq c.unwrap.result.key.now (option_copied c.unwrap.result.doc) spelled.0 c.to_item.result c.requires form spelled.1 c.to_item.ensures.seq c.to_item.ensures.key c.to_item.ensures.doc
