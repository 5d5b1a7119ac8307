-- A mutation with its number as bytes of a file.
use Rattle.mg_types.specs.declared.items.Item.{Item}
use Rattle.mg_types.specs.Items.{size_of}
use Rattle.mg_records.specs.Record.{Kind}
use Rattle.mg_records.specs.Contents.{AreContents, contents}

-- mutations with their numbers, as a kind of records
abbrev pub item_kind : Kind Item
item_kind = record { seq = λ item. item.seq; size = size_of; contents = λ item. contents item.key item.doc; fits = λ item. AreContents item.key item.doc }
