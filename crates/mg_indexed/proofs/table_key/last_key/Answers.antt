use Rattle.std.proofs.Common.{◌∙◌, []}
use Rattle.mg_indexed.proofs.FieldLaws.{last_is}
use Rattle.mg_indexed.proofs.table_key.last_key.Goals as goal

pub returns-in-Some : goal.returns-in-Some
returns-in-Some c = c.bytes.ensures.bytes ∙ last_is [] c.args.handles.now c.in-Some.handle.now c.in-Some.ensures.value
