use Rattle.std.proofs.Common.{◌∙◌, ap, length}
use Rattle.mg_table.proofs.LoadingLaws.{length-handles_from}
use Rattle.mg_table.proofs.table.Table.blocks.Goals as goal

pub returns-clause-entries : goal.returns-clause-entries
returns-clause-entries g c = λ told entries stands. ap length c.handles.ensures.handles ∙ ap length stands.index ∙ length-handles_from 0 stands.blocks
