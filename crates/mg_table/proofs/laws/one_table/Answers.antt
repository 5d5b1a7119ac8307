use Rattle.mg_table.proofs.ListLaws.{one_table}
use Rattle.mg_table.proofs.laws.one_table.Goals as goal

pub returns : goal.returns
returns c = one_table
