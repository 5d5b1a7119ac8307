use Rattle.mg_table.proofs.OneFileLaws.{one_file_of_table}
use Rattle.mg_table.proofs.laws.one_file_of_table.Goals as goal

pub returns : goal.returns
returns c = one_file_of_table
