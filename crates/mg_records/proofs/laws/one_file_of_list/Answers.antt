use Rattle.mg_records.proofs.ListLaws.{one_file_of_list}
use Rattle.mg_records.proofs.laws.one_file_of_list.Goals as goal

pub returns : goal.returns
returns g c = one_file_of_list g.R.Record.kind
