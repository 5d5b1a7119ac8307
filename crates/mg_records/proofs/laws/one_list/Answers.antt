use Rattle.mg_records.proofs.ListLaws.{one_list}
use Rattle.mg_records.proofs.laws.one_list.Goals as goal

pub returns : goal.returns
returns g c = one_list g.R.Record.kind g.met.R.Record.lawful
