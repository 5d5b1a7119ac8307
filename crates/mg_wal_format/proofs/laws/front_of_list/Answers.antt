use Rattle.mg_wal_format.proofs.FrontLaws.{FrontOfList}
use Rattle.mg_wal_format.proofs.laws.front_of_list.Goals as goal

pub returns : goal.returns
returns c = FrontOfList
