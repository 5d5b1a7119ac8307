use Rattle.mg_indexed.proofs.HandleLaws.{one_index}
use Rattle.mg_indexed.proofs.laws.one_index.Goals as goal

pub returns : goal.returns
returns g c = one_index g.K.BlockKey.keys g.T.BlockItem.form g.met.K.BlockKey.lawful
