use Rattle.mg_model.proofs.ManyParts.{one_order}
use Rattle.mg_model.proofs.laws.one_order_serves_all_partitions.Goals as goal

pub returns : goal.returns
returns c = one_order
