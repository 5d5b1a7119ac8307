use Rattle.mg_wal_format.proofs.OpeningLaws.{EndIsKept}
use Rattle.mg_wal_format.proofs.OrderLaws.{AllInOrder, HeadCounts}
use Rattle.mg_wal_format.proofs.laws.all_in_order.Goals as goal

pub returns : goal.returns
returns c = record { order = AllInOrder; heads = HeadCounts; end = EndIsKept }
