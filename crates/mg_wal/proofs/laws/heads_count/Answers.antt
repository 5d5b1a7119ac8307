use Rattle.mg_wal.proofs.PrefixLaws.{HeadsCount}
use Rattle.mg_wal.proofs.laws.heads_count.Goals as goal

pub returns : goal.returns
returns c = HeadsCount
