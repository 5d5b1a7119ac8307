use Rattle.mg_wal_format.proofs.TornLaws.{TornWal}
use Rattle.mg_wal_format.proofs.laws.torn_wal.Goals as goal

pub returns : goal.returns
returns c = TornWal
