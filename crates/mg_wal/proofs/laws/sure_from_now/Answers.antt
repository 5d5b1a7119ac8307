use Rattle.mg_wal.proofs.ReachLaws.{reaches_now}
use Rattle.mg_wal.proofs.laws.sure_from_now.Goals as goal

pub returns : goal.returns
returns g c tells volume book basis list time reach reached = reaches_now basis list time reach book _ (g.met.V.Volume.only_now tells volume) reached
