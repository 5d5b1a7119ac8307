use Rattle.mg_wal.proofs.OpeningReach.{OpeningReaches}
use Rattle.mg_wal.proofs.laws.opening_reaches.Goals as goal

pub returns : goal.returns
returns g c tells volume book basis settled found fresh = OpeningReaches _ basis book _ _ settled (g.met.V.Volume.only_now tells volume) found fresh
