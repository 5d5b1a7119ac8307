use Rattle.mg_sealed.proofs.FillingLaws.{one_filling}
use Rattle.mg_sealed.proofs.laws.one_filling.Goals as goal

pub returns : goal.returns
returns g c = one_filling _
