use Rattle.mg_layout.proofs.MadeLaws.{merged_stands}
use Rattle.mg_layout.proofs.laws.merge_made_keeps_standing.Goals as goal

pub returns : goal.returns
returns g c = merged_stands
