use Rattle.mg_layout.proofs.MadeLaws.{flushed_stands}
use Rattle.mg_layout.proofs.laws.flush_made_keeps_standing.Goals as goal

pub returns : goal.returns
returns g c = flushed_stands
