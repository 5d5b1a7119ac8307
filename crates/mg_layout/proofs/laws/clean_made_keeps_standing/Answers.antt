use Rattle.mg_layout.proofs.MadeLaws.{cleaned_stands}
use Rattle.mg_layout.proofs.laws.clean_made_keeps_standing.Goals as goal

pub returns : goal.returns
returns g c = cleaned_stands
