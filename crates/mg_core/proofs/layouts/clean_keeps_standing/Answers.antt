use Rattle.mg_core.proofs.CleanLemmas.{clean_stands}
use Rattle.mg_core.proofs.layouts.clean_keeps_standing.Goals as goal

pub returns : goal.returns
returns c = clean_stands
