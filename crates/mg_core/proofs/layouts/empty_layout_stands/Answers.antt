use Rattle.mg_core.proofs.ResultLemmas.{empty_stands}
use Rattle.mg_core.proofs.layouts.empty_layout_stands.Goals as goal

pub returns : goal.returns
returns c = empty_stands
