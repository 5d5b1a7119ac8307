use Rattle.mg_core.proofs.MergeLemmas.{merge_stands}
use Rattle.mg_core.proofs.layouts.merge_keeps_standing.Goals as goal

pub returns : goal.returns
returns c = merge_stands
