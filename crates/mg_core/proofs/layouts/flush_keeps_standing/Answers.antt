use Rattle.mg_core.proofs.FlushLemmas.{flush_stands}
use Rattle.mg_core.proofs.layouts.flush_keeps_standing.Goals as goal

pub returns : goal.returns
returns c = flush_stands
