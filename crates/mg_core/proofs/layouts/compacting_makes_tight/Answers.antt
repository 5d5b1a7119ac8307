use Rattle.mg_core.proofs.TightLemmas.{cleaned_tight, compacted_tight}
use Rattle.mg_core.proofs.layouts.compacting_makes_tight.Goals as goal

pub returns-clause-merged : goal.returns-clause-merged
returns-clause-merged c = compacted_tight

pub returns-clause-cleaned : goal.returns-clause-cleaned
returns-clause-cleaned c = cleaned_tight
