use Rattle.mg_core.proofs.SortLemmas.{clean_there, flush_there, merge_there}
use Rattle.mg_core.proofs.layouts.results_are_there.Goals as goal

pub returns-clause-flush : goal.returns-clause-flush
returns-clause-flush c = flush_there

pub returns-clause-merge : goal.returns-clause-merge
returns-clause-merge c = merge_there

pub returns-clause-clean : goal.returns-clause-clean
returns-clause-clean c = clean_there
