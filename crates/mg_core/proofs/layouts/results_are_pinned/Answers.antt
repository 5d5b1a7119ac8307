use Rattle.mg_core.proofs.ResultLemmas.{one_clean, one_flush, one_merge}
use Rattle.mg_core.proofs.layouts.results_are_pinned.Goals as goal

pub returns-clause-flush : goal.returns-clause-flush
returns-clause-flush c = one_flush

pub returns-clause-merge : goal.returns-clause-merge
returns-clause-merge c = one_merge

pub returns-clause-clean : goal.returns-clause-clean
returns-clause-clean c = one_clean
