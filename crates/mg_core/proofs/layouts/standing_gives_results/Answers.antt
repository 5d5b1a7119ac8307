use Rattle.mg_core.proofs.SortLemmas.{deletes_may_be_chosen, fresh_may_flush, inputs_may_merge, inputs_rise}
use Rattle.mg_core.proofs.layouts.standing_gives_results.Goals as goal

pub returns-clause-flush : goal.returns-clause-flush
returns-clause-flush c = fresh_may_flush

pub returns-clause-merge : goal.returns-clause-merge
returns-clause-merge c = inputs_may_merge

pub returns-clause-clean : goal.returns-clause-clean
returns-clause-clean c = deletes_may_be_chosen

pub returns-clause-records : goal.returns-clause-records
returns-clause-records c = inputs_rise
