use Rattle.mg_core.proofs.WrongLemmas.{wrong_deletes, wrong_merge, wrong_record}
use Rattle.mg_core.proofs.layouts.wrong_results_stand_for_no_list.Goals as goal

pub returns-clause-merge : goal.returns-clause-merge
returns-clause-merge c = wrong_merge

pub returns-clause-deletes : goal.returns-clause-deletes
returns-clause-deletes c = wrong_deletes

pub returns-clause-record : goal.returns-clause-record
returns-clause-record c = wrong_record
