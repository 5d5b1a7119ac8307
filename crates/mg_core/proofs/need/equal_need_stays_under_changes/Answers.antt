use Rattle.mg_core.proofs.NeedLemmas.{all_allowed, need_changes, same_allowed}
use Rattle.mg_core.proofs.need.equal_need_stays_under_changes.Goals as goal

pub returns-clause-allowed : goal.returns-clause-allowed
returns-clause-allowed c = same_allowed

pub returns-clause-all : goal.returns-clause-all
returns-clause-all c = all_allowed

pub returns-clause-state : goal.returns-clause-state
returns-clause-state c = need_changes
