use Rattle.mg_core.proofs.ResultLemmas.{fresh_is_newest, fresh_is_some}
use Rattle.mg_core.proofs.layouts.flush_has_the_newest_of_its_interval.Goals as goal

pub returns-clause-members : goal.returns-clause-members
returns-clause-members c = fresh_is_newest

pub returns-clause-some : goal.returns-clause-some
returns-clause-some c = fresh_is_some
