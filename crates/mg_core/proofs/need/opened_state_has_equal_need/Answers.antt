use Rattle.mg_core.proofs.OpeningLemmas.{opened_holds, opened_need}
use Rattle.mg_core.proofs.need.opened_state_has_equal_need.Goals as goal

pub returns-clause-need : goal.returns-clause-need
returns-clause-need c = opened_need

pub returns-clause-holds : goal.returns-clause-holds
returns-clause-holds c = opened_holds
