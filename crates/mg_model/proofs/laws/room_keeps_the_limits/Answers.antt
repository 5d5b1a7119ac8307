use Rattle.mg_model.proofs.LimitLemmas.{new_in_limits, step_in_limits}
use Rattle.mg_model.proofs.laws.room_keeps_the_limits.Goals as goal

pub returns-clause-new : goal.returns-clause-new
returns-clause-new c = new_in_limits

pub returns-clause-step : goal.returns-clause-step
returns-clause-step c = step_in_limits
