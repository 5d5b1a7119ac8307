use Rattle.mg_model.proofs.StateLemmas.{change_keeps, new_state_is_one, step_keeps}
use Rattle.mg_model.proofs.laws.states_stay_states.Goals as goal

pub returns-clause-new : goal.returns-clause-new
returns-clause-new c = new_state_is_one

pub returns-clause-step : goal.returns-clause-step
returns-clause-step c = step_keeps

pub returns-clause-change : goal.returns-clause-change
returns-clause-change c = change_keeps
