use Rattle.mg_model.proofs.CallerLemmas.{own_places_are_own, own_places_have_own_calls, own_places_rise}
use Rattle.mg_model.proofs.laws.own_places_have_own_calls.Goals as goal

pub returns-clause-calls : goal.returns-clause-calls
returns-clause-calls c = own_places_have_own_calls

pub returns-clause-callers : goal.returns-clause-callers
returns-clause-callers c = own_places_are_own

pub returns-clause-rise : goal.returns-clause-rise
returns-clause-rise c = own_places_rise
