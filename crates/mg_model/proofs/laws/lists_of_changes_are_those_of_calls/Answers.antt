use Rattle.mg_model.proofs.AllowedLemmas.{calls_allowed, changes_keep, changes_made}
use Rattle.mg_model.proofs.laws.lists_of_changes_are_those_of_calls.Goals as goal

pub returns-clause-allowed : goal.returns-clause-allowed
returns-clause-allowed c = calls_allowed

pub returns-clause-state : goal.returns-clause-state
returns-clause-state c = changes_keep

pub returns-clause-made : goal.returns-clause-made
returns-clause-made c = changes_made
