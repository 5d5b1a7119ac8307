use Rattle.mg_model.proofs.StateLemmas.{change_allowed, change_made}
use Rattle.mg_model.proofs.laws.calls_make_the_allowed_changes.Goals as goal

pub returns-clause-allowed : goal.returns-clause-allowed
returns-clause-allowed c = change_allowed

pub returns-clause-made : goal.returns-clause-made
returns-clause-made c = change_made
