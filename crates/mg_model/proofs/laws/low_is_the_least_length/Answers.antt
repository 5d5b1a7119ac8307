use Rattle.mg_model.proofs.CallerLemmas.{low_is_least, low_is_low}
use Rattle.mg_model.proofs.laws.low_is_the_least_length.Goals as goal

pub returns-clause-below : goal.returns-clause-below
returns-clause-below c = low_is_low

pub returns-clause-greatest : goal.returns-clause-greatest
returns-clause-greatest c = low_is_least
