use Rattle.mg_model.proofs.FitsLemmas.{fits_stays}
use Rattle.mg_model.proofs.laws.answers_go_on_fitting.Goals as goal

pub returns : goal.returns
returns c = fits_stays
