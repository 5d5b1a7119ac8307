use Rattle.mg_model.proofs.CutLemmas.{cut_leaves_fronts, later_has_earlier}
use Rattle.mg_model.proofs.laws.one_cut_leaves_fronts.Goals as goal

pub returns-clause-fronts : goal.returns-clause-fronts
returns-clause-fronts c = cut_leaves_fronts

pub returns-clause-later : goal.returns-clause-later
returns-clause-later c = later_has_earlier
