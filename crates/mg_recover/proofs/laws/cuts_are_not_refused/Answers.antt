use Rattle.mg_recover.proofs.OneCut.{opened_not_refused, opened_once}
use Rattle.mg_recover.proofs.laws.cuts_are_not_refused.Goals as goal

pub returns : goal.returns
returns c = record { refused = opened_not_refused; one = opened_once }
