use Rattle.mg_serve.proofs.Told.{is_told}
use Rattle.mg_serve.proofs.laws.answers_are_told_in_order.Goals as goal

pub returns : goal.returns
returns c = is_told
