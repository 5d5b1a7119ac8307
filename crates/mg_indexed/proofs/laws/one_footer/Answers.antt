use Rattle.mg_indexed.proofs.FieldLaws.{one_footer}
use Rattle.mg_indexed.proofs.laws.one_footer.Goals as goal

pub returns : goal.returns
returns c = one_footer
