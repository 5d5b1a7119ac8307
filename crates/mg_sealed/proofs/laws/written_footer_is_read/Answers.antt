use Rattle.mg_sealed.proofs.FooterLaws.{written_footer_is_read}
use Rattle.mg_sealed.proofs.laws.written_footer_is_read.Goals as goal

pub returns : goal.returns
returns c = written_footer_is_read
