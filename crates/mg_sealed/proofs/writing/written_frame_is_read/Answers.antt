use Rattle.mg_sealed.proofs.WrittenLaws.{written_frame_is_read}
use Rattle.mg_sealed.proofs.writing.written_frame_is_read.Goals as goal

pub returns : goal.returns
returns c = written_frame_is_read
