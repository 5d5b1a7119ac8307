use Rattle.mg_frame.proofs.FramesLaws.{NoneOfAny, OneNumberedReading}
use Rattle.mg_frame.proofs.laws.numbered_logs.Goals as goal

pub returns : goal.returns
returns c = record { none = NoneOfAny; one = OneNumberedReading }
