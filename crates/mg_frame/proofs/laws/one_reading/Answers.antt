use Rattle.mg_frame.proofs.FramesLaws.{OneReading}
use Rattle.mg_frame.proofs.laws.one_reading.Goals as goal

pub returns : goal.returns
returns c = OneReading
