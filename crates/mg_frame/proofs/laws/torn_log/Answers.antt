use Rattle.mg_frame.proofs.FramesLaws.{TornLog}
use Rattle.mg_frame.proofs.laws.torn_log.Goals as goal

pub returns : goal.returns
returns c = TornLog
