use Rattle.mg_frame.proofs.FramesLaws.{FrontChance, MoreChance}
use Rattle.mg_frame.proofs.laws.chance_in_a_front.Goals as goal

pub returns-clause-front : goal.returns-clause-front
returns-clause-front c = FrontChance

pub returns-clause-more : goal.returns-clause-more
returns-clause-more c = MoreChance
