use Rattle.mg_sealed.proofs.ListLaws.{one_list_of_frames}
use Rattle.mg_sealed.proofs.laws.one_list_of_frames.Goals as goal

pub returns : goal.returns
returns c = one_list_of_frames
