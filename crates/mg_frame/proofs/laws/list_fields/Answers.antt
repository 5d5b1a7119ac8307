use Rattle.mg_frame.proofs.BigEndianLaws.{front_list-counted, front_list_spelled}
use Rattle.mg_frame.proofs.laws.list_fields.Goals as goal

pub returns : goal.returns
returns c = record { written = front_list-counted; read = front_list_spelled }
