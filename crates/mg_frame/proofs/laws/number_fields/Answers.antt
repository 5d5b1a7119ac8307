use Rattle.mg_frame.proofs.BigEndianLaws.{front_number-big_endian, front_number_spelled}
use Rattle.mg_frame.proofs.laws.number_fields.Goals as goal

pub returns : goal.returns
returns c = record { written = front_number-big_endian; read = front_number_spelled }
