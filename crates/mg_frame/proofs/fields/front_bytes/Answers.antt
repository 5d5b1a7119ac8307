use Rattle.mg_frame.proofs.BigEndianLaws.{bytes_read}
use Rattle.mg_frame.proofs.fields.front_bytes.Goals as goal

pub returns : goal.returns
returns c = bytes_read c.args.bytes.now c.args.count c.get.result c.get.ensures.lookup
