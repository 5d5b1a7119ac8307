use Rattle.std.proofs.Common.{◌∙◌}
use Rattle.mg_frame.proofs.BigEndianLaws.{front_read, value_of_8}
use Rattle.mg_frame.proofs.fields.front_u64.Goals as goal

pub returns : goal.returns
returns c = front_read 8 c.args.bytes.now _ _ (rw c.unwrap.ensures at c.first_chunk.ensures.cases) (λ len. c.from_be_bytes.ensures ∙ value_of_8 _ len)
