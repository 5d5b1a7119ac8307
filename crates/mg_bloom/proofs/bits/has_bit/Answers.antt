use Rattle.mg_bloom.proofs.BloomLaws.{has_bit_read}
use Rattle.mg_bloom.proofs.bits.has_bit.Goals as goal

pub returns : goal.returns
returns c = has_bit_read c.args.body.now c.args.place
