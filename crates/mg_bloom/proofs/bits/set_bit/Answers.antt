use Rattle.mg_bloom.proofs.BloomLaws.{has_bit_set}
use Rattle.mg_bloom.proofs.bits.set_bit.Goals as goal

pub returns-clause-bits : goal.returns-clause-bits
returns-clause-bits c = λ p. has_bit_set c.args.body.now c.args.place p c.requires
