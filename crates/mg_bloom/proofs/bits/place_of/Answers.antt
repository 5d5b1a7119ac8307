use Rattle.mg_bloom.proofs.BloomLaws.{power_from_test, mask_place}
use Rattle.mg_bloom.proofs.bits.place_of.Goals as goal

pub returns-clause-place : goal.returns-clause-place
returns-clause-place c = mask_place c.args.word c.args.body.now (power_from_test _ c.requires.at_most c.requires.power)
