use Rattle.std.proofs.Common.{◌/◌}
use Rattle.mg_bloom.proofs.BloomLaws.{sized_body, may_hold-of_empty}
use Rattle.mg_bloom.proofs.filter.Filter.sized.Goals as goal

pub invariant_of-result : goal.invariant_of-result
invariant_of-result c = (sized_body c.args.keys c.bits_for.result c.in_ok-body.body.items c.bits_for.ensures (c.in_ok-body.ensures.items_if_clones_equal (λ y same. same))).0

pub returns-clause-size : goal.returns-clause-size
returns-clause-size c = (sized_body c.args.keys c.bits_for.result c.in_ok-body.body.items c.bits_for.ensures (c.in_ok-body.ensures.items_if_clones_equal (λ y same. same))).1

pub returns-clause-denies : goal.returns-clause-denies
returns-clause-denies c = λ key. may_hold-of_empty (c.bits_for.result / 8) c.in_ok-body.body.items key (c.in_ok-body.ensures.items_if_clones_equal (λ y same. same))
