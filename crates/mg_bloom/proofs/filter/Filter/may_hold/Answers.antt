use Rattle.std.proofs.Common.{ap, ◌∙◌}
use Rattle.mg_bloom.specs.Bloom.{may_hold, has_words}
use Rattle.mg_bloom.proofs.filter.Filter.may_hold.Goals as goal

pub returns : goal.returns
unfolding may_hold
returns c = c.may_hold_hashed.ensures ∙ ap (has_words c.args.self.now) c.new.ensures
