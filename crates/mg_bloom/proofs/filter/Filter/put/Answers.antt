use Rattle.std.proofs.Common.{ap, ◌∙◌, sym}
use Rattle.mg_bloom.specs.Bloom.{may_hold, has_words, key_words}
use Rattle.mg_bloom.proofs.filter.Filter.put.Goals as goal

pub returns-clause-held : goal.returns-clause-held
unfolding may_hold
returns-clause-held c = sym (ap (has_words c.put_hashed.new.self) c.new.ensures) ∙ c.put_hashed.ensures.held

pub returns-clause-kept : goal.returns-clause-kept
unfolding may_hold
returns-clause-kept c = λ other held. c.put_hashed.ensures.kept (key_words other) held
