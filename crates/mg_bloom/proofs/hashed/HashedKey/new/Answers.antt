use Rattle.mg_bloom.specs.Bloom.{key_words}
use Rattle.mg_bloom.proofs.hashed.HashedKey.new.Goals as goal

pub returns : goal.returns
unfolding key_words
returns c = cc
