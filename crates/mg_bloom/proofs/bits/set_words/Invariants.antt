use Rattle.std.proofs.Common.{take}
use Rattle.mg_bloom.specs.Bloom.{AddsWords}
use Rattle.mg_bloom.proofs.bits.set_words.Given as goal

abbrev pub invariant-loop-word : goal.invariant-loop-word
invariant-loop-word l = AddsWords l.fn.body l.body (take l.word-index l.words)
