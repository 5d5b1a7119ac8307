use Rattle.std.proofs.Common.{ap, ◌∙◌, w32}
use Rattle.std.proofs.lemmas.List.{take_rest}
use Rattle.std.specs.Int.{from_be_bytes}
use Rattle.mg_bloom.specs.Bloom.{digest_word}
use Rattle.mg_bloom.proofs.hashed.digest_word.Goals as goal

pub returns : goal.returns
unfolding digest_word
returns c =
    let chunk = rw (c.unwrap.ensures, take_rest) at c.first_chunk.ensures.cases in
    c.from_be_bytes.ensures ∙ ap (from_be_bytes w32) chunk.same
