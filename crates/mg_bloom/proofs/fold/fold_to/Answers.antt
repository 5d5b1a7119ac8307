use Rattle.std.proofs.Common.{◌≡◌, ◌<◌, ◌/◌, length, arith, subst}
use Rattle.std.proofs.lemmas.Grind.{common_steps}
use Rattle.mg_bloom.specs.Bloom.{IsBodyLength}
use Rattle.mg_bloom.proofs.FoldLaws.{halved}
use Rattle.mg_bloom.proofs.fold.fold_to.Goals as goal

pub loop-body-preserved : goal.loop-body-preserved
loop-body-preserved c =
    let n = length c.loop-body.body.items in
    let less : c.args.bytes < n = grind (arith, common_steps) in
    let half = halved n c.args.bytes c.loop-body.invariant.sized c.requires.bytes less in
    let len : n / 2 ≡ length c.halve.new.body.items = omega (arith, c.halve.ensures.half) in
    record {
      sized = subst IsBodyLength len half.1;
      fits = omega (arith, len, half.2);
      words = λ words old. c.halve.ensures.words words (c.loop-body.invariant.words words old);
    }
