use Rattle.std.proofs.Common.{arith}
use Rattle.mg_model.proofs.ListLemmas.{newest_more}
use Rattle.mg_model.proofs.scan.newest_place.Goals as goal

pub loop-index-preserved : goal.loop-index-preserved
loop-index-preserved c =
    let more = newest_more c.args.mutations.now c.loop-index.index c.index-mutations-index.result c.args.key.now c.loop-index-test.true c.index-mutations-index.is in
    grind (arith, more)
