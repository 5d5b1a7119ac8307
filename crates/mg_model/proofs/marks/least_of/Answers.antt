use Rattle.mg_model.proofs.MarkLemmas.{least_takes}
use Rattle.mg_model.proofs.marks.least_of.Goals as goal

pub loop-mark-preserved : goal.loop-mark-preserved
loop-mark-preserved c = let step = least_takes c.args.marks.now c.loop-mark.mark-index c.loop-mark-test.true in cc
