use Rattle.mg_model.proofs.MarkLemmas.{greatest_takes, greatest_skips}
use Rattle.mg_model.proofs.marks.greatest_at_most.Goals as goal
use Rattle.mg_model.proofs.marks.greatest_at_most.Goals.{then-mark-place, else-mark-place}

pub loop-mark-preserved : goal.loop-mark-preserved
loop-mark-preserved c =
    elim c.if-mark-place.branch [
      | then-mark-place w ↦
          let step = greatest_takes c.args.marks.now c.loop-mark.mark-index c.args.place c.loop-mark-test.true w.if-mark-place.true in cc
      | else-mark-place w ↦
          let step = greatest_skips c.args.marks.now c.loop-mark.mark-index c.args.place c.loop-mark-test.true w.if-mark-place.false in cc
    ]
