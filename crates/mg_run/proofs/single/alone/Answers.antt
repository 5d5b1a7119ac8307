use Rattle.mg_run.proofs.single.alone.Goals as goal

pub returns-in-Err-clause-run : goal.returns-in-Err-clause-run
returns-in-Err-clause-run g c = λ good. rw c.refused-in-Err.ensures c.in-Err.ensures.run
