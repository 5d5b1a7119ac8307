use Rattle.mg_core.proofs.by_hand.three_writes_by_hand.Goals as goal

pub returns-clause-clean : goal.returns-clause-clean
returns-clause-clean c = λ segment rest f. f.kept
