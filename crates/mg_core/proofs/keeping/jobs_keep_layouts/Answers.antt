use Rattle.mg_core.proofs.KeepLemmas.{keeps_clean, keeps_flush, keeps_flush_at_mark, keeps_merge}
use Rattle.mg_core.proofs.keeping.jobs_keep_layouts.Goals as goal

pub returns-clause-flush : goal.returns-clause-flush
returns-clause-flush c = keeps_flush

pub returns-clause-flush_at_mark : goal.returns-clause-flush_at_mark
returns-clause-flush_at_mark c = keeps_flush_at_mark

pub returns-clause-merge : goal.returns-clause-merge
returns-clause-merge c = keeps_merge

pub returns-clause-clean : goal.returns-clause-clean
returns-clause-clean c = keeps_clean
