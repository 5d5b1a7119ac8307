use Rattle.mg_core.proofs.KeepLemmas.{keeps_back, keeps_back_above, keeps_clear, keeps_forget, keeps_mark, keeps_new, keeps_write}
use Rattle.mg_core.proofs.keeping.changes_keep_layouts.Goals as goal

pub returns-clause-at_first : goal.returns-clause-at_first
returns-clause-at_first c = keeps_new

pub returns-clause-write : goal.returns-clause-write
returns-clause-write c = keeps_write

pub returns-clause-mark : goal.returns-clause-mark
returns-clause-mark c = keeps_mark

pub returns-clause-forget : goal.returns-clause-forget
returns-clause-forget c = keeps_forget

pub returns-clause-back : goal.returns-clause-back
returns-clause-back c = keeps_back

pub returns-clause-back_above : goal.returns-clause-back_above
returns-clause-back_above c = keeps_back_above

pub returns-clause-clear : goal.returns-clause-clear
returns-clause-clear c = keeps_clear
