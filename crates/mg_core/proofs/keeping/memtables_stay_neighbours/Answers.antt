use Rattle.mg_core.proofs.KeepLemmas.{holds_back, holds_back_above, holds_flush, holds_flush_at_mark, holds_forget, holds_frozen, holds_mark, holds_new, holds_nothing, holds_other, holds_write}
use Rattle.mg_core.proofs.keeping.memtables_stay_neighbours.Goals as goal

pub returns-clause-at_first : goal.returns-clause-at_first
returns-clause-at_first c = holds_new

pub returns-clause-write : goal.returns-clause-write
returns-clause-write c = holds_write

pub returns-clause-freeze : goal.returns-clause-freeze
returns-clause-freeze c = holds_frozen

pub returns-clause-mark : goal.returns-clause-mark
returns-clause-mark c = holds_mark

pub returns-clause-forget : goal.returns-clause-forget
returns-clause-forget c = holds_forget

pub returns-clause-back : goal.returns-clause-back
returns-clause-back c = holds_back

pub returns-clause-back_above : goal.returns-clause-back_above
returns-clause-back_above c = holds_back_above

pub returns-clause-clear : goal.returns-clause-clear
returns-clause-clear c = holds_nothing

pub returns-clause-flush : goal.returns-clause-flush
returns-clause-flush c = holds_flush

pub returns-clause-flush_at_mark : goal.returns-clause-flush_at_mark
returns-clause-flush_at_mark c = holds_flush_at_mark

pub returns-clause-layouts : goal.returns-clause-layouts
returns-clause-layouts c = holds_other
