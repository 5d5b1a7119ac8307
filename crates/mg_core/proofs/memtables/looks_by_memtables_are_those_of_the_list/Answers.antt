use Rattle.mg_core.proofs.MemtableLemmas.{memtable_look, memtables_look, snapshot_look}
use Rattle.mg_core.proofs.memtables.looks_by_memtables_are_those_of_the_list.Goals as goal

pub returns-clause-item : goal.returns-clause-item
returns-clause-item c = memtable_look

pub returns-clause-entry : goal.returns-clause-entry
returns-clause-entry c = snapshot_look

pub returns-clause-several : goal.returns-clause-several
returns-clause-several c = memtables_look
