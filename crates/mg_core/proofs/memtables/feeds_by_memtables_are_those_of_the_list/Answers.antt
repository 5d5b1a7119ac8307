use Rattle.mg_core.proofs.MemtableLemmas.{memtable_over, memtables_joined, memtables_live, snapshot_feed, snapshot_live}
use Rattle.mg_core.proofs.memtables.feeds_by_memtables_are_those_of_the_list.Goals as goal

pub returns-clause-live : goal.returns-clause-live
returns-clause-live c = memtable_over

pub returns-clause-joined : goal.returns-clause-joined
returns-clause-joined c = memtables_joined

pub returns-clause-records : goal.returns-clause-records
returns-clause-records c = snapshot_live

pub returns-clause-feed : goal.returns-clause-feed
returns-clause-feed c = snapshot_feed

pub returns-clause-several : goal.returns-clause-several
returns-clause-several c = memtables_live
