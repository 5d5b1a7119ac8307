use Rattle.mg_core.proofs.MemtableLemmas.{empty_memtable, memtable_write, same_front}
use Rattle.mg_core.proofs.memtables.memtables_take_writes.Goals as goal

pub returns-clause-front : goal.returns-clause-front
returns-clause-front c = same_front

pub returns-clause-empty : goal.returns-clause-empty
returns-clause-empty c = empty_memtable

pub returns-clause-write : goal.returns-clause-write
returns-clause-write c = memtable_write
