use Rattle.mg_wal_format.proofs.SpellingLaws.{one_head, one_record}
use Rattle.mg_wal_format.proofs.laws.one_spelling.Goals as goal

pub returns-clause-head : goal.returns-clause-head
returns-clause-head c = one_head

pub returns-clause-record : goal.returns-clause-record
returns-clause-record c = one_record
