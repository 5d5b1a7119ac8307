use Rattle.mg_core.proofs.ReadLemmas.{entry_record, found_is_newest, read_is_read}
use Rattle.mg_core.proofs.layouts.reads_by_runs_are_those_of_the_list.Goals as goal

pub returns-clause-entry : goal.returns-clause-entry
returns-clause-entry c = found_is_newest

pub returns-clause-record : goal.returns-clause-record
returns-clause-record c = entry_record

pub returns-clause-document : goal.returns-clause-document
returns-clause-document c = read_is_read
