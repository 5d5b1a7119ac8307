use Rattle.mg_core.proofs.ResultLemmas.{deletes_told, entries_told, records_are_as_many, records_told}
use Rattle.mg_core.proofs.layouts.nothing_goes_alone.Goals as goal

pub returns-clause-lengths : goal.returns-clause-lengths
returns-clause-lengths c = records_are_as_many

pub returns-clause-records : goal.returns-clause-records
returns-clause-records c = records_told

pub returns-clause-deletes : goal.returns-clause-deletes
returns-clause-deletes c = deletes_told

pub returns-clause-entries : goal.returns-clause-entries
returns-clause-entries c = entries_told
