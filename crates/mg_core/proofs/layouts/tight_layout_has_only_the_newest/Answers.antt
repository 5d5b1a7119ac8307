use Rattle.mg_core.proofs.ReadLemmas.{tight_records}
use Rattle.mg_core.proofs.TightLemmas.{tight_count, tight_entries, tight_sizes}
use Rattle.mg_core.proofs.layouts.tight_layout_has_only_the_newest.Goals as goal

pub returns-clause-records : goal.returns-clause-records
returns-clause-records c = tight_records

pub returns-clause-entries : goal.returns-clause-entries
returns-clause-entries c = tight_entries

pub returns-clause-count : goal.returns-clause-count
returns-clause-count c = tight_count

pub returns-clause-sizes : goal.returns-clause-sizes
returns-clause-sizes c = tight_sizes
