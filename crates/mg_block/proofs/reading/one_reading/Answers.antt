use Rattle.mg_block.proofs.Spelling.{one_list, BreaksAt-not_block}
use Rattle.mg_block.proofs.Readings.{BreaksAt-pairs, BreaksAt-place}
use Rattle.mg_block.proofs.reading.one_reading.Goals as goal

pub returns-clause-list : goal.returns-clause-list
returns-clause-list c = one_list

pub returns-clause-place : goal.returns-clause-place
returns-clause-place c bytes pairs others at place a b = (BreaksAt-pairs bytes pairs others at place a b, BreaksAt-place bytes pairs others at place a b)

pub returns-clause-either : goal.returns-clause-either
returns-clause-either c bytes pairs others at a b = BreaksAt-not_block bytes others at pairs b a
