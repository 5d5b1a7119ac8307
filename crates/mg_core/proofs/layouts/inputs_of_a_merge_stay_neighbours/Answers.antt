use Rattle.std.proofs.Common.{length}
use Rattle.mg_core.proofs.MergeLemmas.{inputs_are_neighbours}
use Rattle.mg_core.proofs.layouts.inputs_of_a_merge_stay_neighbours.Goals as goal

pub returns : goal.returns
returns c = λ l m inputs hi lo s some t w. inputs_are_neighbours (length m) hi lo l.runs inputs s.intervals some t w
