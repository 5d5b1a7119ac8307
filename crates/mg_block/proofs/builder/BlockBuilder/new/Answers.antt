use Rattle.std.proofs.Common.{ap, ◌∙◌}
use Rattle.mg_block.specs.View.{pairs_of}
use Rattle.mg_block.proofs.Views.{Holds-none, pairs_of-none}
use Rattle.mg_block.proofs.builder.BlockBuilder.new.Goals as goal

pub invariant_of-result : goal.invariant_of-result
invariant_of-result c = Holds-none _ _ c.new.ensures.items c.new-2.ensures

pub returns : goal.returns
returns c = ap pairs_of c.new.ensures.items ∙ pairs_of-none
