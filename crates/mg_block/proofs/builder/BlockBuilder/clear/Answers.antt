use Rattle.std.proofs.Common.{ap, ◌∙◌}
use Rattle.mg_block.specs.View.{pairs_of}
use Rattle.mg_block.proofs.Views.{Holds-none, pairs_of-none}
use Rattle.mg_block.proofs.builder.BlockBuilder.clear.Goals as goal

pub invariant_of-self : goal.invariant_of-self
invariant_of-self c = Holds-none _ _ c.clear.ensures.items c.new-self-inside.ensures

pub returns : goal.returns
returns c = ap pairs_of c.clear.ensures.items ∙ pairs_of-none
