use Rattle.std.proofs.Common.{◌≡◌, List, get_or, sym, ◌∙◌, subst, arith}
use Rattle.mg_block.specs.declared.pair.Pair.{Pair}
use Rattle.mg_block.specs.Block.{Follows}
use Rattle.mg_block.specs.View.{last_pair}
use Rattle.mg_block.proofs.Spelling.{pair_from, pair_is}
use Rattle.mg_block.proofs.Listing.{Follows-at}
use Rattle.mg_block.proofs.whole.build.Goals as goal

pub push-requires : goal.push-requires
push-requires c =
    let i = c.loop-pair.pair-index in
    let item = c.pair-item.result in
    let at = Follows-at c.args.pairs.now i item c.requires (grind arith) in
    let same : get_or c.args.pairs.now i item ≡ pair_from c.as_slice.result.now c.as_slice-in-loop-pair.result.now = sym c.pair-item.is ∙ pair_is _ _ _ _ (sym c.as_slice.ensures) (sym c.as_slice-in-loop-pair.ensures) in
    subst (λ (p : Pair). Follows (last_pair c.loop-pair.builder).key p) same
    (subst (λ (ps : List Pair). Follows (last_pair ps).key (get_or c.args.pairs.now i item)) (sym c.loop-pair.invariant) at)
