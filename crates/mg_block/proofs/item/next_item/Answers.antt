use Rattle.std.proofs.Common.{refl}
use Rattle.std.proofs.lemmas.Bool.{iff_false}
use Rattle.mg_block.specs.Block.{item_of}
use Rattle.mg_block.proofs.Fields.{NextItem-from_spelled, Extends-from_NextItem}
use Rattle.mg_block.proofs.item.next_item.Goals as goal

pub returns-in_err-item-clause-none : goal.returns-in_err-item-clause-none
unfolding item_of
returns-in_err-item-clause-none c = rw c.from_residual.ensures (λ pair rest next. c.in_err-item.ensures.none _ _ _ _ next.spelling)

pub returns-then-extends-clause-found : goal.returns-then-extends-clause-found
returns-then-extends-clause-found c =
    let item = c.in_ok-item.item in
    NextItem-from_spelled c.args.previous.now c.args.bytes.now item.shared item.rest.now item.payload.now c.in_ok-item.rest.now (c.if-extends.ensures.0 refl) c.in_ok-item.ensures.payload c.in_ok-item.ensures.found

pub returns-else-extends-clause-none : goal.returns-else-extends-clause-none
returns-else-extends-clause-none c pair rest next =
    let item = c.in_ok-item.item in
    iff_false c.extends.ensures c.if-extends.false (Extends-from_NextItem c.args.previous.now c.args.bytes.now item.shared item.rest.now item.payload.now c.in_ok-item.rest.now pair rest c.in_ok-item.ensures.found next)
