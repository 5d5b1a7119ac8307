use Rattle.std.proofs.Common.{◌≡◌, ◌∷◌, ◌++◌, arith}
use Rattle.mg_block.specs.Item.{counted}
use Rattle.mg_block.proofs.Fields.{no_payload}
use Rattle.mg_block.proofs.item.split_item.Goals as goal

pub returns-in_err-payload-clause-none : goal.returns-in_err-payload-clause-none
returns-in_err-payload-clause-none c =
    let e : c.args.bytes.now ≡ c.in_ok-shared.shared.now ∷ counted c.in_ok-rest.rest.now ++ c.in_ok-rest.bytes.now = grind arith in
    rw c.from_residual-in_err-payload.ensures (no_payload c.args.bytes.now c.in_ok-shared.shared.now c.in_ok-rest.rest.now c.in_ok-rest.bytes.now e c.in_err-payload.ensures.none)
