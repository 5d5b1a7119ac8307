use Rattle.std.proofs.Common.{◌≡◌, List, [], ◌↔◌, subst, arith}
use Rattle.std.specs.Prelude.{IsTrue}
use Rattle.mg_block.specs.declared.pair.Pair.{Pair}
use Rattle.mg_block.proofs.Views.{is_empty_by_bytes}
use Rattle.mg_block.proofs.builder.BlockBuilder.is_empty.Goals as goal

pub returns : goal.returns
returns c =
    subst (λ (pairs : List Pair). IsTrue c.is_empty.result ↔ (pairs ≡ [])) c.self.view_is (is_empty_by_bytes c.self.inside.bytes.items c.self.inside.last_key c.is_empty.result c.self.invariant (grind arith))
