use Rattle.std.proofs.Common.{◌≡◌, ℕ, List, [], ◌∷◌, ◌++◌, ◌+◌, ◌-◌, length, ap, sym, ◌∙◌, arith}
use Rattle.mg_block.specs.declared.pair.Pair.{Pair}
use Rattle.mg_block.specs.Block.{shared_len, block_of}
use Rattle.mg_block.specs.View.{pairs_of}
use Rattle.mg_block.proofs.Spelling.{pair_from}
use Rattle.mg_block.proofs.Views.{length-push, length-item_of-pair}
use Rattle.mg_block.proofs.builder.BlockBuilder.size_with.Goals as goal

pub returns : goal.returns
returns c =
    let pair = pair_from c.args.key.now c.args.payload.now in
    let bytes = c.self.inside.bytes.items in
    let key = c.self.inside.last_key in
    let shared : c.shared_len-shared.result ≡ shared_len key c.args.key.now = c.shared_len-shared.ensures.shared ∙ ap (λ (k : List ℕ). shared_len k c.args.key.now) c.as_slice.ensures.value in
    let size : length (block_of (pairs_of bytes ++ pair ∷ [])) ≡ c.len.result + 3 + (length c.args.key.now - c.shared_len-shared.result) + length c.args.payload.now =
    omega (arith, shared, length-push bytes key (pairs_of bytes) pair c.self.invariant, length-item_of-pair key pair) in
    sym size ∙ ap (λ (pairs : List Pair). length (block_of (pairs ++ pair ∷ []))) c.self.view_is
