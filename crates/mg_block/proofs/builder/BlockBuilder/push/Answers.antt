use Rattle.std.proofs.Common.{◌≡◌, ℕ, List, [], ◌∷◌, ◌++◌, take, drop, ap, sym, ◌∙◌, subst, arith}
use Rattle.mg_block.specs.declared.pair.Pair.{Pair}
use Rattle.mg_block.specs.Item.{spelled}
use Rattle.mg_block.specs.Builder.{Holds}
use Rattle.mg_block.specs.Block.{shared_len, item_of, Follows}
use Rattle.mg_block.specs.View.{pairs_of, last_pair}
use Rattle.mg_block.proofs.Spelling.{pair_from, key-joined}
use Rattle.mg_block.proofs.Views.{Holds-push, pairs_of-push}
use Rattle.mg_block.proofs.builder.BlockBuilder.push.Goals as goal

-- how many bytes are shared
shared-is : (c : goal.After-replace_end) → c.shared_len-shared.result ≡ shared_len c.self.inside.last_key c.args.key.now
shared-is c = c.shared_len-shared.ensures.shared ∙ ap (λ (k : List ℕ). shared_len k c.args.key.now) c.as_slice.ensures.value

bytes-is : (c : goal.After-replace_end) → c.append_item.new.bytes.items ≡ c.self.inside.bytes.items ++ item_of c.self.inside.last_key (pair_from c.args.key.now c.args.payload.now)
unfolding item_of
bytes-is c =
    let at_shared : ℕ → List ℕ = λ s. c.self.inside.bytes.items ++ spelled s (drop s c.args.key.now) c.args.payload.now in
    let written : c.append_item.new.bytes.items ≡ at_shared c.shared_len-shared.result = grind arith in
    written ∙ ap at_shared (shared-is c)

key-is : (c : goal.After-replace_end) → c.replace_end.new.self ≡ c.args.key.now
key-is c =
    let at_shared : ℕ → List ℕ = λ s. take s c.self.inside.last_key ++ drop s c.args.key.now in
    let written : c.replace_end.new.self ≡ at_shared c.shared_len-shared.result = grind arith in
    written ∙ ap at_shared (shared-is c) ∙ key-joined c.self.inside.last_key c.args.key.now

follows : (c : goal.After-replace_end) → Follows (last_pair (pairs_of c.self.inside.bytes.items)).key (pair_from c.args.key.now c.args.payload.now)
follows c = subst (λ (pairs : List Pair). Follows (last_pair pairs).key (pair_from c.args.key.now c.args.payload.now)) (sym c.self.view_is) c.requires

pub invariant_of-self-2 : goal.invariant_of-self-2
invariant_of-self-2 c =
    let pair = pair_from c.args.key.now c.args.payload.now in
    let h = Holds-push c.self.inside.bytes.items c.self.inside.last_key (pairs_of c.self.inside.bytes.items) pair c.self.invariant (follows c) in
    let k : Holds _ c.replace_end.new.self _ = subst (λ (k : List ℕ). Holds (c.self.inside.bytes.items ++ item_of c.self.inside.last_key pair) k (pairs_of (c.self.inside.bytes.items ++ item_of c.self.inside.last_key pair))) (sym (key-is c)) h in
    subst (λ (b : List ℕ). Holds b c.replace_end.new.self (pairs_of b)) (sym (bytes-is c)) k

pub returns-clause-ok : goal.returns-clause-ok
returns-clause-ok c =
    let pair = pair_from c.args.key.now c.args.payload.now in
    ap pairs_of (bytes-is c)
    ∙ pairs_of-push c.self.inside.bytes.items c.self.inside.last_key (pairs_of c.self.inside.bytes.items) pair c.self.invariant (follows c)
    ∙ ap (λ (pairs : List Pair). pairs ++ pair ∷ []) c.self.view_is
