use Rattle.std.proofs.Common.{◌≡◌, [], ◌∷◌, ◌++◌, length, ap, ◌∙◌, arith}
use Rattle.std.proofs.lemmas.List.{length_push}
use Rattle.std.proofs.lemmas.Bool.{MatchBool-at_true, MatchBool-at_false}
use Rattle.mg_block.specs.declared.pair.Pair.{Pair}
use Rattle.mg_block.specs.Block.{IsBlock}
use Rattle.mg_block.specs.Cursor.{Advances}
use Rattle.mg_block.proofs.Spelling.{pair_from}
use Rattle.mg_block.proofs.Listing.{Listed, Listed-more, Listed-bound, Listed-all, Listed-no_block}
use Rattle.mg_block.proofs.whole.items.Goals as goal

pub returns-in_err-advance-clause-only : goal.returns-in_err-advance-clause-only
returns-in_err-advance-clause-only c pairs b =
    absurd (Listed-no_block c.args.block.now c.loop-pairs.cursor c.loop-pairs.pairs.items pairs _ c.loop-pairs.invariant c.in_err-advance.ensures.err.0 b)

-- the pair that was listed
abbrev pair_listed : goal.In_ok-push → Pair
pair_listed c = pair_from c.in_ok-key.key c.in_ok-payload.payload

longer : (c : goal.In_ok-push) → c.push.new.self.items ≡ c.loop-pairs.pairs.items ++ pair_listed c ∷ []
longer c = grind arith

listed : (c : goal.In_ok-push) → Listed c.args.block.now c.advance.new.self c.push.new.self.items
listed c =
    let old = c.loop-pairs.cursor in
    let new = c.advance.new.self in
    let advances : Advances old new = MatchBool-at_true (Advances old new) _ c.if-branch.true c.in_ok-advance.ensures.ok in
    Listed-more c.args.block.now old new c.loop-pairs.pairs.items c.push.new.self.items (pair_listed c) c.loop-pairs.invariant advances (c.in_ok-key.ensures ∙ c.key.ensures) (c.in_ok-payload.ensures ∙ c.payload.ensures) (longer c)

pub loop-pairs-smaller : goal.loop-pairs-smaller
loop-pairs-smaller c =
    omega (arith, Listed-bound c.args.block.now c.advance.new.self c.push.new.self.items (listed c), ap length (longer c), length_push c.loop-pairs.pairs.items (pair_listed c))

pub loop-pairs-preserved : goal.loop-pairs-preserved
loop-pairs-preserved c = listed c

pub returns-clause-only : goal.returns-clause-only
returns-clause-only c pairs b =
    let cursor = c.loop-pairs.cursor in
    let whole = MatchBool-at_false _ (IsBlock cursor.bytes cursor.read × (c.advance.new.self ≡ cursor)) c.if-branch.false c.in_ok-advance.ensures.ok in
    Listed-all c.args.block.now cursor c.loop-pairs.pairs.items pairs c.loop-pairs.invariant whole.0 b
