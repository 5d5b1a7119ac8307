use Rattle.std.proofs.Common.{◌≡◌, ℕ, ◌<◌, List, [], ◌++◌, length, take, drop, ap, sym, ◌∙◌, subst, arith}
use Rattle.std.proofs.lemmas.List.{take_at, nil_from_length}
use Rattle.std.proofs.lemmas.Slice.{drop-put_mid}
use Rattle.mg_block.specs.declared.item.Item.{Item}
use Rattle.mg_block.specs.declared.pair.Pair.{Pair}
use Rattle.mg_block.specs.Block.{NextItem}
use Rattle.mg_block.specs.Item.{Extends}
use Rattle.mg_block.proofs.Spelling.{pair_from}
use Rattle.mg_block.proofs.Finding.{Searched-more, Searched-bound, NextItem-shorter, Finds-here, Misses-above, Misses-end, Breaks-here, payload_of-Finds, payload_of-Misses, Breaks-no_block}
use Rattle.mg_block.proofs.lookup.find.Goals as goal

-- the pair of an item behind a key
abbrev pair_at : List ℕ → Item → Pair
pair_at previous item = pair_from (take item.shared previous ++ item.rest.now) item.payload.now

pub returns-in_default-clause-answer : goal.returns-in_default-clause-answer
returns-in_default-clause-answer c =
    let rest = c.loop-rest.rest.now in
    let more : 0 < length rest = grind arith in
    let none = subst (λ (k : List ℕ). (pair : Pair) (after : List ℕ) → NextItem k rest pair after → ⊥) c.as_slice.ensures.value c.in_default.ensures.none in
    Breaks-here c.args.block.now c.args.key.now c.loop-rest.previous rest c.loop-rest.matched c.loop-rest.invariant.0 more none

pub returns-in_default-clause-in_block : goal.returns-in_default-clause-in_block
returns-in_default-clause-in_block c pairs b = absurd (Breaks-no_block c.args.block.now c.args.key.now _ pairs b (returns-in_default-clause-answer c))

pub compare-requires : goal.compare-requires
compare-requires c = Searched-bound _ _ _ _ _ c.loop-rest.invariant.0

pub returns-in-Here-clause-answer : goal.returns-in-Here-clause-answer
returns-in-Here-clause-answer c =
    let item = c.in-Some.item in
    let previous = c.loop-rest.previous in
    let rest = c.loop-rest.rest.now in
    let after = c.in-Some.after.now in
    let found : NextItem previous rest (pair_at previous item) after = subst (λ (k : List ℕ). NextItem k rest (pair_at k item) after) c.as_slice.ensures.value c.in-Some.ensures.found in
    let extends : Extends previous item.shared item.rest.now = subst (λ (k : List ℕ). Extends k item.shared item.rest.now) c.as_slice.ensures.value c.in-Some.ensures.extends in
    let here : take item.shared previous ++ item.rest.now ≡ c.args.key.now = c.in-Here.ensures previous extends c.loop-rest.invariant.0.matches in
    let copied : c.copy_from_slice.new.self ≡ item.payload.now = c.copy_from_slice.ensures.after in
    Finds-here c.args.block.now c.args.key.now previous rest c.loop-rest.matched c.loop-rest.invariant.0 (pair_at previous item) after _ found here (take_at _ _ _ (ap length copied) ∙ copied)

pub returns-in-Here-clause-in_block : goal.returns-in-Here-clause-in_block
returns-in-Here-clause-in_block c pairs b = sym (payload_of-Finds c.args.block.now c.args.key.now _ pairs b (returns-in-Here-clause-answer c))

pub returns-in-Here-clause-beyond : goal.returns-in-Here-clause-beyond
returns-in-Here-clause-beyond c =
    let len = length c.in-Some.item.payload.now in
    drop-put_mid 0 len c.loop-rest.out c.copy_from_slice.new.self len (omega arith) (omega arith) (ap length c.copy_from_slice.ensures.after) ∙ ap (λ (out : List ℕ). drop len out) c.loop-rest.invariant.1

pub returns-in-Above-clause-answer : goal.returns-in-Above-clause-answer
returns-in-Above-clause-answer c =
    let item = c.in-Some.item in
    let previous = c.loop-rest.previous in
    let rest = c.loop-rest.rest.now in
    let after = c.in-Some.after.now in
    let found : NextItem previous rest (pair_at previous item) after = subst (λ (k : List ℕ). NextItem k rest (pair_at k item) after) c.as_slice.ensures.value c.in-Some.ensures.found in
    let extends : Extends previous item.shared item.rest.now = subst (λ (k : List ℕ). Extends k item.shared item.rest.now) c.as_slice.ensures.value c.in-Some.ensures.extends in
    Misses-above c.args.block.now c.args.key.now previous rest c.loop-rest.matched c.loop-rest.invariant.0 (pair_at previous item) after found (c.in-Above.ensures previous extends c.loop-rest.invariant.0.matches)

pub returns-in-Above-clause-in_block : goal.returns-in-Above-clause-in_block
returns-in-Above-clause-in_block c pairs b = sym (payload_of-Misses c.args.block.now c.args.key.now pairs b (returns-in-Above-clause-answer c))

pub loop-rest-smaller : goal.loop-rest-smaller
loop-rest-smaller c = NextItem-shorter _ _ _ _ c.in-Some.ensures.found

pub loop-rest-preserved : goal.loop-rest-preserved
loop-rest-preserved c =
    let item = c.in-Some.item in
    let previous = c.loop-rest.previous in
    let rest = c.loop-rest.rest.now in
    let after = c.in-Some.after.now in
    let found : NextItem previous rest (pair_at previous item) after = subst (λ (k : List ℕ). NextItem k rest (pair_at k item) after) c.as_slice.ensures.value c.in-Some.ensures.found in
    let extends : Extends previous item.shared item.rest.now = subst (λ (k : List ℕ). Extends k item.shared item.rest.now) c.as_slice.ensures.value c.in-Some.ensures.extends in
    let key-is : c.replace_end.new.self ≡ take item.shared previous ++ item.rest.now = grind arith in (
      Searched-more c.args.block.now c.args.key.now previous rest c.loop-rest.matched c.loop-rest.invariant.0 (pair_at previous item) after c.replace_end.new.self c.in-Below.longer found key-is
          (c.in-Below.ensures previous extends c.loop-rest.invariant.0.matches),
      c.loop-rest.invariant.1,
    )

pub returns-clause-answer : goal.returns-clause-answer
returns-clause-answer c =
    let end : c.loop-rest.rest.now ≡ [] = nil_from_length _ (grind arith) in
    Misses-end c.args.block.now c.args.key.now c.loop-rest.previous c.loop-rest.rest.now c.loop-rest.matched c.loop-rest.invariant.0 end

pub returns-clause-in_block : goal.returns-clause-in_block
returns-clause-in_block c pairs b = sym (payload_of-Misses c.args.block.now c.args.key.now pairs b (returns-clause-answer c))
