use Rattle.std.proofs.Common.{◌≡◌, ◌<◌, ◌∙◌, ℕ, List, [], ◌∷◌, length, inr, refl, sym, ap, subst, arith, IsTrue, Option, Some, None}
use Rattle.std.specs.Option.{IsSome, SomeIff}
use Rattle.std.specs.Cmp.Lexicographic.{slice_cmp}
use Rattle.std.specs.Ordering.{nat_cmp}
use Rattle.std.specs.declared.cmp.Ordering.TheVariants.{Less}
use Rattle.mg_types.specs.Bytes.{IsKey}
use Rattle.std.proofs.lemmas.Grind.{common_steps}
use Rattle.std.proofs.lemmas.List.{append-nil}
use Rattle.mg_frame.specs.BigEndian.{counted}
use Rattle.mg_indexed.specs.Index.{first_after}
use Rattle.mg_indexed.specs.TableKeys.{MayFollow}
use Rattle.mg_indexed.proofs.table_key.KeyBlockKey.read.Goals as goal

pub unwrap-requires : goal.unwrap-requires
unwrap-requires c =
    let given = c.requires in
    (c.split_short.ensures.written given.0 [] given.1 (given.2 ∙ sym (append-nil (counted 1 given.0)))).0

pub returns-then-not-may_follow : goal.returns-then-not-may_follow
returns-then-not-may_follow c =
    let given = c.requires in
    let written = rw c.unwrap.ensures at (c.split_short.ensures.written given.0 [] given.1 (given.2 ∙ sym (append-nil (counted 1 given.0)))).1 in
    let apart : MayFollow (first_after [] c.args.before.now) given.0 → ⊥ = λ follows.
    (let yes = c.may_follow.ensures.1 (subst (λ (k : List ℕ). MayFollow k c.unwrap.result.0.now) (sym c.last_key.ensures) (subst (λ (k : List ℕ). MayFollow (first_after [] c.args.before.now) k) (sym written.0) follows)) in
    absurd (grind (arith, common_steps, yes))) in
    inr (given.0, given.1, given.2, (apart, c.malformed.ensures))

-- no key is below the empty one
none_below : (key : List ℕ) → slice_cmp nat_cmp key [] ≡ Less → ⊥
none_below [] is = absurd cc
none_below (x ∷ key) is = absurd cc

is_key : (previous key : List ℕ) → MayFollow previous key → IsKey key
is_key previous [] follows = absurd (none_below previous follows.0)
is_key previous (x ∷ key) follows = (omega arith, follows.1)

some_key : (found : Option (List ℕ)) (key : List ℕ) → IsKey key → SomeIff found (IsKey key) key → found ≡ Some key
some_key None key is none = absurd (none is)
some_key (Some k) key is some = ap (λ (k : List ℕ). let o : Option (List ℕ) = Some k in o) some.1

pub unwrap-requires-2 : goal.unwrap-requires-2
unwrap-requires-2 c =
    let key = c.unwrap.result.0.now in
    let yes : IsTrue c.may_follow.result = grind (arith, common_steps) in
    let found = some_key c.in_ok-key.key key (is_key c.last_key.result.now key (c.may_follow.ensures.0 yes)) c.in_ok-key.ensures.ok in
    subst (λ (o : Option (List ℕ)). IsSome o) (sym found) refl

pub returns : goal.returns
returns c =
    let given = c.requires in
    let written = rw c.unwrap.ensures at (c.split_short.ensures.written given.0 [] given.1 (given.2 ∙ sym (append-nil (counted 1 given.0)))).1 in
    let key = c.unwrap.result.0.now in
    let yes : IsTrue c.may_follow.result = grind (arith, common_steps) in
    let follows = c.may_follow.ensures.0 yes in
    let found = some_key c.in_ok-key.key key (is_key c.last_key.result.now key follows) c.in_ok-key.ensures.ok in
    let got : Some c.unwrap-2.result ≡ Some key = grind (arith, common_steps, found, c.unwrap-2.ensures) in
    let is : c.unwrap-2.result ≡ given.0 = (let same : c.unwrap-2.result ≡ key = cc in same ∙ written.0) in
    let here = subst (λ (k : List ℕ). MayFollow k key) c.last_key.ensures follows in
    (subst (λ (k : List ℕ). length k < 256) (sym is) given.1, given.2 ∙ ap (counted 1) (sym is), subst (λ (k : List ℕ). MayFollow (first_after [] c.args.before.now) k) (written.0 ∙ sym is) here)
