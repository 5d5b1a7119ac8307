use Rattle.std.proofs.Common.{◌≡◌, ℕ, ◌-◌, ◌<◌, List, [], ◌++◌, length, take, Ok, Err, true, false, sym, refl, ◌∙◌, subst, arith}
use Rattle.std.proofs.lemmas.Bool.{eqb-true}
use Rattle.std.proofs.lemmas.List.{nil_from_length}
use Rattle.mg_block.specs.declared.pair.Pair.{Pair}
use Rattle.mg_block.specs.Block.{IsBlock, BreaksAt, NextItem}
use Rattle.mg_block.specs.Cursor.{Reading, StandsBehind, read_of, Advances, GoesOn}
use Rattle.mg_block.proofs.Spelling.{pair_from}
use Rattle.mg_block.proofs.Views.{reading, GoesOn-at_end, GoesOn-at_break, GoesOn-next, BreaksAt-from_none, StandsBehind-next, Advances-next}
use Rattle.mg_block.proofs.cursor.BlockCursor.advance.Goals as goal

pub returns-then-is_empty-clause-left : goal.returns-then-is_empty-clause-left
returns-then-is_empty-clause-left c =
    let end : c.self.inside.rest.now ≡ [] = nil_from_length _ (eqb-true _ _ (sym c.is_empty.ensures ∙ c.if-is_empty.true)) in
    subst (λ (v : Reading). (left : List Pair) → IsBlock v.bytes (v.read ++ left) → GoesOn v left (Ok false) v) c.self.view_is
    (GoesOn-at_end c.self.inside.block.now c.self.inside.rest.now c.self.inside.key c.self.inside.payload.now c.self.invariant end)

breaks : (c : goal.In_default) → BreaksAt c.self.inside.block.now (read_of c.self.inside.block.now c.self.inside.rest.now) (length c.self.inside.block.now - length c.self.inside.rest.now)
breaks c =
    let rest = c.self.inside.rest.now in
    let more : 0 < length rest = grind arith in
    let none = subst (λ (k : List ℕ). (pair : Pair) (after : List ℕ) → NextItem k rest pair after → ⊥) c.as_slice.ensures.value c.in_default.ensures.none in
    BreaksAt-from_none c.self.inside.block.now (read_of c.self.inside.block.now rest) rest c.self.inside.key c.self.invariant.begins c.self.invariant.last_key more none

pub returns-in_default-clause-err : goal.returns-in_default-clause-err
returns-in_default-clause-err c =
    (subst (λ (v : Reading). BreaksAt v.bytes v.read (length c.self.inside.block.now - length c.self.inside.rest.now)) c.self.view_is (breaks c), refl)

pub returns-in_default-clause-left : goal.returns-in_default-clause-left
returns-in_default-clause-left c =
    let at = length c.self.inside.block.now - length c.self.inside.rest.now in
    subst (λ (v : Reading). (left : List Pair) → IsBlock v.bytes (v.read ++ left) → GoesOn v left (Err (record { at = at })) v) c.self.view_is
    (λ left block. GoesOn-at_break c.self.inside.block.now c.self.inside.rest.now at (breaks c) left block _ _)

-- the pair that was read
abbrev pair_read : goal.After-rest-2-1 → Pair
pair_read c = pair_from (take c.in-Some.item.shared c.self.inside.key ++ c.in-Some.item.rest.now) c.in-Some.item.payload.now

next : (c : goal.After-rest-2-1) → NextItem c.self.inside.key c.self.inside.rest.now (pair_read c) c.in-Some.rest.now
next c =
    let item = c.in-Some.item in
    subst (λ (k : List ℕ). NextItem k c.self.inside.rest.now (pair_from (take item.shared k ++ item.rest.now) item.payload.now) c.in-Some.rest.now) c.as_slice.ensures.value c.in-Some.ensures.found

pub invariant_of-self : goal.invariant_of-self
invariant_of-self c =
    let block = c.self.inside.block.now in
    let after = c.in-Some.rest.now in
    let key-is : c.replace_end.new.self ≡ take c.in-Some.item.shared c.self.inside.key ++ c.in-Some.item.rest.now = grind arith in
    subst (λ (k : List ℕ). StandsBehind block (read_of block after) after k c.in-Some.item.payload.now) (sym key-is)
    (StandsBehind-next block (read_of block c.self.inside.rest.now) c.self.inside.rest.now c.self.inside.key c.self.inside.payload.now (pair_read c) after c.self.invariant (next c))

pub returns-clause-ok : goal.returns-clause-ok
returns-clause-ok c =
    subst (λ (v : Reading). Advances v (reading c.self.inside.block.now c.in-Some.rest.now)) c.self.view_is
    (Advances-next c.self.inside.block.now c.self.inside.rest.now c.self.inside.key c.self.inside.payload.now c.self.invariant (pair_read c) c.in-Some.rest.now (next c))

pub returns-clause-left : goal.returns-clause-left
returns-clause-left c =
    subst (λ (v : Reading). (left : List Pair) → IsBlock v.bytes (v.read ++ left) → GoesOn v left (Ok true) (reading c.self.inside.block.now c.in-Some.rest.now)) c.self.view_is
    (GoesOn-next c.self.inside.block.now c.self.inside.rest.now c.self.inside.key c.self.inside.payload.now c.self.invariant (pair_read c) c.in-Some.rest.now (next c))
