use Rattle.std.proofs.Common.{◌≢◌, ◌+◌, ◌<◌, ◌≤◌, List, drop, get_or, sym, subst, arith}
use Rattle.mg_types.specs.declared.items.Dead.{Dead}
use Rattle.mg_dellist.proofs.Merges.{Merging, Merging-take_left, Merging-take_right}
use Rattle.mg_dellist.proofs.lists.union.Goals as goal

none : Dead
none = record { seq = 0; size = 0 }

pub loop-i-preserved-then-a-i : goal.loop-i-preserved-then-a-i
unfolding none
loop-i-preserved-then-a-i c =
    let a = c.args.a.now in
    let b = c.args.b.now in
    let i = c.loop-i.i in
    let j = c.loop-i.j in
    record {
      within_first = omega arith;
      within_second = c.loop-i.invariant.within_second;
      merging = subst (λ (t : List Dead). Merging a b t (drop (i + 1) a) (drop j b)) (sym c.in_ok-push.ensures.items)
          (Merging-take_left a b c.loop-i.all.items i j none c.loop-i-test.true c.if-j-b.true c.loop-i.invariant.merging c.if-a-i.true);
    }

pub loop-i-preserved : goal.loop-i-preserved
unfolding none
loop-i-preserved c =
    let a = c.args.a.now in
    let b = c.args.b.now in
    let i = c.loop-i.i in
    let j = c.loop-i.j in
    let apart : (get_or a i none).seq ≢ (get_or b j none).seq = c.requires.apart i none c.loop-i-test.true j none c.if-j-b.true in
    let below : (get_or b j none).seq < (get_or a i none).seq = (let at_most : (get_or b j none).seq ≤ (get_or a i none).seq = c.if-a-i.false in omega arith) in
    record {
      within_first = c.loop-i.invariant.within_first;
      within_second = omega arith;
      merging = subst (λ (t : List Dead). Merging a b t (drop i a) (drop (j + 1) b)) (sym c.in_ok-push-2.ensures.items)
          (Merging-take_right a b c.loop-i.all.items i j none c.loop-i-test.true c.if-j-b.true c.loop-i.invariant.merging below);
    }
