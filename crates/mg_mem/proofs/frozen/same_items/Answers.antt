use Rattle.std.proofs.Common.{refl, arith}
use Rattle.std.proofs.lemmas.List.{same_lists}
use Rattle.std.proofs.lemmas.Slice.Zip.{zip_end}
use Rattle.mg_mem.proofs.frozen.same_items.Goals as goal

pub returns : goal.returns
returns c =
    let all = zip_end c.args.a.now c.args.b.now c.loop-x.yielded c.into_iter-x-iterator.result c.loop-x.x-iterator c.next.new.self c.next.result (cc) (cc) c.loop-x.yielded_by c.in-None.is c.next.ensures.steps in
    let long = c.if-a-b.false in
    (λ _. same_lists c.args.a.now c.args.b.now long (λ k d lt. c.loop-x.invariant k d (omega (arith, all, long, lt))), λ _. refl)
