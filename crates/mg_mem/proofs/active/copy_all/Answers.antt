use Rattle.std.proofs.Common.{◌∙◌}
use Rattle.std.specs.Map.Iter.{deref_pair}
use Rattle.std.proofs.lemmas.Map.Iter.{iter_end}
use Rattle.mg_mem.proofs.CopyLemmas.{copied_more}
use Rattle.mg_mem.proofs.active.copy_all.Goals as goal

pub loop-key-preserved : goal.loop-key-preserved
loop-key-preserved c =
    let begun = c.into_iter-key-iterator.ensures.into_iter_gives in
    copied_more c.args.map.now c.loop-key.copy.entries c.put_copy.new.copy.entries c.loop-key.yielded c.into_iter-key-iterator.result c.loop-key.key-iterator c.next.new.self (c.in-Some.key, c.in-Some.item) begun.0 begun.5
    c.loop-key.yielded_by c.in-Some.ensures.steps c.loop-key.invariant c.in_ok-put_copy.ensures.put

pub returns-clause-ok : goal.returns-clause-ok
returns-clause-ok c =
    c.loop-key.invariant
    ∙ (iter_end deref_pair c.args.map.now.entries c.loop-key.yielded c.into_iter-key-iterator.result c.loop-key.key-iterator c.next.new.self c.next.result c.into_iter-key-iterator.ensures.into_iter_gives.0 c.loop-key.yielded_by c.in-None.is c.next.ensures.steps).0
