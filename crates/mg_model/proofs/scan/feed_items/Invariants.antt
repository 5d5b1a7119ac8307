use Rattle.std.proofs.Common.{◌≡◌}
use Rattle.mg_model.proofs.ListLemmas.{feed_so_far}
use Rattle.mg_model.proofs.scan.feed_items.Given as goal

abbrev pub invariant-loop-index : goal.invariant-loop-index
invariant-loop-index l = l.items ≡ feed_so_far l.mutations l.after l.limit l.index
