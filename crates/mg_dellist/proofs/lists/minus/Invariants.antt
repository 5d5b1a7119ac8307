use Rattle.std.proofs.Common.{◌≡◌, take}
use Rattle.std.specs.List.{filter}
use Rattle.mg_dellist.specs.Lists.{is_outside}
use Rattle.mg_dellist.proofs.lists.minus.Given as goal

abbrev pub invariant-loop-dead : goal.invariant-loop-dead
invariant-loop-dead l = l.rest.items ≡ filter (λ dead. is_outside l.first l.last dead.seq) (take l.dead-index l.a)
