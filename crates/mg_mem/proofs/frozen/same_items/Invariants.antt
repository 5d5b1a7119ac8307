use Rattle.std.proofs.Common.{◌≡◌, ◌<◌, ℕ, get_or, length}
use Rattle.mg_types.specs.declared.items.Item.{Item}
use Rattle.mg_mem.proofs.frozen.same_items.Given as goal

abbrev pub invariant-loop-x : goal.invariant-loop-x
invariant-loop-x l = (k : ℕ) (d : Item) → k < length l.yielded → get_or l.a k d ≡ get_or l.b k d
