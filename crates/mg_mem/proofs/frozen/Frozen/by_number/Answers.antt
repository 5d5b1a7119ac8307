use Rattle.std.proofs.Common.{◌≤◌, List, subst, sym}
use Rattle.mg_types.specs.declared.items.Item.{Item}
use Rattle.mg_core.specs.Lists.{times}
use Rattle.mg_mem.proofs.frozen.Frozen.by_number.Goals as goal

pub sorted-requires : goal.sorted-requires
sorted-requires c = λ n. subst (λ (items : List Item). times (λ (i : Item). i.seq) n items ≤ 1) (sym c.as_slice.ensures.value) (c.self.invariant.0.once n)
