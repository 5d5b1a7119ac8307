use Rattle.std.proofs.Common.{◌≡◌, ◌≤◌, length, vec_capacity, vec_len}
use Rattle.std.specs.BTreeMap.{btree_map_len}
use Rattle.mg_mem.proofs.active.moved.Given as goal

abbrev pub invariant-loop-item : goal.invariant-loop-item
invariant-loop-item l = record {
  iterates : goal.iterator-loop-item.can_next l.item-iterator;
  ends : goal.iterator-loop-item.is_finite l.item-iterator;
  items : l.room.items ≡ l.yielded;
  len : vec_len l.room ≡ length l.yielded;
  space : btree_map_len l.fn.map ≤ vec_capacity l.room;
}
