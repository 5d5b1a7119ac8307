use Rattle.std.proofs.Common.{length, drop, ◌-◌, ◌+◌, ◌≤◌}
use Rattle.mg_dellist.proofs.Merges.{Merging}
use Rattle.mg_dellist.proofs.lists.union.Given as goal

abbrev pub invariant-loop-i : goal.invariant-loop-i
invariant-loop-i l = record {
  within_first : l.i ≤ length l.a;
  within_second : l.j ≤ length l.b;
  merging : Merging l.a l.b l.all.items (drop l.i l.a) (drop l.j l.b);
}

abbrev pub decreases-loop-i : goal.decreases-loop-i
decreases-loop-i l = (length l.a - l.i) + (length l.b - l.j)
