use Rattle.std.proofs.Common.{◌≡◌, ◌≤◌, ◌-◌, ◌++◌, length}
use Rattle.mg_memdisk.specs.Crashes.{tail_of, after_tail}
use Rattle.mg_memdisk.proofs.choices.Choice.pick_tail.Given as goal

abbrev pub invariant-loop-self : goal.invariant-loop-self
invariant-loop-self l = record {
  most : length l.bytes.items ≤ l.most;
  tail : tail_of l.most l.fn.self.rest.now ≡ l.bytes.items ++ tail_of (l.most - length l.bytes.items) l.self.rest.now;
  after : after_tail l.most l.fn.self.rest.now ≡ after_tail (l.most - length l.bytes.items) l.self.rest.now;
}

abbrev pub decreases-loop-self : goal.decreases-loop-self
decreases-loop-self l = l.most - length l.bytes.items
