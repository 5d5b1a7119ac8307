use Rattle.std.proofs.Common.{refl, ap, ◌∙◌}
use Rattle.mg_faults.specs.Calls.{CallCounts}
use Rattle.mg_memdisk.proofs.hosts.Slot.new.Goals as goal

pub returns : goal.returns
returns c = record {
  vol = c.new-2.result;
  inside = refl;
  is_new = record {
    empty = c.new-2.ensures.empty;
    failing = ap (λ (calls : CallCounts). calls.failing) c.new-2.ensures.calls ∙ c.new.ensures.items;
  };
}
