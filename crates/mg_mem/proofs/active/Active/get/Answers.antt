use Rattle.std.proofs.Common.{ap, ◌∙◌}
use Rattle.mg_core.specs.Memtables.{item_of_key}
use Rattle.mg_mem.specs.Memtable.{Memtable}
use Rattle.mg_mem.proofs.InsertLemmas.{found_by_key}
use Rattle.mg_mem.proofs.active.Active.get.Goals as goal

pub returns : goal.returns
returns c = c.get.ensures.value ∙ found_by_key c.self.inside.items.entries c.args.key.now c.self.invariant.keyed ∙ ap (λ (t : Memtable). item_of_key t.items c.args.key.now) c.self.view_is
