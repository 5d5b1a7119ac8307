use Rattle.std.proofs.Common.{IsSome, sym, subst, refl}
use Rattle.std.specs.Prelude.{Option}
use Rattle.mg_memdisk.specs.declared.volumes.MemVolume.{MemVolume}
use Rattle.mg_memdisk.proofs.Slots.{none_out, each_empty}
use Rattle.mg_memdisk.proofs.hosts.MemHost.new.Goals as goal

pub returns-clause-inside : goal.returns-clause-inside
returns-clause-inside c = none_out _ c.from_fn.ensures.items.long (λ k d lt. subst (λ (o : Option MemVolume). IsSome o) (sym (c.from_fn.ensures.items.at k d lt).2.met.1.inside) refl)

pub returns-clause-empty : goal.returns-clause-empty
returns-clause-empty c = each_empty _ _ c.from_fn.ensures.items.long (λ k d lt. (c.from_fn.ensures.items.at k d lt).2.met.1)
