use Rattle.std.proofs.Common.{◌≡◌, length}
use Rattle.mg_memdisk.proofs.Views.{on_log}
use Rattle.mg_memdisk.proofs.volumes.MemVolume.len_of_log.Goals as goal

pub returns : goal.returns
returns c = on_log c.args.self.now _ c.args.name c.len_under.result (λ len bytes. len ≡ length bytes) c.deref.ensures.value c.len_under.ensures
