use Rattle.mg_memdisk.proofs.Views.{on_gone}
use Rattle.mg_memdisk.proofs.volumes.MemVolumeVolume.remove.Goals as goal

pub returns-in-Ok-clause-gone : goal.returns-in-Ok-clause-gone
returns-in-Ok-clause-gone c = on_gone c.args.self.now c.put.new.self c.args.name c.put.result c.put.ensures.set
