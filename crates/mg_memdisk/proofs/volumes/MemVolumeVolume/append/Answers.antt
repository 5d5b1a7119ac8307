use Rattle.std.proofs.Common.{refl}
use Rattle.mg_memdisk.proofs.Views.{puts_behind_from}
use Rattle.mg_memdisk.proofs.volumes.MemVolumeVolume.append.Goals as goal

pub returns-in-Ok-clause-happened : goal.returns-in-Ok-clause-happened
returns-in-Ok-clause-happened c = puts_behind_from c.put_behind.result c.args.self.now _ c.put_behind.new.self _ _ refl refl c.put_behind.ensures.happened
