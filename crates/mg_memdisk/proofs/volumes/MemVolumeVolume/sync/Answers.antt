use Rattle.mg_memdisk.proofs.Views.{on_sync}
use Rattle.mg_memdisk.proofs.volumes.MemVolumeVolume.sync.Goals as goal

pub returns-clause-synced : goal.returns-clause-synced
returns-clause-synced c = on_sync _ _ _ c.push.result c.push.ensures.pushed
