use Rattle.mg_memdisk.proofs.Views.{on_file}
use Rattle.mg_memdisk.proofs.volumes.MemVolume.file.Goals as goal

pub returns : goal.returns
returns c = on_file c.args.self.now _ c.args.name _ c.deref.ensures.value c.file_under.ensures
