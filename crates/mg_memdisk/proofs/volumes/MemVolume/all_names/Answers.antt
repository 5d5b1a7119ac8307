use Rattle.mg_memdisk.proofs.Views.{on_names}
use Rattle.mg_memdisk.proofs.volumes.MemVolume.all_names.Goals as goal

pub returns-clause-all : goal.returns-clause-all
returns-clause-all c = on_names c.args.self.now _ c.names_in.result c.deref.ensures.value c.names_in.ensures.all
