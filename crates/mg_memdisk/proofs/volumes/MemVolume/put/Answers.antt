use Rattle.mg_memdisk.proofs.Views.{on_put, on_same, open_file}
use Rattle.mg_memdisk.proofs.volumes.MemVolume.put.Goals as goal

pub returns-clause-set : goal.returns-clause-set
returns-clause-set c = on_put _ _ _ c.push.result c.args.value c.push.ensures.pushed

pub returns-clause-doubt : goal.returns-clause-doubt
returns-clause-doubt c = on_same _ _ _ c.push.result c.args.value c.push.ensures.same

pub returns-clause-file : goal.returns-clause-file
returns-clause-file c file = open_file c.args.self.now c.push.new.self c.args.name file
