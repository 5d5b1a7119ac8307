use Rattle.mg_memdisk.proofs.Views.{in_doubt, open_file}
use Rattle.mg_memdisk.proofs.volumes.MemVolume.doubt.Goals as goal

pub returns-clause-doubt : goal.returns-clause-doubt
returns-clause-doubt c = in_doubt _ _ _ c.push.result c.args.value c.args.self.now.shows c.push.ensures.pushed c.push.ensures.same

pub returns-clause-file : goal.returns-clause-file
returns-clause-file c file = open_file c.args.self.now c.push.new.self c.args.name file
