use Rattle.mg_wal.proofs.SceneLaws.{SceneOpens}
use Rattle.mg_wal.proofs.laws.scene_opens.Goals as goal

pub returns : goal.returns
returns c = SceneOpens
