use Rattle.mg_core.proofs.KeepLemmas.{keeps_fewer, keeps_joined}
use Rattle.mg_core.proofs.keeping.kept_layouts_come_and_go.Goals as goal

pub returns-clause-joined : goal.returns-clause-joined
returns-clause-joined c = keeps_joined

pub returns-clause-fewer : goal.returns-clause-fewer
returns-clause-fewer c = keeps_fewer
