use Rattle.mg_core.proofs.OpeningLemmas.{opened_live, opened_stands}
use Rattle.mg_core.proofs.layouts.opened_list_has_the_same_newest.Goals as goal

pub returns-clause-live : goal.returns-clause-live
returns-clause-live c = opened_live

pub returns-clause-stands : goal.returns-clause-stands
returns-clause-stands c = opened_stands
