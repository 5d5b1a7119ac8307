use Rattle.std.proofs.Common.{ap}
use Rattle.mg_model.specs.Mutations.{feed_of}
use Rattle.mg_core.proofs.ReadLemmas.{led_are_live}
use Rattle.mg_core.proofs.layouts.feeds_by_records_are_those_of_the_list.Goals as goal

pub returns-clause-live : goal.returns-clause-live
returns-clause-live c = led_are_live

pub returns-clause-feed : goal.returns-clause-feed
returns-clause-feed c = λ l m after limit s. ap (λ items. feed_of items after limit) (led_are_live l m s)
