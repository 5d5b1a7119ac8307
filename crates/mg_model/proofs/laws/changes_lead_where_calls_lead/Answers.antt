use Rattle.mg_model.proofs.HistoryLemmas.{changes_lead}
use Rattle.mg_model.proofs.laws.changes_lead_where_calls_lead.Goals as goal

pub returns : goal.returns
returns c = changes_lead
