use Rattle.mg_core.proofs.NeedLemmas.{need_replies, need_step}
use Rattle.mg_core.proofs.need.equal_need_gives_equal_replies.Goals as goal

pub returns-clause-reply : goal.returns-clause-reply
returns-clause-reply c = need_replies

pub returns-clause-state : goal.returns-clause-state
returns-clause-state c = need_step
