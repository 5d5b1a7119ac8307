use Rattle.std.proofs.Common.{arith}
use Rattle.mg_wal_format.proofs.SpellingLaws.{length-record_body}
use Rattle.mg_wal_format.proofs.record.record_len.Goals as goal

pub returns-clause-exact : goal.returns-clause-exact
returns-clause-exact c part change = omega (arith, c.change_len.ensures.exact, length-record_body part change c.args.what.now)
