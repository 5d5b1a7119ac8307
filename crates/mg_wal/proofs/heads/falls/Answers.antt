use Rattle.std.proofs.Common.{inl, inr, arith}
use Rattle.std.proofs.lemmas.Bool.{ltb-true}
use Rattle.mg_wal.proofs.HeadLaws.{falls_by}
use Rattle.mg_wal.proofs.heads.falls.Goals as goal

pub returns-then-head-last-clause-yes : goal.returns-then-head-last-clause-yes
returns-then-head-last-clause-yes c less logs are = falls_by c.args.before.now logs c.in-Some.last.now c.args.head.now are c.in-Some.ensures.value (inl c.if-head-last.true)

pub returns-else-head-last-clause-yes : goal.returns-else-head-last-clause-yes
returns-else-head-last-clause-yes c less logs are =
    falls_by c.args.before.now logs c.in-Some.last.now c.args.head.now are c.in-Some.ensures.value
    (inr (omega (arith, ltb-true c.len.result c.len-else-head-last.result less, c.len.ensures, c.len-else-head-last.ensures)))
