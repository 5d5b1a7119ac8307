use Rattle.mg_wal.proofs.FindLaws.{size_less, size_none, size_some}
use Rattle.mg_wal.proofs.finding.size_by.Goals as goal

pub returns-in_default : goal.returns-in_default
returns-in_default c bytes len header = size_none c.args.number c.args.len c.args.header.now bytes len header c.take_frame.result c.take_frame.ensures.exact c.in_default.not-Short

pub returns-then-want-len : goal.returns-then-want-len
returns-then-want-len c bytes len header = size_some c.args.number c.args.len c.args.header.now bytes len header c.in-Short.want c.in-Short.have c.in-Short.ensures.exact c.if-want-len.true

pub returns-else-want-len : goal.returns-else-want-len
returns-else-want-len c bytes len header = size_less c.args.number c.args.len c.args.header.now bytes len header c.in-Short.want c.in-Short.have c.in-Short.ensures.exact c.if-want-len.false
