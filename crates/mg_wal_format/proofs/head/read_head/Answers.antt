use Rattle.mg_wal_format.proofs.ReadingLaws.{head_sound}
use Rattle.mg_wal_format.proofs.head.read_head.Goals as goal

pub returns-in-None-clause-number : goal.returns-in-None-clause-number
returns-in-None-clause-number c =
    let read = rw c.in-Some.is at c.in_ok-head.ensures.read in
    (head_sound c.args.file c.in-Some.head read.0.0 c.in-None.ensures).0

pub returns-in-None-clause-head : goal.returns-in-None-clause-head
returns-in-None-clause-head c =
    let read = rw c.in-Some.is at c.in_ok-head.ensures.read in
    ((head_sound c.args.file c.in-Some.head read.0.0 c.in-None.ensures).1, read.0.1)
