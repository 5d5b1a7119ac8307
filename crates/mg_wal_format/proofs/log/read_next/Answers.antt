use Rattle.std.proofs.Common.{length}
use Rattle.mg_wal_format.specs.Records.{counts_in}
use Rattle.mg_wal_format.proofs.LogLaws.{next_stands}
use Rattle.mg_wal_format.proofs.log.read_next.Goals as goal

pub returns-clause-next : goal.returns-clause-next
returns-clause-next c =
    let read = c.in_ok-rec.ensures.next in
    next_stands (length c.args.counts.now) (counts_in c.args.counts.now) c.args.bytes.now c.args.at c.args.number c.in-Whole.start c.in-Whole.end c.in-Whole.next c.in_ok-rec.rec
    c.requires.within c.in-Whole.ensures.meaning.0 read.0 read.1 read.2
