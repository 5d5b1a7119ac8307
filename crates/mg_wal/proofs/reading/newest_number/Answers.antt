use Rattle.std.proofs.Common.{sym}
use Rattle.mg_wal.proofs.FreshLaws.{last_known}
use Rattle.mg_wal.proofs.reading.newest_number.Goals as goal

pub returns-in-Some : goal.returns-in-Some
returns-in-Some c = last_known c.args.known.now c.in-Some.log.now (sym c.in-Some.ensures.value)
