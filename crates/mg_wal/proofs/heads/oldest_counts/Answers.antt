use Rattle.mg_wal.proofs.HeadLaws.{oldest_kept, oldest_room}
use Rattle.mg_wal.proofs.heads.oldest_counts.Goals as goal

pub returns-in-Some-clause-room : goal.returns-in-Some-clause-room
returns-in-Some-clause-room c parts logs are room heads =
    oldest_room c.args.known.now c.in-Some.oldest.now c.as_slice.result.now parts logs c.in-Some.ensures.value c.as_slice.ensures are room heads

pub returns-in-Some-clause-kept : goal.returns-in-Some-clause-kept
returns-in-Some-clause-kept c logs are heads = oldest_kept c.args.known.now c.in-Some.oldest.now c.as_slice.result.now logs c.in-Some.ensures.value c.as_slice.ensures are heads
