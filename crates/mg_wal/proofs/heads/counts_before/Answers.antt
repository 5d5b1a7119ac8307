use Rattle.std.proofs.Common.{◌∙◌}
use Rattle.mg_wal.proofs.HeadLaws.{low_padded}
use Rattle.mg_wal.proofs.heads.counts_before.Goals as goal

pub returns-clause-low : goal.returns-clause-low
returns-clause-low c logs are room heads part =
    let counts = c.oldest_counts.result.now in
    let low = c.resize.new.self.items in
    low_padded counts low c.args.parts _ part
    (rw (c.in_ok-low.ensures.items, c.from.ensures) at c.in_ok-resize.ensures.items) (c.oldest_counts.ensures.room c.args.parts logs are room heads)
    ∙ c.oldest_counts.ensures.counts logs are part
