use Rattle.std.proofs.Common.{◌≡◌, ℕ, ◌+◌, length, get_or}
use Rattle.mg_wal_format.specs.Judging.{HasRecords}
use Rattle.mg_wal_format.specs.Logs.{counts_after}
use Rattle.mg_wal_format.specs.Records.{counts_in}
use Rattle.mg_wal_format.proofs.log.read_log.Given as goal

-- the records so far stand in the bytes, and are counted
abbrev pub invariant-loop-number : goal.invariant-loop-number
invariant-loop-number l =
    record {
      records : HasRecords (length l.fn.counts.items) (counts_in l.fn.counts.items) l.first l.bytes l.at l.records.items l.stop;
      counts : (part : ℕ) → get_or l.counts.items part 0 ≡ counts_after (counts_in l.fn.counts.items) l.records.items part;
      parts : length l.counts.items ≡ length l.fn.counts.items;
      numbers : l.first + length l.records.items ≡ l.number;
    }
