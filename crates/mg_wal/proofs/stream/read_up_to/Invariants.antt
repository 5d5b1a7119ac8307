use Rattle.std.proofs.Common.{◌≡◌, ◌+◌, ◌-◌, ◌≤◌, ℕ, List, Some, length, get_or, IsTrue}
use Rattle.mg_disk.specs.Images.{Stays}
use Rattle.mg_wal_format.specs.Judging.{HasRecords}
use Rattle.mg_wal_format.specs.Logs.{counts_after, InOrder}
use Rattle.mg_wal_format.specs.Records.{counts_in}
use Rattle.mg_wal_format.specs.Recovery.{log_name}
use Rattle.mg_wal.specs.Streams.{head_end}
use Rattle.mg_wal.proofs.stream.read_up_to.Given as goal

-- the records so far are in order and counted, and stand in the log
abbrev pub invariant-loop-number : goal.invariant-loop-number
invariant-loop-number g l =
    record {
      order : InOrder (length l.fn.counts.items) (counts_in l.fn.counts.items) l.log.head.first l.records.items;
      counts : (part : ℕ) → get_or l.counts.items part 0 ≡ counts_after (counts_in l.fn.counts.items) l.records.items part;
      parts : length l.counts.items ≡ length l.fn.counts.items;
      numbers : l.log.head.first + length l.records.items ≡ l.number;
      below : l.number ≤ l.limit;
      within : l.stop ≤ l.len;
      stands : IsTrue g.V.Volume.tells → (bytes : List ℕ) → (g.V.Volume.view l.fn.vol).contents (log_name l.log.number) ≡ Some bytes
          → (l.len ≡ length bytes) × HasRecords (length l.fn.counts.items) (counts_in l.fn.counts.items) l.log.head.first bytes (head_end l.log (length bytes)) l.records.items l.stop;
      stays : IsTrue g.V.Volume.tells → Stays (g.V.Volume.view l.fn.vol) (g.V.Volume.view l.vol);
      same : g.V.Volume.faults l.vol ≡ g.V.Volume.faults l.fn.vol;
    }

abbrev pub decreases-loop-number : goal.decreases-loop-number
decreases-loop-number g l = l.limit - l.number
