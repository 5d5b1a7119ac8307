use Rattle.std.proofs.Common.{◌≡◌, ◌+◌, ◌≤◌, ℕ, List, length, get_or, [], IsTrue}
use Rattle.mg_disk.specs.Images.{Stays}
use Rattle.mg_wal_format.specs.Logs.{counts_after, InOrder, Log}
use Rattle.mg_wal_format.specs.Records.{counts_in}
use Rattle.mg_wal_format.specs.Recovery.{first_of}
use Rattle.mg_wal.specs.Findings.{AreKnown, StandIn}
use Rattle.mg_wal.specs.Streams.{AreSound, BeginAt, GoesOn}
use Rattle.mg_wal.proofs.stream.read_stream.Given as goal

-- the records of the logs so far are in order and counted, and all logs give these and what is left to read
abbrev pub invariant-loop-log : goal.invariant-loop-log
invariant-loop-log g l =
    record {
      ready : AreSound l.rest;
      shorter : length l.rest ≤ length l.known;
      none : l.known ≡ [] → l.records.items ≡ [];
      order : (logs : List Log) → AreKnown l.known logs → InOrder (length l.low) (counts_in l.low) (first_of logs) l.records.items;
      counts : (part : ℕ) → get_or l.counts.items part 0 ≡ counts_after (counts_in l.low) l.records.items part;
      parts : length l.counts.items ≡ length l.low;
      reaches : (logs : List Log) → AreKnown l.known logs → BeginAt (first_of logs + length l.records.items) l.rest;
      stand : IsTrue g.V.Volume.tells → (logs : List Log) × AreKnown l.rest logs × StandIn (g.V.Volume.view l.fn.vol).contents logs;
      goes : IsTrue g.V.Volume.tells → (logs : List Log) → AreKnown l.known logs → StandIn (g.V.Volume.view l.fn.vol).contents logs
          → (behind : List Log) × AreKnown l.rest behind × StandIn (g.V.Volume.view l.fn.vol).contents behind
          × GoesOn (length l.low) (counts_in l.low) (first_of logs) logs l.records.items behind;
      stays : IsTrue g.V.Volume.tells → Stays (g.V.Volume.view l.fn.vol) (g.V.Volume.view l.vol);
      same : g.V.Volume.faults l.vol ≡ g.V.Volume.faults l.fn.vol;
    }

-- a log fewer
abbrev pub decreases-loop-log : goal.decreases-loop-log
decreases-loop-log g l = length l.rest
