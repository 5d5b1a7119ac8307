use Rattle.std.proofs.Common.{◌≡◌, take}
use Rattle.std.specs.List.{AllByRecursion, Contains}
use Rattle.std.specs.Prelude.{IsTrue}
use Rattle.mg_disk.specs.Images.{Stays}
use Rattle.mg_wal.proofs.ScanLaws.{IsScanned}
use Rattle.mg_wal.proofs.finding.find_logs.Given as goal

-- the logs of the numbers so far were judged, and nothing changed
abbrev pub invariant-loop-number : goal.invariant-loop-number
invariant-loop-number g l =
    record {
      scanned : IsTrue g.V.Volume.tells → IsScanned (g.V.Volume.view l.fn.vol).contents (take l.number-index l.number-items) l.whole.items l.strays.items;
      among : AllByRecursion (λ log. Contains (take l.number-index l.number-items) log.number) l.whole.items;
      stays : IsTrue g.V.Volume.tells → Stays (g.V.Volume.view l.fn.vol) (g.V.Volume.view l.vol);
      same : g.V.Volume.faults l.vol ≡ g.V.Volume.faults l.fn.vol;
    }
