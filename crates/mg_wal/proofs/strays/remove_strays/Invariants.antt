use Rattle.std.proofs.Common.{◌≡◌, IsTrue}
use Rattle.mg_wal.proofs.ClearLaws.{Removing}
use Rattle.mg_wal.proofs.strays.remove_strays.Given as goal

-- the strays so far are gone, without a fault
abbrev pub invariant-loop-number : goal.invariant-loop-number
invariant-loop-number g l =
    (IsTrue g.V.Volume.tells → Removing l.strays l.number-index (g.V.Volume.view l.fn.vol) (g.V.Volume.view l.vol)) × (g.V.Volume.faults l.vol ≡ g.V.Volume.faults l.fn.vol)
