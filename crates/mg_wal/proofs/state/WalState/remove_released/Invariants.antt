use Rattle.std.proofs.Common.{◌≡◌, IsTrue, length}
use Rattle.mg_wal.specs.Releases.{IsCut, OnlyLogsGo}
use Rattle.mg_wal.specs.States.{book_of, volume_of}
use Rattle.mg_wal.specs.Stories.{KeepsReach}
use Rattle.mg_wal.proofs.state.WalState.remove_released.Given as goal

-- some of the oldest logs are gone, without a fault, and what was sure stays so
abbrev pub invariant-loop-alloc : goal.invariant-loop-alloc
invariant-loop-alloc g l =
    IsCut (book_of l.fn.self) (book_of l.self)
    × (IsTrue g.V.Volume.tells → OnlyLogsGo (book_of l.fn.self).anchor (g.V.Volume.view (volume_of l.fn.self)).contents (g.V.Volume.view (volume_of l.self)).contents)
    × (IsTrue g.V.Volume.tells → KeepsReach (book_of l.fn.self) (book_of l.self) (g.V.Volume.view (volume_of l.fn.self)) (g.V.Volume.view (volume_of l.self)))
    × (g.V.Volume.faults (volume_of l.self) ≡ g.V.Volume.faults (volume_of l.fn.self))

-- a log fewer
abbrev pub decreases-loop-alloc : goal.decreases-loop-alloc
decreases-loop-alloc g l = length (book_of l.self).logs
