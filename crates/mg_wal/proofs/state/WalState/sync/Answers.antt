use Rattle.std.proofs.Common.{ap}
use Rattle.mg_wal.specs.States.{book_of, volume_of}
use Rattle.mg_wal.proofs.SyncLaws.{same_keeps, write_keeps}
use Rattle.mg_wal.proofs.ReachLaws.{reaches_same}
use Rattle.mg_wal.proofs.state.WalState.sync.Goals as goal
use Rattle.mg_wal.proofs.state.WalState.sync.Goals.{then-has_unsynced+in_ok-write, else-has_unsynced}

pub returns-in_err-write-clause-keeps : goal.returns-in_err-write-clause-keeps
returns-in_err-write-clause-keeps g c = write_keeps c.write.result _ _ c.write.ensures.book c.write.ensures.err

pub returns-clause-keeps : goal.returns-clause-keeps
returns-clause-keeps g c =
    elim c.if-has_unsynced.branch [
      | then-has_unsynced+in_ok-write w ↦ same_keeps _ _ _ (ap (λ s. book_of s) w.self-is) (write_keeps w.write.result _ _ w.write.ensures.book w.write.ensures.err)
      | else-has_unsynced w ↦ same_keeps _ _ _ (ap (λ s. book_of s) w.self-is) (λ basis list books. books)
    ]

pub returns-clause-reaches : goal.returns-clause-reaches
returns-clause-reaches g c tells =
    elim c.if-has_unsynced.branch [
      | then-has_unsynced+in_ok-write w ↦ reaches_same _ _ _ _ _ _ (ap (λ s. book_of s) w.self-is) (ap (λ s. g.V.Volume.view (volume_of s)) w.self-is) (w.write.ensures.reaches tells)
      | else-has_unsynced w ↦ reaches_same _ _ _ _ _ _ (ap (λ s. book_of s) w.self-is) (ap (λ s. g.V.Volume.view (volume_of s)) w.self-is) (λ basis list time reach books told. told)
    ]
