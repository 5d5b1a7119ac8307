use Rattle.mg_wal.proofs.BookLaws.{push_keeps_each}
use Rattle.mg_wal.proofs.ReachLaws.{push_reaches}
use Rattle.mg_wal.proofs.state.WalState.push.Goals as goal

pub returns-clause-keeps : goal.returns-clause-keeps
returns-clause-keeps g c e staged is_next = push_keeps_each _ _ e (c.push.ensures.book e staged) is_next

pub returns-clause-reaches : goal.returns-clause-reaches
returns-clause-reaches g c tells e staged is_next = push_reaches _ _ e _ (c.push.ensures.book e staged) is_next
