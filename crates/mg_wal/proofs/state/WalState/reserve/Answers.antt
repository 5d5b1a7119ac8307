use Rattle.mg_wal.proofs.BookLaws.{reserve_keeps_each}
use Rattle.mg_wal.proofs.ReachLaws.{reserve_reaches}
use Rattle.mg_wal.proofs.state.WalState.reserve.Goals as goal

pub returns-clause-keeps : goal.returns-clause-keeps
returns-clause-keeps g c =
    reserve_keeps_each c.reserve.result _ _ (c.args.part, c.args.what.now) c.reserve.ensures.staged c.reserve.ensures.next c.reserve.ensures.same

pub returns-clause-reaches : goal.returns-clause-reaches
returns-clause-reaches g c tells = reserve_reaches c.reserve.result _ _ (c.args.part, c.args.what.now) _ c.reserve.ensures.staged c.reserve.ensures.same
