use Rattle.std.proofs.Common.{arith}
use Rattle.mg_wal.specs.States.{ledger_book}
use Rattle.mg_wal.proofs.RemoveLaws.{released_reaches}
use Rattle.mg_wal.proofs.state.WalState.release.Goals as goal

pub returns-clause-reaches : goal.returns-clause-reaches
returns-clause-reaches g c tells =
    let ledger = c.args.self.now.ledger in
    released_reaches (ledger_book ledger) _ _ c.args.part c.args.change _ _ (omega (arith, ledger.released_parts, c.requires.part)) c.requires.change c.release.ensures (c.remove_released.ensures.reaches tells)
