use Rattle.std.proofs.Common.{◌∙◌, sym}
use Rattle.mg_wal.specs.States.{ledger_book}
use Rattle.mg_wal.proofs.ReachLaws.{write_reaches}
use Rattle.mg_wal.proofs.state.WalState.write.Goals as goal

pub returns-in-Some-Some-clause-reaches : goal.returns-in-Some-Some-clause-reaches
returns-in-Some-Some-clause-reaches g c tells =
    write_reaches (ledger_book c.args.self.now.ledger) _ c.in-Some-Some.len c.take-len.new.self _ _ (sym c.take-len.ensures.value ∙ c.in-Some-Some.is-1) c.take-len.ensures.after (c.extend.ensures.reaches tells)
