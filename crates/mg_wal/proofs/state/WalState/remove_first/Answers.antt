use Rattle.std.proofs.Common.{ap, refl}
use Rattle.mg_wal.specs.declared.known.KnownLog.{KnownLog}
use Rattle.mg_wal.proofs.RemoveLaws.{remove_doubts, remove_reaches}
use Rattle.mg_wal.proofs.state.WalState.remove_first.Goals as goal

pub returns-in_err-remove_log-clause-reaches : goal.returns-in_err-remove_log-clause-reaches
returns-in_err-remove_log-clause-reaches g c tells =
    remove_doubts _ _ c.index.result.now.number c.index.result.now _ _ c.requires (ap (λ (l : KnownLog). l.number) c.index.ensures) (c.in_err-remove_log.ensures.doubt tells) refl

pub returns-clause-reaches : goal.returns-clause-reaches
returns-clause-reaches g c tells =
    remove_reaches _ _ c.index.result.now.number c.index.result.now _ _ c.requires (ap (λ (l : KnownLog). l.number) c.index.ensures) (c.in_ok-remove_log.ensures.gone tells) c.forget_first.ensures
