use Rattle.mg_disk.proofs.Moments.{log_made}
use Rattle.mg_disk.proofs.clients.store_if_free.Goals as goal

pub returns-in_err-append_and_sync-clause-any_moment : goal.returns-in_err-append_and_sync-clause-any_moment
returns-in_err-append_and_sync-clause-any_moment g c tells =
    log_made _ _ _ _ _ _ c.in_ok-log.ensures.named (g.met.V.Volume.only_now tells c.args.volume.now) (c.names.ensures.stays tells) (c.in_ok-log.ensures.set tells)
    (c.append_and_sync.ensures.any_moment tells) (c.append_and_sync.ensures.elsewhere tells)

pub returns-clause-any_moment : goal.returns-clause-any_moment
returns-clause-any_moment g c tells =
    log_made _ _ _ _ _ _ c.in_ok-log.ensures.named (g.met.V.Volume.only_now tells c.args.volume.now) (c.names.ensures.stays tells) (c.in_ok-log.ensures.set tells)
    (c.append_and_sync.ensures.any_moment tells) (c.append_and_sync.ensures.elsewhere tells)
