use Rattle.mg_wal.specs.States.{ledger_book}
use Rattle.mg_wal.proofs.SyncLaws.{sound_head}
use Rattle.mg_wal.proofs.ledger.Ledger.next_head.Goals as goal

pub returns-clause-sound : goal.returns-clause-sound
returns-clause-sound c =
    let ledger = c.args.self.now in sound_head (ledger_book ledger) ledger.same_parts ledger.few ledger.synced_are_kept ledger.last_is_kept c.requires
