use Rattle.std.proofs.Common.{◌≡◌, ◌∙◌, ◌+◌, ℕ, Option, None, [], ◌∷◌, ◌++◌, length, ap, arith, refl, sym}
use Rattle.std.proofs.lemmas.Grind.{common_steps}
use Rattle.mg_wal.specs.Book.{Book}
use Rattle.mg_wal.specs.States.{ledger_book}
use Rattle.mg_wal.specs.Syncs.{next_log, synced_in}
use Rattle.mg_wal.proofs.StoryLaws.{if_error, if_value, no_error, no_value}
use Rattle.mg_wal.proofs.SyncLaws.{begun_book}
use Rattle.mg_wal.proofs.ReachLaws.{begin_reaches}
use Rattle.mg_wal.proofs.state.WalState.begin.Goals as goal

pub returns-clause-book : goal.returns-clause-book
returns-clause-book g c =
    let len : c.len.result ≡ length c.in_ok-bytes.bytes.items = grind (arith, common_steps) in
    let synced = c.note_synced.ensures ∙ ap (synced_in c.in_ok-number.number c.len.result) c.in_ok-note_tried.ensures.ok in
    begun_book (ledger_book c.args.self.now.ledger) _ c.in_ok-number.number c.len.result c.in_ok-bytes.bytes.items c.args.self.now.ledger.same_parts synced c.in_ok-number.ensures.number.0 len c.in_ok-bytes.ensures.bytes

pub returns-in_err-log-clause-reaches : goal.returns-in_err-log-clause-reaches
returns-in_err-log-clause-reaches g c tells =
    let book : Book = ledger_book c.args.self.now.ledger in
    let tried : ℕ → Option ℕ → Book = λ number w. let b : Book = record book { writing = w; newest = number; logs = book.logs ++ next_log book ∷ [] } in b in
    let is = c.in_ok-note_tried.ensures.ok ∙ ap (tried (book.newest + 1)) c.requires.none ∙ ap (λ (n : ℕ). tried n None) (sym c.in_ok-number.ensures.number.0) in
    begin_reaches book _ c.in_ok-number.number c.deref.result.now (length c.deref.result.now) _ _ c.begin_log.result c.in_ok-number.ensures.number.0 c.in_ok-number.ensures.number.1
    (c.deref.ensures.value ∙ c.in_ok-bytes.ensures.bytes) refl c.next_head.ensures.sound (c.begin_log.ensures.reaches tells) (no_value c.begin_log.result _ _ c.in_err-log.was) (if_error c.begin_log.result _ is)

pub returns-clause-reaches : goal.returns-clause-reaches
returns-clause-reaches g c tells =
    let len : c.len.result ≡ length c.in_ok-bytes.bytes.items = grind (arith, common_steps) in
    let book : Book = ledger_book c.args.self.now.ledger in
    let synced = c.note_synced.ensures ∙ ap (synced_in c.in_ok-number.number c.len.result) c.in_ok-note_tried.ensures.ok in
    begin_reaches book _ c.in_ok-number.number c.deref.result.now c.len.result _ _ c.begin_log.result c.in_ok-number.ensures.number.0 c.in_ok-number.ensures.number.1 (c.deref.ensures.value ∙ c.in_ok-bytes.ensures.bytes)
    (len ∙ ap length (sym c.deref.ensures.value)) c.next_head.ensures.sound (c.begin_log.ensures.reaches tells) (if_value c.begin_log.result _ synced) (no_error c.begin_log.result _ _ c.in_ok-log.was)
