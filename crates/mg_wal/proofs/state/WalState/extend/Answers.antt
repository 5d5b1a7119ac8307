use Rattle.std.proofs.Common.{ap, Option, ℕ}
use Rattle.mg_wal.specs.Book.{Book}
use Rattle.mg_wal.specs.States.{ledger_book}
use Rattle.mg_wal.proofs.StoryLaws.{if_error, if_value, no_error, no_value}
use Rattle.mg_wal.proofs.ReachLaws.{extend_reaches}
use Rattle.mg_wal.proofs.state.WalState.extend.Goals as goal

pub returns-in_err-append_lasting-clause-reaches : goal.returns-in_err-append_lasting-clause-reaches
returns-in_err-append_lasting-clause-reaches g c tells =
    let book : Book = ledger_book c.args.self.now.ledger in
    extend_reaches book book _ c.waiting-waiting.result.now c.args.len _ _ c.append_lasting.result c.requires.named c.waiting-waiting.ensures (c.append_lasting.ensures.reaches tells)
    (no_value c.append_lasting.result _ _ c.in_err-append_lasting.was) (if_error c.append_lasting.result _ (ap (λ (w : Option ℕ). let b : Book = record book { writing = w } in b) c.requires.none))

pub returns-clause-reaches : goal.returns-clause-reaches
returns-clause-reaches g c tells =
    let book : Book = ledger_book c.args.self.now.ledger in
    extend_reaches book _ _ c.waiting-waiting.result.now c.args.len _ _ c.append_lasting.result c.requires.named c.waiting-waiting.ensures (c.append_lasting.ensures.reaches tells)
    (if_value c.append_lasting.result _ c.note_synced.ensures) (no_error c.append_lasting.result _ _ c.in_ok-append_lasting.was)
