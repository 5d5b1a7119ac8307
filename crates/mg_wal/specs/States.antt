-- The book of a state, and its volume.
use Rattle.std.specs.Option.{option_map}
use Rattle.mg_wal.specs.Book.{Book}
use Rattle.mg_wal.specs.Lists.{Basis}
use Rattle.mg_wal.specs.Openings.{basis_for}
use Rattle.mg_wal.specs.declared.ledger.Ledger.{Ledger}
use Rattle.mg_wal.specs.declared.reading.Opened.{Opened}
use Rattle.mg_wal.specs.declared.state.WalState.{WalState}

-- the book of a ledger
abbrev pub ledger_book : Ledger → Book
ledger_book ledger =
    record {
      last = ledger.last;
      reach = ledger.reach;
      counts = ledger.counts.items;
      synced = ledger.synced.items;
      released = ledger.released.items;
      staged = option_map (λ part. record { part = part; frame = ledger.frames.staged }) ledger.staged;
      waiting = ledger.frames.waiting;
      writing = ledger.writing;
      newest = ledger.newest;
      anchor = ledger.anchor;
      logs = ledger.logs.items;
    }

-- what an opening found, by what it made of it
abbrev pub opened_basis : Opened → Basis
opened_basis opened = basis_for (ledger_book opened.ledger) opened.records.items opened.low.items

-- the volume of a state
abbrev pub volume_of : {V A B C D : Type 0} {volume : _} {files : _} → WalState V A B C D volume files → V
volume_of state = state.vol

-- the book of a state
abbrev pub book_of : {V A B C D : Type 0} {volume : _} {files : _} → WalState V A B C D volume files → Book
book_of state = ledger_book state.ledger
