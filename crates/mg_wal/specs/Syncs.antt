-- What a sync writes, and what becomes of the book.
use Rattle.std.specs.Prelude.{◌≡◌, ℕ, ◌+◌, ◌*◌, ◌≤◌, ◌^◌, ◌⊎◌, nat_lt, if◌then◌else◌, Bool, true, false, List, [], ◌∷◌, ◌++◌, length, Option, None, Some}
use Rattle.mg_disk.specs.declared.errors.DiskError.{DiskError}
use Rattle.mg_disk.specs.declared.errors.DiskError.TheVariants as disk
use Rattle.mg_disk.specs.Images.{Image, Sets, View}
use Rattle.mg_disk.specs.Moments.{Begins, EachImage, LeavesOnly}
use Rattle.mg_frame.specs.Frame.{frame}
use Rattle.mg_types.specs.declared.faults.Fault.{Fault}
use Rattle.mg_types.specs.declared.faults.Fault.TheVariants.{NoMemory, WriteFault, Worn}
use Rattle.mg_types.specs.declared.names.Name.{Name}
use Rattle.mg_wal_format.specs.declared.head.Head.{Head}
use Rattle.mg_wal_format.specs.Heads.{head_bytes}
use Rattle.mg_wal_format.specs.Recovery.{log_name}
use Rattle.mg_wal.specs.declared.known.KnownLog.{KnownLog}
use Rattle.mg_wal.specs.Book.{parts_in, synced_of, Book, HasUnsynced}

-- what a call answers where a write gave up so
abbrev pub write_fault : DiskError → Fault
write_fault disk.NoMemory = NoMemory
write_fault disk.Failed = WriteFault

-- the answers of a call that only writes: memory ran out, or a write failed
abbrev pub IsUnwritten : Fault → Type 0
IsUnwritten fault = (fault ≡ NoMemory) ⊎ (fault ≡ WriteFault)

-- the bytes were put behind those of the log, and nothing else changed
pub record Adds (name : Name) (bytes : List ℕ) (old new : Image) : Type 0 where
  pub found : List ℕ
  pub was : old name ≡ Some found
  pub longer : Sets name (Some (found ++ bytes)) old new

-- each crash leaves of the log what reads give
abbrev pub IsLasting : Name → View → Type 0
IsLasting name view = (image : Image) → view.may_leave image → image name ≡ view.contents name

-- first bytes of a name that each crash left before, a crash at any moment since leaves too
abbrev pub KeepsSure : View → View → Type 0
KeepsSure old new = (name : Name) (kept : List ℕ) → EachImage old (Begins name kept) → LeavesOnly old new (Begins name kept)

-- a log of this length is appended to; 2^24 is 16 MiB
abbrev pub has_room_in : Option ℕ → Bool
has_room_in None = false
has_room_in (Some len) = nat_lt len (2 ^ 24)

-- whether the next sync appends to the newest log
abbrev pub goes_on : Book → Bool
goes_on book = has_room_in book.writing

-- the length of the log in writing
abbrev pub len_in : Option ℕ → ℕ
len_in None = 0
len_in (Some len) = len

-- the number of the log to which the next sync writes
abbrev pub number_for : Book → ℕ
number_for book = if goes_on book then book.newest else book.newest + 1

-- how many bytes stand before what the next sync writes: a head's frame has 31 bytes, and 8 for each partition
abbrev pub len_for : Book → ℕ
len_for book = if goes_on book then len_in book.writing else 31 + 8 * parts_in book

-- all is synced, in the log of this number, which has this length now
abbrev pub synced_in : ℕ → ℕ → Book → Book
synced_in number len book = record book { reach = book.last + 1; synced = book.counts; waiting = []; writing = Some len; newest = number; anchor = number }

-- the head of a log that begins with the first record that is not synced
abbrev pub head_for : Book → Head
head_for book = record { first = synced_of book + 1; before = book.synced }

-- the next log, as it is to be begun
abbrev pub next_log : Book → KnownLog
next_log book = record { number = book.newest + 1; head = head_for book }

-- the book once the next log was tried
abbrev pub begun_in : Book → Book
begun_in book = record book { newest = book.newest + 1; logs = book.logs ++ next_log book ∷ [] }

-- the book once a log was written to: by whether it goes on
abbrev pub written_by : Bool → Book → Book
written_by true book = book
written_by false book = begun_in book

-- the book once the next sync has written to a log
abbrev pub written_in : Book → Book
written_in book = written_by (goes_on book) book

-- the book after a sync
abbrev pub after_sync : Book → Book
after_sync book = if nat_lt (synced_of book) book.last then synced_in (number_for book) (len_for book + length book.waiting) (written_in book) else book

-- no log of another number can be begun
abbrev pub IsSpent : Book → Type 0
IsSpent book = 2 ^ 62 ≤ number_for book

-- the book after a failed sync, before a log was tried: the next sync begins a log
abbrev pub untried : Book → Book
untried book = record book { writing = None }

-- and after it was tried
abbrev pub tried : Book → Book
tried book = untried (written_in book)

-- why the writing of all that is unsynced failed, and what became of the book
abbrev pub IsFailedWrite : Book → Book → Fault → Type 0
IsFailedWrite old new fault =
    ((fault ≡ Worn old.newest) × IsSpent old × (new ≡ untried old))
    ⊎ ((fault ≡ WriteFault) × (IsSpent old → ⊥) × (new ≡ tried old))
    ⊎ ((fault ≡ NoMemory) × ((new ≡ untried old) ⊎ ((IsSpent old → ⊥) × (new ≡ tried old))))

-- why a sync failed, and what became of the book
abbrev pub IsFailedSync : Book → Book → Fault → Type 0
IsFailedSync old new fault = HasUnsynced old × IsFailedWrite old new fault

-- what a new log has: its head, with its number, and behind it all that is unsynced
abbrev pub begun_bytes : Book → List ℕ
begun_bytes book = frame (book.newest + 1) (head_bytes (head_for book)) ++ book.waiting

-- the log was made, with a head that counts each partition, and all that is unsynced behind it
pub record BeginsLog (book : Book) (old new : Image) : Type 0 where
  pub absent : old (log_name (book.newest + 1)) ≡ None
  pub made : Sets (log_name (book.newest + 1)) (Some (begun_bytes book)) old new

-- by whether it goes on: all that was unsynced was put behind the newest log, or a log was begun with it
abbrev pub WritesBy : Bool → Book → Image → Image → Type 0
WritesBy true book old new = Adds (log_name book.newest) book.waiting old new
WritesBy false book old new = BeginsLog book old new

-- what a sync writes
abbrev pub Writes : Book → Image → Image → Type 0
Writes book old new = WritesBy (goes_on book) book old new
