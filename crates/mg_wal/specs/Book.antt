-- What contracts see of a state of the log beside its volume, and what reserve and push make of it.
use Rattle.std.specs.Prelude.{◌≡◌, ℕ, ◌+◌, ◌-◌, ◌<◌, ◌≤◌, ◌^◌, ◌⊎◌, List, ◌++◌, length, get_or, set, Option, None, Some}
use Rattle.std.specs.List.{All}
use Rattle.mg_frame.specs.Frame.{frame}
use Rattle.mg_model.specs.declared.calls.Change.{Change}
use Rattle.mg_types.specs.declared.faults.Fault.{Fault}
use Rattle.mg_types.specs.declared.faults.Fault.TheVariants.{Worn}
use Rattle.mg_wal_format.specs.Records.{record_body}
use Rattle.mg_wal.specs.declared.known.KnownLog.{KnownLog}

-- a change of the list: its partition and what it is
abbrev pub Entry : Type 0
Entry = ℕ × Change

-- a record that is spelled and has no place in the list yet: its partition, and its frame
pub record Staged : Type 0 where
  pub part : ℕ
  pub frame : List ℕ

-- the frames of the pushed records that the next sync writes, and behind them that of the staged record
pub record Frames : Type 0 where
  pub waiting : List ℕ
  pub staged : List ℕ

-- what contracts see of a state beside its volume
pub record Book : Type 0 where
  -- the number of the last record
  pub last : ℕ
  -- the number after the last synced record; 0 while no log is needed
  pub reach : ℕ
  -- for each partition, how many changes it has had
  pub counts : List ℕ
  -- how many of them are synced
  pub synced : List ℕ
  -- and how many of them it needs no more
  pub released : List ℕ
  -- the record that the next push takes
  pub staged : Option Staged
  -- the frames of the pushed records that the next sync writes
  pub waiting : List ℕ
  -- the length of the newest log, where the next sync may append to it; else that begins a log
  pub writing : Option ℕ
  -- the greatest number of a log that was found or tried
  pub newest : ℕ
  -- the number of the newest log whose head is synced; 0 without one
  pub anchor : ℕ
  -- the logs that a crash may leave, in the order of their numbers
  pub logs : List KnownLog

-- the number of the last record that is synced
abbrev pub synced_of : Book → ℕ
synced_of book = book.reach - 1

-- how many partitions are counted
abbrev pub parts_in : Book → ℕ
parts_in book = length book.counts

-- how many changes a partition has had
abbrev pub changes_of : Book → ℕ → ℕ
changes_of book part = get_or book.counts part 0

-- some record is not synced
abbrev pub HasUnsynced : Book → Type 0
HasUnsynced book = synced_of book < book.last

-- one record more of this partition passes no limit of numbers
abbrev pub HasRoom : Book → ℕ → Type 0
HasRoom book part = (book.last < 2 ^ 62 - 1) × (changes_of book part < 2 ^ 62 - 1)

-- the number among its limits that the record would pass, the list's first
abbrev pub IsWorn : Book → ℕ → Fault → Type 0
IsWorn book part fault =
    ((2 ^ 62 - 1 ≤ book.last) × (fault ≡ Worn book.last))
    ⊎ ((book.last < 2 ^ 62 - 1) × (2 ^ 62 - 1 ≤ changes_of book part) × (fault ≡ Worn (changes_of book part)))

-- the staged partition is counted, and has room
abbrev pub IsReady : ℕ → List ℕ → ℕ → Type 0
IsReady last counts part = (part < length counts) × (last < 2 ^ 62 - 1) × (get_or counts part 0 < 2 ^ 62 - 1)

-- numbers that a file may keep
abbrev pub AreKept : List ℕ → Type 0
AreKept numbers = All (λ n. n < 2 ^ 62) numbers

-- the frame of an entry as the next record
abbrev pub frame_of : Book → Entry → List ℕ
frame_of book e = frame (book.last + 1) (record_body e.0 (changes_of book e.0 + 1) e.1)

-- an entry as the next record, spelled
abbrev pub staged_of : Book → Entry → Staged
staged_of book e = record { part = e.0; frame = frame_of book e }

-- the list with 1 more at one place
abbrev pub raised_at : ℕ → List ℕ → List ℕ
raised_at place numbers = set numbers place (get_or numbers place 0 + 1)

-- the book once this entry is staged
abbrev pub after_reserve : Entry → Book → Book
after_reserve e book = record book { staged = Some (staged_of book e) }

-- the book once this entry is pushed
abbrev pub after_push : Entry → Book → Book
after_push e book = record book { last = book.last + 1; counts = raised_at e.0 book.counts; staged = None; waiting = book.waiting ++ frame_of book e }
