-- The one list of changes, as records behind those that the opening counted, and what a book says of it.
use Rattle.std.specs.Prelude.{◌≡◌, ℕ, ◌+◌, ◌-◌, ◌≤◌, ◌⊎◌, List, [], ◌∷◌, ◌++◌, length, get_or, map, take, drop, IfSome}
use Rattle.mg_frame.specs.Frames.{frames}
use Rattle.mg_wal_format.specs.declared.record.Rec.{Rec}
use Rattle.mg_wal_format.specs.Logs.{counts_after, entry_of, one_more, InOrder}
use Rattle.mg_wal_format.specs.Records.{Counts, counts_in}
use Rattle.mg_wal.specs.Book.{changes_of, parts_in, staged_of, synced_of, Book, Entry}

-- what the opening found
pub record Basis : Type 0 where
  -- for each partition asked for, how many changes it had before the oldest log
  pub low : List ℕ
  -- the number of the first record; 1 without a log
  pub first : ℕ
  -- the records that were counted
  pub opened : List Rec
  -- the number after the last of them; 0 without a log
  pub reached : ℕ
  -- the greatest number of a log's name, strays among them; 0 without one
  pub newest : ℕ

-- the record of an entry with this number, behind these counts
abbrev pub rec_of : Counts → ℕ → Entry → Rec
rec_of counts number e = record { number = number; part = e.0; change = counts e.0 + 1; what = e.1 }

-- the records of a list, behind these counts and from this number on
abbrev pub recs_of : Counts → ℕ → List Entry → List Rec
recs_of counts number [] = []
recs_of counts number (e ∷ es) = rec_of counts number e ∷ recs_of (one_more counts e.0) (number + 1) es

-- the number after the records that the opening counted
abbrev pub next_of : Basis → ℕ
next_of basis = basis.first + length basis.opened

-- the last of the numbers of the records that the opening counted
abbrev pub last_opened : Basis → ℕ
last_opened basis = next_of basis - 1

-- the counts behind the records that the opening counted
abbrev pub opened_counts : Basis → Counts
opened_counts basis = counts_after (counts_in basis.low) basis.opened

-- the records that the opening counted, and behind them those of the list
abbrev pub all_recs : Basis → List Entry → List Rec
all_recs basis list = basis.opened ++ recs_of (opened_counts basis) (next_of basis) list

-- how many of the records stand before those that no sync made sure
abbrev pub before_unsynced : Basis → Book → ℕ
before_unsynced basis book = synced_of book + 1 - basis.first

-- the records that no sync made sure
abbrev pub unsynced : Basis → List Entry → Book → List Rec
unsynced basis list book = drop (before_unsynced basis book) (all_recs basis list)

-- the counts before these
abbrev pub synced_counts : Basis → List Entry → Book → Counts
synced_counts basis list book = counts_after (counts_in basis.low) (take (before_unsynced basis book) (all_recs basis list))

-- the entry may stand as the next record
abbrev pub IsNextOf : Book → Entry → Type 0
IsNextOf book e = InOrder (parts_in book) (counts_in book.counts) (book.last + 1) (rec_of (counts_in book.counts) (book.last + 1) e ∷ [])

-- no log was found
abbrev pub IsEmpty : Basis → Type 0
IsEmpty basis = (basis.reached ≡ 0) × (basis.first ≡ 1) × (basis.opened ≡ []) × ((part : ℕ) → get_or basis.low part 0 ≡ 0)

-- Over every volume: the book is that of this list.
pub record Books (basis : Basis) (list : List Entry) (book : Book) : Type 0 where
  pub first : 1 ≤ basis.first
  pub reached : IsEmpty basis ⊎ (basis.reached ≡ next_of basis)
  pub in_order : InOrder (length basis.low) (counts_in basis.low) basis.first (all_recs basis list)
  pub last : book.last + 1 ≡ basis.first + length (all_recs basis list)
  pub parts : parts_in book ≡ length basis.low
  pub changes : (part : ℕ) → changes_of book part ≡ counts_after (counts_in basis.low) (all_recs basis list) part
  pub synced_parts : length book.synced ≡ parts_in book
  pub synced : (part : ℕ) → get_or book.synced part 0 ≡ synced_counts basis list book part
  pub low_is_released : (part : ℕ) → get_or basis.low part 0 ≤ get_or book.released part 0
  pub released : (part : ℕ) → get_or book.released part 0 ≤ changes_of book part
  pub staged : IfSome book.staged (λ staged. (e : Entry) × IsNextOf book e × (staged ≡ staged_of book e))
  pub waiting : book.waiting ≡ frames (map entry_of (unsynced basis list book))
  pub reach : (basis.reached ≤ book.reach) × (book.reach ≤ book.last + 1)
  pub newest : (basis.newest ≤ book.newest) × (book.anchor ≤ book.newest)

-- kept for every list for which the book stood
abbrev pub KeepsBooks : Book → Book → Type 0
KeepsBooks old new = (basis : Basis) (list : List Entry) → Books basis list old → Books basis list new

-- the same, where the list has one entry more
abbrev pub KeepsBooksWith : Entry → Book → Book → Type 0
KeepsBooksWith e old new = (basis : Basis) (list : List Entry) → Books basis list old → Books basis (list ++ e ∷ []) new
