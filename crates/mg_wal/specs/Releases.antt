-- What a release makes of the book.
use Rattle.std.specs.Prelude.{◌≡◌, ℕ, ◌<◌, ◌≤◌, ◌⊎◌, List, [], ◌∷◌, ◌++◌, get_or, set, max, drop, None}
use Rattle.mg_disk.specs.Images.{Image}
use Rattle.mg_types.specs.declared.names.Name.{Name}
use Rattle.mg_wal_format.specs.Recovery.{log_name}
use Rattle.mg_wal.specs.declared.known.KnownLog.{KnownLog}
use Rattle.mg_wal.specs.Book.{Book}

-- the list with the greater of the two numbers at one place
abbrev pub raised_to : ℕ → ℕ → List ℕ → List ℕ
raised_to place number numbers = set numbers place (max (get_or numbers place 0) number)

-- the book once the first `change` changes of a partition are released
abbrev pub after_release : ℕ → ℕ → Book → Book
after_release part change book = record book { released = raised_to part change book.released }

-- of each partition as many changes are released as the head counts
abbrev pub Covers : List ℕ → List ℕ → Type 0
Covers released before = (part : ℕ) → get_or before part 0 ≤ get_or released part 0

-- the first of two logs may go: all before the second is released, and that or a later log has a sure head
pub record MayGo (book : Book) (first next : KnownLog) : Type 0 where
  pub below : first.number < book.anchor
  pub reaches : next.number ≤ book.anchor
  pub released : Covers book.released next.head.before

-- the first of these logs may go
abbrev pub FirstMayGo : Book → List KnownLog → Type 0
FirstMayGo book [] = ⊥
FirstMayGo book (first ∷ []) = ⊥
FirstMayGo book (first ∷ next ∷ logs) = MayGo book first next

-- the book without the first log
abbrev pub behind_first : Book → Book
behind_first book = record book { logs = drop 1 book.logs }

-- some of the first logs went, and nothing else changed
pub record IsCut (old new : Book) : Type 0 where
  pub cut : List KnownLog
  pub logs : old.logs ≡ cut ++ new.logs
  pub rest : new ≡ record old { logs = new.logs }

-- names stand for what they did, or were logs below the newest synced head and are gone
abbrev pub OnlyLogsGo : ℕ → Image → Image → Type 0
OnlyLogsGo anchor old new = (name : Name) → (new name ≡ old name) ⊎ ((number : ℕ) × (name ≡ log_name number) × (number < anchor) × (new name ≡ None))
