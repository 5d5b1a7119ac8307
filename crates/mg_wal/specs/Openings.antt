-- What an opening finds, and the state that it makes of it.
use Rattle.std.specs.Prelude.{◌≡◌, ℕ, Bool, ◌+◌, ◌-◌, ◌≤◌, ◌⊎◌, List, [], length, get_or, None, IsSome, Some, map}
use Rattle.mg_disk.specs.Images.{Image, NameInDoubt, NameSet, Settled, View}
use Rattle.mg_frame.specs.Frame.{NoFrame}
use Rattle.mg_wal_format.specs.declared.record.Rec.{Rec}
use Rattle.mg_wal_format.specs.Logs.{Log}
use Rattle.mg_wal_format.specs.Recovery.{end_of, first_of, log_name, low_of, Opens, last_number}
use Rattle.mg_wal.specs.declared.known.KnownLog.{KnownLog}
use Rattle.mg_wal.specs.Book.{Book, Entry}
use Rattle.mg_wal.specs.Lists.{Basis}
use Rattle.mg_wal.specs.Stories.{Reaches}

-- of the logs' numbers in an image this is the greatest, or 0
pub record IsNewestName (image : Image) (number : ℕ) : Type 0 where
  pub most : (other : ℕ) → IsSome (image (log_name other)) → other ≤ number
  pub is : (number ≡ 0) ⊎ IsSome (image (log_name number))

-- what was found is what the image gives
pub record IsFound (image : Image) (basis : Basis) : Type 0 where
  pub logs : List Log
  pub opens : Opens (length basis.low) image logs basis.opened
  pub first : basis.first ≡ first_of logs
  pub low : (part : ℕ) → get_or basis.low part 0 ≡ low_of logs part
  pub reached : basis.reached ≡ end_of logs basis.opened
  pub newest : IsNewestName image basis.newest

-- a log that was found, as a book knows it
abbrev pub log_known : Log → KnownLog
log_known log = record { number = log.number; head = log.head }

-- nothing is staged, no log is in writing, the reach is what was found, and released is what stands before the oldest log
pub record IsFresh (basis : Basis) (found : List Log) (book : Book) : Type 0 where
  pub staged : book.staged ≡ None
  pub writing : book.writing ≡ None
  pub released : book.released ≡ basis.low
  pub reach : book.reach ≡ basis.reached
  pub newest : book.newest ≡ basis.newest
  pub anchor : book.anchor ≡ last_number found
  pub logs : book.logs ≡ map log_known found

-- what was found, by the book, the records and the counts that an opening answers
abbrev pub basis_for : Book → List Rec → List ℕ → Basis
basis_for book recs low = record { low = low; first = book.last + 1 - length recs; opened = recs; reached = book.reach; newest = book.newest }

-- what an opening of this image found, and the state that it made of it
abbrev pub OpensAs : Image → Basis → Book → Type 0
OpensAs image basis book = (is : IsFound image basis) × IsFresh basis is.logs book

-- a state that was opened reaches what was found, from the moment of the settled volume on
abbrev pub OpeningReachesLaw : Type 1
OpeningReachesLaw = (L : Type 0) (basis : Basis) (book : Book) (view : View) (in_writing : L → Bool) → Settled view in_writing → ((image : Image) → view.left_since view.moment image → view.may_leave image)
    → (found : IsFound view.contents basis) → IsFresh basis found.logs book → Reaches basis [] view.moment basis.reached book view

-- a log without a whole head may be removed, also where that fails, before a log is in writing
abbrev pub StrayGoesLaw : Type 1
StrayGoesLaw = (basis : Basis) (list : List Entry) (time reach : ℕ) (book : Book) (old new : View) (number : ℕ) (bytes : List ℕ) → Reaches basis list time reach book old → old.may_leave old.contents
    → old.contents (log_name number) ≡ Some bytes → NoFrame number bytes → book.writing ≡ None
    → NameSet (log_name number) None old new ⊎ NameInDoubt (log_name number) None old new → Reaches basis list time reach book new
