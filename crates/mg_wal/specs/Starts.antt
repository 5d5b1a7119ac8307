-- What an opening of an empty volume for two partitions finds, and what two callers make of it.
use Rattle.std.specs.Prelude.{◌≡◌, ℕ, ◌+◌, [], ◌∷◌, length}
use Rattle.mg_disk.specs.Images.{View}
use Rattle.mg_turn.specs.Passes.{IsWaiting, PassState}
use Rattle.mg_wal.specs.Book.{changes_of, parts_in, Book, Entry}
use Rattle.mg_wal.specs.Lists.{Basis, Books}
use Rattle.mg_wal.specs.Stories.{Reaches}

-- no log, for two partitions
abbrev pub at_start : Basis
at_start = record { low = 0 ∷ 0 ∷ []; first = 1; opened = []; reached = 0; newest = 0 }

-- nothing was pushed since the volume was opened, at its first moment
pub record StandsAtStart (book : Book) (view : View) : Type 0 where
  pub list : Books at_start [] book
  pub released : book.released ≡ at_start.low
  pub reaches : Reaches at_start [] 0 at_start.reached book view

-- a pass of this caller, which has met nobody and has made so many calls
pub record IsAlone (turn : _) (caller parts count : ℕ) (p : PassState Entry) : Type 0 where
  pub waits : IsWaiting turn p
  pub caller_is : p.caller ≡ caller
  pub parts_are : p.parts ≡ parts
  pub calls : length p.calls ≡ count
  pub met : p.met ≡ []

-- two partitions have had so many changes, and the list has no more
pub record HasOnly (one two : ℕ) (book : Book) : Type 0 where
  pub parts : parts_in book ≡ 2
  pub last : book.last ≡ one + two
  pub first : changes_of book 0 ≡ one
  pub second : changes_of book 1 ≡ two
