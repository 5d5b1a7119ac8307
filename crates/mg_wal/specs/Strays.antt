-- Logs that do not count, and what their removal keeps.
use Rattle.std.specs.Prelude.{◌≡◌, ◌≢◌, ℕ, List, None}
use Rattle.std.specs.List.{AllByRecursion, Contains}
use Rattle.mg_disk.specs.Images.{Image, View}
use Rattle.mg_disk.specs.Moments.{EachImage, LeavesOnly}
use Rattle.mg_types.specs.declared.names.Name.{Name}
use Rattle.mg_wal_format.specs.declared.record.Rec.{Rec}
use Rattle.mg_wal_format.specs.Logs.{Log}
use Rattle.mg_wal_format.specs.Recovery.{log_name, IsLess, IsStray, Opens}
use Rattle.mg_wal.specs.Book.{Book, Entry}
use Rattle.mg_wal.specs.Findings.{AreRising}
use Rattle.mg_wal.specs.Lists.{Basis}
use Rattle.mg_wal.specs.Stories.{Reaches}

-- these are the numbers of the strays of an image, in their order
pub record AreStrays (image : Image) (numbers : List ℕ) : Type 0 where
  pub rise : AreRising numbers
  pub each : AllByRecursion (λ number. IsStray image (log_name number)) numbers
  pub all : (number : ℕ) → IsStray image (log_name number) → Contains numbers number

-- these logs of the old image are gone in the new, and nothing else changed
pub record Removes (numbers : List ℕ) (old new : Image) : Type 0 where
  pub gone : AllByRecursion (λ number. new (log_name number) ≡ None) numbers
  pub elsewhere : (name : Name) → AllByRecursion (λ number. name ≢ log_name number) numbers → new name ≡ old name

-- while no log is in writing, each list is reached as it was
abbrev pub KeepsEachReach : View → View → Type 0
KeepsEachReach old new = (basis : Basis) (list : List Entry) (time reach : ℕ) (book : Book) → book.writing ≡ None → Reaches basis list time reach book old → Reaches basis list time reach book new

-- where each image was the given one without some strays, it still is, and was so at each moment
abbrev pub KeepsLess : View → View → Type 0
KeepsLess old new = (image : Image) → EachImage old (IsLess image) → LeavesOnly old new (IsLess image) × EachImage new (IsLess image)

-- the image opens for so many partitions, and has a log that is a stray
pub record OpensWithStray (parts : ℕ) (image : Image) : Type 0 where
  pub logs : List Log
  pub recs : List Rec
  pub opens : Opens parts image logs recs
  pub number : ℕ
  pub stray : IsStray image (log_name number)
