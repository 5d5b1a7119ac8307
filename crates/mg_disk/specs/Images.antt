-- What a volume holds, what a crash may leave of it, and what the calls of a volume do to both.
use Rattle.std.specs.Prelude.{◌≡◌, ◌≢◌, ◌≤◌, ◌⊎◌, ℕ, Bool, false, Option, None, Some, List, [], ◌++◌, length}
use Rattle.mg_disk.specs.Files.{IsFront, extended}
use Rattle.mg_types.specs.Bytes.{AreBytes}
use Rattle.mg_types.specs.declared.names.Name.{Name}
use Rattle.mg_types.specs.Names.{IsLogName}

-- what each name stands for: the bytes of a sealed file or of a log
abbrev pub Image : Type 0
Image = Name → Option (List ℕ)

-- what the image's names stand for are bytes
abbrev pub HoldsBytes : Image → Type 0
HoldsBytes image = (name : Name) (bytes : List ℕ) → image name ≡ Some bytes → AreBytes bytes

-- all that is said of a volume
pub record View : Type 1 where
  -- what reads give
  pub contents : Image
  -- the bytes found in or appended to each log, also after its name went
  pub written : Name → List ℕ
  -- the images that a crash now may leave
  pub may_leave : Image → Type 0
  -- the volume's clock
  pub moment : ℕ
  -- the images that a crash at some moment since that one might have left
  pub left_since : ℕ → Image → Type 0

-- Time goes on: a crash since t might have left what it might have left before, or what it may leave now.
pub record Elapses (old new : View) : Type 0 where
  pub later : old.moment ≤ new.moment
  pub nothing_else : (t : ℕ) (c : Image) → t ≤ old.moment → new.left_since t c → old.left_since t c ⊎ new.may_leave c
  pub keeps : (t : ℕ) (c : Image) → t ≤ old.moment → old.left_since t c → new.left_since t c

-- the same image but that this name stands for that
pub record Sets (name : Name) (value : Option (List ℕ)) (old new : Image) : Type 0 where
  pub at : new name ≡ value
  pub elsewhere : (other : Name) → other ≢ name → new other ≡ old other

-- each other name stands for what it stood for
abbrev pub KeepsOthers : Name → Image → Image → Type 0
KeepsOthers name old new = (other : Name) → other ≢ name → new other ≡ old other

-- the same image, or one in which this name stands for that
abbrev pub SameOrSets : Name → Option (List ℕ) → Image → Image → Type 0
SameOrSets name value old new = (new ≡ old) ⊎ Sets name value old new

-- the same image, or one in which this name stands for a front of these bytes
abbrev pub SameOrFront : Name → List ℕ → Image → Image → Type 0
SameOrFront name bytes old new = (new ≡ old) ⊎ ((front : List ℕ) × IsFront front bytes × Sets name (Some front) old new)

-- The log has more bytes in this image: what it had there, and any bytes behind, up to so many in all.
pub record Grows (name : Name) (most : ℕ) (old new : Image) : Type 0 where
  pub front : List ℕ
  pub behind : List ℕ
  pub before : old name ≡ Some front
  pub after : Sets name (Some (front ++ behind)) old new
  pub bound : length (front ++ behind) ≤ most
  pub are_bytes : AreBytes behind

-- Nothing changed, and a crash leaves nothing that it could not leave before.
pub record Stays (old new : View) : Type 0 where
  pub time : Elapses old new
  pub contents : new.contents ≡ old.contents
  pub written : new.written ≡ old.written
  pub images : (c : Image) → new.may_leave c → old.may_leave c

-- The name stands for that, after a crash too.
pub record NameSet (name : Name) (value : Option (List ℕ)) (old new : View) : Type 0 where
  pub time : Elapses old new
  pub contents : Sets name value old.contents new.contents
  pub written : new.written ≡ old.written
  pub images : (c : Image) → new.may_leave c → (d : Image) × old.may_leave d × Sets name value d c

-- The name stands for that or for what it stood for: reads give one of the two, and a crash may leave either, whichever reads give.
pub record NameInDoubt (name : Name) (value : Option (List ℕ)) (old new : View) : Type 0 where
  pub time : Elapses old new
  pub contents : (new.contents ≡ old.contents) ⊎ Sets name value old.contents new.contents
  pub written : new.written ≡ old.written
  pub images : (c : Image) → new.may_leave c → old.may_leave c ⊎ ((d : Image) × old.may_leave d × Sets name value d c)

-- These bytes stand behind the log's. A crash leaves at least what it left before of the log, and at most the whole log.
pub record Appended (name : Name) (bytes : List ℕ) (old new : View) : Type 0 where
  pub time : Elapses old new
  pub log : List ℕ
  pub found : old.contents name ≡ Some log
  pub contents : Sets name (Some (log ++ bytes)) old.contents new.contents
  pub at : new.written name ≡ old.written name ++ bytes
  pub elsewhere : (other : Name) → other ≢ name → new.written other ≡ old.written other
  pub images : (c : Image) → new.may_leave c → (d : Image) × old.may_leave d × Grows name (length (log ++ bytes)) d c

-- some front of these bytes stands behind the log's
pub record PartAppended (name : Name) (bytes : List ℕ) (old new : View) : Type 0 where
  pub front : List ℕ
  pub is_front : IsFront front bytes
  pub appended : Appended name front old new

-- an append that failed: nothing changed, or a front of the bytes stands behind the log's
abbrev pub AppendFailed : Name → List ℕ → View → View → Type 0
AppendFailed name bytes old new = Stays old new ⊎ PartAppended name bytes old new

-- These bytes stand behind the log's, as reads give it and as it counts as written, and nothing else changed of either.
pub record LogGrew (name : Name) (bytes : List ℕ) (old new : View) : Type 0 where
  pub contents : Sets name (extended (old.contents name) bytes) old.contents new.contents
  pub at : new.written name ≡ old.written name ++ bytes
  pub elsewhere : (other : Name) → other ≢ name → new.written other ≡ old.written other

-- The log grew by some front of these bytes.
abbrev pub LogGrewByFront : Name → List ℕ → View → View → Type 0
LogGrewByFront name bytes old new = (front : List ℕ) × IsFront front bytes × LogGrew name front old new

-- Nothing changed, and each crash leaves the log as it is, and the rest as it could leave it before.
pub record Synced (name : Name) (old new : View) : Type 0 where
  pub time : Elapses old new
  pub contents : new.contents ≡ old.contents
  pub written : new.written ≡ old.written
  pub images : (c : Image) → new.may_leave c → (d : Image) × old.may_leave d × Sets name (old.contents name) d c

-- the bytes, or none
abbrev pub bytes_of : Option (List ℕ) → List ℕ
bytes_of None = []
bytes_of (Some bytes) = bytes

-- A volume at rest: a crash leaves what reads give and nothing else, no log is in writing, and what was written is what the logs have.
pub record Settled {L : Type 0} (view : View) (in_writing : L → Bool) : Type 0 where
  pub image : view.may_leave view.contents
  pub only : (c : Image) → view.may_leave c → c ≡ view.contents
  pub closed : (log : L) → in_writing log ≡ false
  pub written : (name : Name) → IsLogName name → view.written name ≡ bytes_of (view.contents name)
