-- What every image since a moment opens to, and what the steps of a volume keep of that.
use Rattle.std.specs.Prelude.{◌≡◌, ℕ, ◌<◌, ◌≤◌, List, [], ◌++◌, get_or, None}
use Rattle.std.specs.List.{AllByRecursion}
use Rattle.mg_disk.specs.Images.{HoldsBytes, Image, View}
use Rattle.mg_wal_format.specs.Recovery.{log_name, ByNoChance}
use Rattle.mg_wal.specs.Book.{Entry}
use Rattle.mg_wal.specs.Lists.{Basis}
use Rattle.mg_wal.specs.Scenes.{scene_reach, IsScene, LeavesPrefix, Scene, Shows, left_of, HasSure}

-- later the list is no shorter, no less is released and no less is written
pub record Follows (old new : Scene) : Type 0 where
  pub more : List Entry
  pub list : new.list ≡ old.list ++ more
  pub released : (part : ℕ) → get_or old.released part 0 ≤ get_or new.released part 0
  pub written : (number : ℕ) → (later : List ℕ) × (new.written (log_name number) ≡ old.written (log_name number) ++ later)

-- the volume is as the scene says, and has no log above this number
pub record IsSeen (basis : Basis) (scene : Scene) (newest : ℕ) (view : View) : Type 0 where
  pub is : IsScene basis scene
  pub written : scene.written ≡ view.written
  pub images : (image : Image) → view.may_leave image → Shows scene image
  pub unwritten : (number : ℕ) → newest < number → view.written (log_name number) ≡ []
  pub absent : (number : ℕ) → newest < number → (image : Image) → view.may_leave image → image (log_name number) ≡ None
  pub below : AllByRecursion (λ track. track.plan.number ≤ newest) scene.tracks

-- the image was left at some moment up to this scene's, when so much was sure
pub record WasLeft (basis : Basis) (scene : Scene) (reach : ℕ) (image : Image) : Type 0 where
  pub past : Scene
  pub is : IsScene basis past
  pub shows : Shows past image
  pub enough : reach ≤ scene_reach past
  pub follows : Follows past scene

-- each image that a crash might have left since that moment was left when so much was sure, which is not more than is now
pub record Since (basis : Basis) (scene : Scene) (view : View) (time reach : ℕ) : Type 0 where
  pub past : time ≤ view.moment
  pub enough : reach ≤ scene_reach scene
  pub images : (image : Image) → view.left_since time image → WasLeft basis scene reach image

-- what was sure since a moment stays so
abbrev pub KeepsSince : Basis → Scene → Scene → View → View → Type 0
KeepsSince basis scene next old new = (time reach : ℕ) → Since basis scene old time reach → Since basis next new time reach

-- the logs with a sure head that are not removed still are
abbrev pub KeepsAnchors : Scene → Scene → Type 0
KeepsAnchors scene next = (number : ℕ) → HasSure number (left_of scene) → HasSure number (left_of next)

-- each image since a moment opens to a front of the list that has what was sure then, unless a frame of it is whole by chance
abbrev pub SinceOpensLaw : Type 1
SinceOpensLaw = (basis : Basis) (scene : Scene) (view : View) (time reach : ℕ) (image : Image) → Since basis scene view time reach → view.left_since time image → HoldsBytes image
    → ByNoChance image scene.written → LeavesPrefix basis scene.released scene.list reach image

-- what is sure at a moment is so from this moment on
abbrev pub SinceNowLaw : Type 1
SinceNowLaw = (basis : Basis) (scene : Scene) (newest : ℕ) (view : View) → IsSeen basis scene newest view → ((image : Image) → view.left_since view.moment image → view.may_leave image)
    → Since basis scene view view.moment (scene_reach scene)
