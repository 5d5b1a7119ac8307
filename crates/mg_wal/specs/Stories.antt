-- What a state of the log says of its list, where its volume tells what it holds, and what calls of the volume keep of that.
use Rattle.std.specs.Prelude.{◌≡◌, ℕ, List, [], ◌∷◌, ◌++◌, Some, IfSome, Result, OnOk, OnErr, length, map, drop, ◌⊎◌}
use Rattle.mg_disk.specs.Images.{Image, View}
use Rattle.mg_frame.specs.Frames.{frames}
use Rattle.mg_types.specs.declared.names.Name.{Name}
use Rattle.mg_wal_format.specs.declared.record.Rec.{Rec}
use Rattle.mg_wal_format.specs.Recovery.{log_name}
use Rattle.mg_wal_format.specs.Torn.{plan_entries, Plan}
use Rattle.mg_wal.specs.declared.known.KnownLog.{KnownLog}
use Rattle.mg_wal.specs.Book.{Book, Entry}
use Rattle.mg_wal.specs.Lists.{before_unsynced, Basis, Books}
use Rattle.mg_wal.specs.Moves.{begun_track, grown_track, synced_track, IsGrowing, IsNextPlan}
use Rattle.mg_wal.specs.Scenes.{name_of, scene_reach, sure_in, Scene, Track, known_of, left_of, HasSure}
use Rattle.mg_wal.specs.Times.{IsSeen, KeepsSince, Since, KeepsAnchors}

-- the newest log was begun by this run, and is there with all its frames, which are sure
pub record IsWhole (scene : Scene) (image : Image) (older : List Track) (plan : Plan) : Type 0 where
  pub tracks : scene.tracks ≡ older ++ synced_track (begun_track plan) ∷ []
  pub contents : image (log_name plan.number) ≡ Some (frames (plan_entries plan))
  pub written : scene.written (log_name plan.number) ≡ frames (plan_entries plan)

-- so it is with the log of this number, which has this length
pub record IsOpenLog (scene : Scene) (image : Image) (newest len : ℕ) : Type 0 where
  pub older : List Track
  pub plan : Plan
  pub number : plan.number ≡ newest
  pub whole : IsWhole scene image older plan
  pub size : len ≡ length (frames (plan_entries plan))

-- the scene is that of the list and the book
pub record IsStory (basis : Basis) (entries : List Entry) (book : Book) (view : View) (scene : Scene) : Type 0 where
  pub seen : IsSeen basis scene book.newest view
  pub list : scene.list ≡ entries
  pub released : scene.released ≡ book.released
  pub sure : sure_in scene.tracks ≡ before_unsynced basis book
  pub reach : scene_reach scene ≡ book.reach
  pub logs : map known_of (drop scene.gone scene.tracks) ≡ book.logs
  pub anchor : ((book.reach ≡ 0) × (book.anchor ≡ 0)) ⊎ HasSure book.anchor (left_of scene)
  pub writing : IfSome book.writing (λ len. IsOpenLog scene view.contents book.newest len)

-- A scene is that of the list and the book, and each image that a crash might have left since that moment was left when every record numbered below `reach` was sure.
abbrev pub Reaches : Basis → List Entry → (time reach : ℕ) → Book → View → Type 0
Reaches basis list time reach book view = (scene : Scene) × IsStory basis list book view scene × Since basis scene view time reach

-- kept for every moment and every reach with which the state stood before, for a book that stands for the list
abbrev pub KeepsReach : Book → Book → View → View → Type 0
KeepsReach book next old new = (basis : Basis) (list : List Entry) (time reach : ℕ) → Books basis list book → Reaches basis list time reach book old → Reaches basis list time reach next new

-- ---- what calls of the volume keep

-- the volume is as a next scene says, of the same list and with these logs, and what was sure since a moment stays so
pub record Goes (basis : Basis) (scene : Scene) (newest : ℕ) (known : List KnownLog) (old new : View) (Then : Scene → Type 0) : Type 0 where
  pub next : Scene
  pub seen : IsSeen basis next newest new
  pub keeps : KeepsSince basis scene next old new
  pub list : next.list ≡ scene.list
  pub released : next.released ≡ scene.released
  pub gone : next.gone ≡ scene.gone
  pub logs : map known_of next.tracks ≡ known
  pub anchors : KeepsAnchors scene next
  pub then : Then next

-- as much is sure as before
abbrev pub IsAsSure : Scene → Scene → Type 0
IsAsSure scene next = (sure_in next.tracks ≡ sure_in scene.tracks) × (scene_reach next ≡ scene_reach scene)

-- after an Ok all of the newest log is sure, and after an error as much as before
abbrev pub Wrote : {T E : Type 0} → Basis → Scene → ℕ → List KnownLog → List Track → Plan → View → View → Result T E → Type 0
Wrote basis scene newest known older plan old new result =
    OnOk result (Goes basis scene newest known old new (λ next. IsWhole next new.contents older plan)) × OnErr result (Goes basis scene newest known old new (IsAsSure scene))

-- bytes are put behind the newest log, which is there as it was written, and it is synced
abbrev pub AppendKeeps : {T E : Type 0} → Name → List ℕ → View → View → Result T E → Type 0
AppendKeeps name bytes old new result =
    (basis : Basis) (scene : Scene) (newest : ℕ) (older : List Track) (track : Track) (recs : List Rec) → IsSeen basis scene newest old → IsGrowing basis scene older track recs bytes → name ≡ name_of track
    → old.contents name ≡ Some (scene.written name) → frames (plan_entries (grown_track track recs).plan) ≡ scene.written name ++ bytes
    → Wrote basis scene newest (map known_of scene.tracks) older (grown_track track recs).plan old new result

-- a log is begun with these bytes, and synced
abbrev pub BeginKeeps : {T E : Type 0} → ℕ → List ℕ → View → View → Result T E → Type 0
BeginKeeps number bytes old new result =
    (basis : Basis) (scene : Scene) (newest : ℕ) (plan : Plan) → IsSeen basis scene newest old → IsNextPlan basis scene newest plan → plan.number ≡ number → bytes ≡ frames (plan_entries plan)
    → Wrote basis scene number (map known_of scene.tracks ++ known_of (begun_track plan) ∷ []) scene.tracks plan old new result

-- kept where the newest log is whole and has this length, although the next sync would begin another
abbrev pub ExtendKeeps : ℕ → Book → Book → View → View → Type 0
ExtendKeeps len book next old new = (basis : Basis) (list : List Entry) (time reach : ℕ) → Books basis list book → (scene : Scene) → IsStory basis list book old scene → IsOpenLog scene old.contents book.newest len
    → Since basis scene old time reach → Reaches basis list time reach next new

-- the same as `KeepsReach`, where the list has one entry more
abbrev pub KeepsReachWith : Entry → Book → Book → View → View → Type 0
KeepsReachWith e book next old new = (basis : Basis) (list : List Entry) (time reach : ℕ) → Books basis list book → Reaches basis list time reach book old → Reaches basis (list ++ e ∷ []) time reach next new
