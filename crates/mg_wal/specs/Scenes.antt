-- What a crash at one moment may leave of the logs of a list, and what each such image opens to.
use Rattle.std.specs.Prelude.{◌≡◌, ℕ, zero, suc, ◌+◌, ◌-◌, ◌<◌, ◌≤◌, ◌^◌, ◌⊎◌, List, [], ◌∷◌, ◌++◌, length, get_or, take, drop, Option, None, Some, IfSome, IsSome, ⊤}
use Rattle.std.specs.List.{AllByRecursion}
use Rattle.mg_disk.specs.Images.{HoldsBytes, Image}
use Rattle.mg_frame.specs.Frame.{NoFrame}
use Rattle.mg_frame.specs.Frames.{frames}
use Rattle.mg_types.specs.declared.names.Name.{Name}
use Rattle.mg_wal_format.specs.declared.record.Rec.{Rec}
use Rattle.mg_wal_format.specs.Chains.{IsFor}
use Rattle.mg_wal_format.specs.Heads.{parts_of, IsSoundHead}
use Rattle.mg_wal_format.specs.Logs.{counts_after, InOrder, Log}
use Rattle.mg_wal_format.specs.Records.{Counts, counts_in}
use Rattle.mg_wal_format.specs.Opening.{BeginsBehind}
use Rattle.mg_wal_format.specs.Recovery.{end_of, first_of, log_name, low_of, ByNoChance, Opens}
use Rattle.mg_wal_format.specs.Torn.{plan_entries, Plan}
use Rattle.mg_wal.specs.declared.known.KnownLog.{KnownLog}
use Rattle.mg_wal.specs.Book.{Entry}
use Rattle.mg_wal.specs.Lists.{all_recs, Basis}

-- a log that the run began, or that its opening found
pub record Track : Type 0 where
  -- what was to be written to it
  pub plan : Plan
  -- so many of its frames, the head's among them, each crash leaves while the log is not removed
  pub sure : ℕ
  -- what stands behind the records of a log that was found; None of a log that the run began
  pub found : Option (List ℕ)

-- the log as a book knows it
abbrev pub known_of : Track → KnownLog
known_of track = record { number = track.plan.number; head = track.plan.head }

-- the name of the log
abbrev pub name_of : Track → Name
name_of track = log_name track.plan.number

-- so many records stand behind a head that is one of so many frames; none without a head
abbrev pub behind_head : ℕ → ℕ
behind_head zero = zero
behind_head (suc count) = count

-- the log is there with its sure frames
pub record IsTorn (track : Track) (bytes : List ℕ) : Type 0 where
  pub tail : List ℕ
  pub begins : bytes ≡ frames (take track.sure (plan_entries track.plan)) ++ tail

-- what an image has of a log that is not removed: a log that was found is as it was found; one that the run began is torn, or it is not there where not even
-- its head is sure
abbrev pub IsLeftAs : Option (List ℕ) → Image → Track → Type 0
IsLeftAs None image track = ((track.sure ≡ 0) × (image (name_of track) ≡ None)) ⊎ ((bytes : List ℕ) × (image (name_of track) ≡ Some bytes) × IsTorn track bytes)
IsLeftAs (Some rest) image track = image (name_of track) ≡ Some (frames (plan_entries track.plan) ++ rest)

abbrev pub IsLeft : Image → Track → Type 0
IsLeft image track = IsLeftAs track.found image track

-- all of a log that was found is sure, and its number is at most the greatest that was found; to a log that the run began a front of its frames was written, and
-- its head counts each partition
abbrev pub IsBegunAs : Option (List ℕ) → Basis → List ℕ → Track → Type 0
IsBegunAs None basis written track = ((more : List ℕ) × (frames (plan_entries track.plan) ≡ written ++ more)) × (parts_of track.plan.head ≡ length basis.low)
IsBegunAs (Some rest) basis written track = (track.sure ≡ suc (length track.plan.recs)) × (track.plan.number ≤ basis.newest)

-- a log whose numbers a file may keep
pub record IsSoundTrack (basis : Basis) (written : Name → List ℕ) (track : Track) : Type 0 where
  pub number : track.plan.number < 2 ^ 62
  pub head : IsSoundHead track.plan.head
  pub fits : parts_of track.plan.head ≤ length basis.low
  pub among : track.sure ≤ suc (length track.plan.recs)
  pub begun : IsBegunAs track.found basis (written (name_of track)) track

-- behind the records of the last log that was found no frame of the next number begins
abbrev pub IsFollowedByFound : List Track → Type 0
IsFollowedByFound [] = ⊥
IsFollowedByFound (next ∷ tracks) = IsSome next.found

abbrev pub EndsAsFound : Track → List Track → Type 0
EndsAsFound track tracks = IfSome track.found (λ rest. IsFollowedByFound tracks ⊎ NoFrame (track.plan.head.first + length track.plan.recs) rest)

-- the logs were to be written for these records, each from the first record on that the log before does not have for sure
abbrev pub AreTracks : Counts → ℕ → List Rec → List Track → Type 0
AreTracks counts number recs [] = ⊤
AreTracks counts number recs (track ∷ tracks) = IsFor counts number recs track.plan × EndsAsFound track tracks
    × (mine : List Rec) × (others : List Rec) × (recs ≡ mine ++ others) × (length mine ≡ behind_head track.sure)
    × AreTracks (counts_after counts mine) (number + length mine) others tracks

-- the numbers of logs rise from this one on, and no head counts fewer partitions than the one before, or than so many
abbrev pub TracksRise : ℕ → ℕ → List Track → Type 0
TracksRise number parts [] = ⊤
TracksRise number parts (track ∷ tracks) = (number ≤ track.plan.number) × (parts ≤ parts_of track.plan.head) × TracksRise (track.plan.number + 1) (parts_of track.plan.head) tracks

-- the number after the last sure record of a log that begins with `first`, where it was `before` in front of the log
abbrev pub reach_in : ℕ → ℕ → ℕ → ℕ
reach_in before first zero = before
reach_in before first (suc count) = first + count

-- the number after the last sure record of these logs, where it was `before` in front of them
abbrev pub reach_from : ℕ → List Track → ℕ
reach_from before [] = before
reach_from before (track ∷ tracks) = reach_from (reach_in before track.plan.head.first track.sure) tracks

-- how many records are sure to stand in these logs, each in one
abbrev pub sure_in : List Track → ℕ
sure_in [] = 0
sure_in (track ∷ tracks) = behind_head track.sure + sure_in tracks

-- all that is said of the logs at one moment
pub record Scene : Type 0 where
  -- those that the opening found and the run began, in the order of their numbers
  pub tracks : List Track
  -- so many of the oldest are in no image any more
  pub gone : ℕ
  -- and so many may be gone
  pub removed : ℕ
  -- the list behind the records that the opening counted
  pub list : List Entry
  -- for each partition, how many of its changes it needs no more
  pub released : List ℕ
  -- the bytes that were found in or written to each log
  pub written : Name → List ℕ

-- the number after the last record that is sure at this moment; 0 where no log that is left is sure
abbrev pub scene_reach : Scene → ℕ
scene_reach scene = reach_from 0 (drop scene.removed scene.tracks)

-- the logs that are not removed
abbrev pub left_of : Scene → List Track
left_of scene = drop scene.removed scene.tracks

-- one of the logs has this number, and its head is sure
abbrev pub HasSure : ℕ → List Track → Type 0
HasSure number [] = ⊥
HasSure number (track ∷ tracks) = ((track.plan.number ≡ number) × (1 ≤ track.sure)) ⊎ HasSure number tracks

-- the counts before the first log that is not removed
abbrev pub counts_at : Basis → Scene → Counts
counts_at basis scene = counts_after (counts_in basis.low) (take (sure_in (take scene.removed scene.tracks)) (all_recs basis scene.list))

-- The logs were to be written for the list, and the removed ones have only records of released changes. The newest is not removed, behind removed ones some log
-- is sure, and of at most one log it is in doubt whether it is gone.
pub record IsScene (basis : Basis) (scene : Scene) : Type 0 where
  pub in_order : InOrder (length basis.low) (counts_in basis.low) basis.first (all_recs basis scene.list)
  pub tracks : AreTracks (counts_in basis.low) basis.first (all_recs basis scene.list) scene.tracks
  pub sound : AllByRecursion (IsSoundTrack basis scene.written) scene.tracks
  pub rise : TracksRise 0 0 scene.tracks
  pub released : (part : ℕ) → counts_at basis scene part ≤ get_or scene.released part 0
  pub remains : scene.removed ≤ length scene.tracks - 1
  pub gone_among : scene.gone ≤ scene.removed
  pub one_in_doubt : scene.removed ≤ scene.gone + 1
  pub sure_left : (scene.removed ≡ 0) ⊎ (1 ≤ scene_reach scene)

-- one of the logs has this number
abbrev pub HasNumber : List Track → ℕ → Type 0
HasNumber [] number = ⊥
HasNumber (track ∷ tracks) number = (track.plan.number ≡ number) ⊎ HasNumber tracks number

-- the log is not there
abbrev pub IsGone : Image → Track → Type 0
IsGone image track = image (name_of track) ≡ None

-- an image that a crash at this moment may leave: some of the oldest logs are gone, the others are left, no log is longer than what was written to it, and one
-- that is none of these has no whole head
pub record Shows (scene : Scene) (image : Image) : Type 0 where
  pub gone : ℕ
  pub has_gone : scene.gone ≤ gone
  pub may_go : gone ≤ scene.removed
  pub absent : AllByRecursion (IsGone image) (take gone scene.tracks)
  pub left : AllByRecursion (IsLeft image) (drop gone scene.tracks)
  pub bound : (number : ℕ) (bytes : List ℕ) → image (log_name number) ≡ Some bytes → length bytes ≤ length (scene.written (log_name number))
  pub others : (number : ℕ) (bytes : List ℕ) → image (log_name number) ≡ Some bytes → HasNumber scene.tracks number ⊎ NoFrame number bytes

-- The image opens to records of the list at their numbers, cut in front only at what was released, at least up to the number before `reach`. Each of its
-- logs that the run began counts each partition.
pub record LeavesPrefix (basis : Basis) (released : List ℕ) (list : List Entry) (reach : ℕ) (image : Image) : Type 0 where
  pub logs : List Log
  pub skipped : List Rec
  pub recs : List Rec
  pub more : List Rec
  pub opens : Opens (length basis.low) image logs recs
  pub among : all_recs basis list ≡ skipped ++ (recs ++ more)
  pub at : ((logs ≡ []) × (skipped ≡ [])) ⊎ (first_of logs ≡ basis.first + length skipped)
  pub low : (logs ≡ []) ⊎ ((part : ℕ) → low_of logs part ≡ counts_after (counts_in basis.low) skipped part)
  pub gone : (part : ℕ) → low_of logs part ≤ get_or released part 0
  pub reaches : reach ≤ end_of logs recs
  pub named : AllByRecursion (λ log. (log.number ≤ basis.newest) ⊎ (parts_of log.head ≡ length basis.low)) logs

-- of an image that opens so, each log begins behind a front of all records, and its head gives the number and the counts there
abbrev pub HeadsCountLaw : Type 0
HeadsCountLaw = (basis : Basis) (released : List ℕ) (list : List Entry) (reach : ℕ) (image : Image) (prefix : LeavesPrefix basis released list reach image)
    → AllByRecursion (λ log. BeginsBehind (counts_in basis.low) basis.first (all_recs basis list) log) prefix.logs

-- each image that a crash at this moment may leave opens to a front of the list that has every sure record, unless a frame of it is whole by chance
abbrev pub SceneOpensLaw : Type 0
SceneOpensLaw = (basis : Basis) (scene : Scene) (image : Image) → IsScene basis scene → Shows scene image → HoldsBytes image → ByNoChance image scene.written
    → LeavesPrefix basis scene.released scene.list (scene_reach scene) image
