-- What each call of a volume makes of the newest log.
use Rattle.std.specs.Prelude.{◌≡◌, ℕ, suc, ◌+◌, ◌<◌, ◌^◌, List, [], ◌∷◌, ◌++◌, length, None}
use Rattle.mg_frame.specs.Frames.{frames}
use Rattle.mg_wal_format.specs.declared.record.Rec.{Rec}
use Rattle.mg_wal_format.specs.Chains.{IsFor}
use Rattle.mg_wal_format.specs.Heads.{parts_of, IsSoundHead}
use Rattle.mg_wal_format.specs.Logs.{counts_after}
use Rattle.mg_wal_format.specs.Records.{counts_in}
use Rattle.mg_wal_format.specs.Torn.{plan_entries, Plan}
use Rattle.mg_wal.specs.Lists.{all_recs, Basis}
use Rattle.mg_wal.specs.Scenes.{name_of, sure_in, Scene, Track}

-- a log that is begun: not even its head is sure
abbrev pub begun_track : Plan → Track
begun_track plan = record { plan = plan; sure = 0; found = None }

-- a log to which more records are to be written
abbrev pub grown_track : Track → List Rec → Track
grown_track track recs = record { plan = record { number = track.plan.number; head = track.plan.head; recs = recs }; sure = track.sure; found = None }

-- a log all of whose frames are sure
abbrev pub synced_track : Track → Track
synced_track track = record { plan = track.plan; sure = suc (length track.plan.recs); found = None }

-- a log above all others, for the records behind the sure ones of all logs, whose head counts each partition
pub record IsNextPlan (basis : Basis) (scene : Scene) (newest : ℕ) (plan : Plan) : Type 0 where
  pub above : newest < plan.number
  pub number : plan.number < 2 ^ 62
  pub head : IsSoundHead plan.head
  pub counts : parts_of plan.head ≡ length basis.low
  pub is_for : (mine rest : List Rec) → all_recs basis scene.list ≡ mine ++ rest → length mine ≡ sure_in scene.tracks
      → IsFor (counts_after (counts_in basis.low) mine) (basis.first + length mine) rest plan

-- these bytes, behind what was written to the newest log, are a front of what is to be written for these records, of which it had some
pub record IsGrowing (basis : Basis) (scene : Scene) (older : List Track) (track : Track) (recs : List Rec) (bytes : List ℕ) : Type 0 where
  pub tracks : scene.tracks ≡ older ++ track ∷ []
  pub begun : track.found ≡ None
  pub extra : List Rec
  pub longer : recs ≡ track.plan.recs ++ extra
  pub is_front : (mine rest : List Rec) → all_recs basis scene.list ≡ mine ++ rest → length mine ≡ sure_in older → (more : List Rec) × (rest ≡ recs ++ more)
  pub behind : List ℕ
  pub written : frames (plan_entries (grown_track track recs).plan) ≡ (scene.written (name_of track) ++ bytes) ++ behind
