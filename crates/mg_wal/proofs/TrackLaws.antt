-- What an image has of one log: its whole head and a front of its records, or no whole head.
use Rattle.std.proofs.Common.{◌≡◌, ℕ, suc, ◌+◌, ◌≤◌, ◌⊎◌, inl, inr, List, ◌++◌, length, map, Option, None, Some, refl, sym, ap, subst, ◌∙◌, arith, append_assoc}
use Rattle.std.proofs.lemmas.List.{length-append, take_all}
use Rattle.std.specs.Prelude.{IfSome, IsSome}
use Rattle.mg_disk.specs.Images.{HoldsBytes, Image}
use Rattle.mg_frame.specs.Frame.{frame, NoFrame}
use Rattle.mg_frame.specs.Frames.{frames, NoChance}
use Rattle.mg_frame.proofs.FramesLaws.{MoreChance}
use Rattle.mg_types.specs.declared.names.Name.{Name}
use Rattle.mg_wal_format.specs.declared.record.Rec.{Rec}
use Rattle.mg_wal_format.specs.Heads.{head_bytes}
use Rattle.mg_wal_format.specs.Logs.{entry_of, InOrder, Log}
use Rattle.mg_wal_format.specs.Records.{Counts}
use Rattle.mg_wal_format.specs.Recovery.{found_of, log_bytes, ByNoChance}
use Rattle.mg_wal_format.specs.Torn.{plan_entries, EndsAt, HasFront}
use Rattle.mg_wal_format.proofs.ReadingLaws.{none_is_not_found, none_is_not_some}
use Rattle.mg_wal_format.proofs.TornLaws.{TornWal}
use Rattle.mg_wal.specs.Lists.{Basis}
use Rattle.mg_wal.specs.Scenes.{name_of, EndsAsFound, IsBegunAs, IsFollowedByFound, IsLeft, IsLeftAs, IsSoundTrack, IsTorn, Track}

-- not even the head of the log is sure, and the image has no whole one
pub record IsNone (image : Image) (track : Track) : Type 0 where
  pub unsure : track.sure ≡ 0
  pub begun : IsSome track.found → ⊥
  pub none : (bytes : List ℕ) → image (name_of track) ≡ Some bytes → NoFrame track.plan.number bytes

-- the image has the head and the first `count` records of the log, and what follows is no more of it, or it is followed by another log that was found
pub record IsWhole (image : Image) (track : Track) (tracks : List Track) : Type 0 where
  pub log : Log
  pub count : ℕ
  pub rest : List ℕ
  pub there : image (name_of track) ≡ Some (log_bytes (found_of log))
  pub enough : track.sure ≤ suc count
  pub front : HasFront track.plan log count rest
  pub ends : IsFollowedByFound tracks ⊎ NoFrame (track.plan.head.first + count) rest

-- what an option has is one
pub some_one : {X : Type 0} (found : Option X) (x y : X) → found ≡ Some x → found ≡ Some y → x ≡ y
some_one found x y is is' = cc

-- what the law of one torn log says of the image
of_torn : (image : Image) (track : Track) (tracks : List Track) (bytes : List ℕ) → (IsSome track.found → ⊥) → image (name_of track) ≡ Some bytes
    → ((track.sure ≡ 0) × NoFrame track.plan.number bytes) ⊎ ((log : Log) × (count : ℕ) × (bytes ≡ log_bytes (found_of log)) × (track.sure ≤ suc count) × EndsAt track.plan log count)
    → IsNone image track ⊎ IsWhole image track tracks
of_torn image track tracks bytes begun is (inl (unsure, none)) =
    inl (record { unsure = unsure; begun = begun; none = λ other is'. subst (NoFrame track.plan.number) (some_one (image (name_of track)) bytes other is is') none })
of_torn image track tracks bytes begun is (inr (log, count, spelled, enough, ended)) =
    inr (record { log = log; count = count; rest = ended.rest; there = is ∙ ap (λ (b : List ℕ). Some b) spelled; enough = enough; front = ended.front; ends = inr ended.ends })

-- a log that the run began
begun_track : (parts : ℕ) (counts : Counts) (written : List ℕ) (image : Image) (track : Track) (tracks : List Track) (bytes more : List ℕ) → InOrder parts counts track.plan.head.first track.plan.recs
    → (IsSome track.found → ⊥) → (basis : Basis) (all : Name → List ℕ) → IsSoundTrack basis all track → frames (plan_entries track.plan) ≡ written ++ more → image (name_of track) ≡ Some bytes → length bytes ≤ length written → IsTorn track bytes
    → HoldsBytes image → NoChance bytes written → IsNone image track ⊎ IsWhole image track tracks
begun_track parts counts written image track tracks bytes more ordered begun basis all sound all_is is small torn are_bytes no_chance =
    let chance : NoChance bytes (frames (plan_entries track.plan)) = subst (NoChance bytes) (sym all_is) (MoreChance bytes written more no_chance) in
    let bound : length bytes ≤ length (frames (plan_entries track.plan)) = omega (arith, small, ap length all_is, length-append written more) in
    of_torn image track tracks bytes begun is
    (TornWal parts counts track.plan bytes torn.tail track.sure sound.number sound.head.first_is_kept sound.head.fits ordered (are_bytes (name_of track) bytes is) sound.among torn.begins bound chance)

-- a log that was found
found_track : (image : Image) (track : Track) (tracks : List Track) (rest : List ℕ) → track.sure ≡ suc (length track.plan.recs) → image (name_of track) ≡ Some (frames (plan_entries track.plan) ++ rest)
    → IsFollowedByFound tracks ⊎ NoFrame (track.plan.head.first + length track.plan.recs) rest → IsWhole image track tracks
unfolding frames
found_track image track tracks rest sure is ends =
    let plan = track.plan in
    let log : Log = record { number = plan.number; head = plan.head; rest = frames (map entry_of plan.recs) ++ rest } in
    record {
      log = log;
      count = length plan.recs;
      rest = rest;
      there = is ∙ ap (λ (b : List ℕ). Some b) (append_assoc (frame plan.number (head_bytes plan.head)) (frames (map entry_of plan.recs)) rest);
      enough = omega (arith, sure);
      front = record { number = refl; head = refl; among = omega arith; spelled = ap (λ (rs : List Rec). frames (map entry_of rs) ++ rest) (sym (take_all (length plan.recs) plan.recs (omega arith))) };
      ends = ends;
    }

track_as : (found : Option (List ℕ)) (parts : ℕ) (counts : Counts) (basis : Basis) (written : Name → List ℕ) (image : Image) (track : Track) (tracks : List Track) → track.found ≡ found
    → InOrder parts counts track.plan.head.first track.plan.recs → IsSoundTrack basis written track → IsBegunAs found basis (written (name_of track)) track
    → IfSome found (λ rest. IsFollowedByFound tracks ⊎ NoFrame (track.plan.head.first + length track.plan.recs) rest) → IsLeftAs found image track
    → ((bytes : List ℕ) → image (name_of track) ≡ Some bytes → length bytes ≤ length (written (name_of track))) → HoldsBytes image → ByNoChance image written → IsNone image track ⊎ IsWhole image track tracks
track_as None parts counts basis written image track tracks none ordered sound begun ends (inl (unsure, absent)) small are_bytes no_chance =
    inl (record { unsure = unsure; begun = none_is_not_some track.found none; none = λ bytes is. absurd (none_is_not_found (image (name_of track)) absent bytes is) })
track_as None parts counts basis written image track tracks none ordered sound begun ends (inr (bytes, is, torn)) small are_bytes no_chance =
    begun_track parts counts (written (name_of track)) image track tracks bytes begun.0.0 ordered (none_is_not_some track.found none) basis written sound begun.0.1 is (small bytes is) torn are_bytes (no_chance track.plan.number bytes is)
track_as (Some rest) parts counts basis written image track tracks some ordered sound begun ends is small are_bytes no_chance = inr (found_track image track tracks rest begun.0 is ends)

-- an image has the whole head of a log and a front of its records, with all sure ones, or no whole head
pub left_track : (parts : ℕ) (counts : Counts) (basis : Basis) (written : Name → List ℕ) (image : Image) (track : Track) (tracks : List Track)
    → InOrder parts counts track.plan.head.first track.plan.recs → IsSoundTrack basis written track → EndsAsFound track tracks → IsLeft image track
    → ((bytes : List ℕ) → image (name_of track) ≡ Some bytes → length bytes ≤ length (written (name_of track))) → HoldsBytes image → ByNoChance image written → IsNone image track ⊎ IsWhole image track tracks
left_track parts counts basis written image track tracks ordered sound ends left small are_bytes no_chance =
    track_as track.found parts counts basis written image track tracks refl ordered sound sound.begun ends left small are_bytes no_chance
