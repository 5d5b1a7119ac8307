-- What each call of a volume makes of the scene of its logs: a log begun, bytes appended, a log synced, nothing changed; and a list that grows.
use Rattle.std.proofs.Common.{◌≡◌, ◌≢◌, ℕ, zero, suc, ◌+◌, ◌<◌, ◌≤◌, ◌⊎◌, inl, inr, List, [], ◌∷◌, ◌++◌, length, map, take, drop, Option, None, Some, refl, sym, ap, subst, ◌∙◌, arith, append_assoc}
use Rattle.std.proofs.lemmas.List.{append-nil, drop-append-le, length-append, length-map, map-append, take-append-drop, take-append-le, take_all}
use Rattle.std.specs.List.{AllByRecursion}
use Rattle.std.specs.Prelude.{IsSome}
use Rattle.mg_disk.specs.Images.{Appended, Elapses, Image, NameInDoubt, NameSet, Sets, Stays, Synced, View}
use Rattle.mg_frame.specs.Frames.{frames}
use Rattle.mg_types.specs.declared.names.Name.{Name}
use Rattle.mg_wal_format.specs.declared.record.Rec.{Rec}
use Rattle.mg_wal_format.specs.Chains.{IsFor}
use Rattle.mg_wal_format.specs.Heads.{head_bytes, parts_of}
use Rattle.mg_wal_format.specs.Logs.{counts_after, entry_of, InOrder}
use Rattle.mg_wal_format.specs.Records.{Counts, counts_in}
use Rattle.mg_wal_format.specs.Recovery.{log_name}
use Rattle.mg_wal_format.specs.Torn.{plan_entries, Plan}
use Rattle.mg_wal_format.proofs.ReadingLaws.{none_is_not_found}
use Rattle.mg_wal.specs.Book.{Entry}
use Rattle.mg_wal.specs.Lists.{all_recs, Basis}
use Rattle.mg_wal.specs.Moves.{begun_track, grown_track, synced_track, IsGrowing, IsNextPlan}
use Rattle.mg_wal.specs.Scenes.{name_of, reach_from, reach_in, sure_in, AreTracks, HasNumber, IsBegunAs, IsLeft, IsLeftAs, IsScene, IsSoundTrack, IsTorn, Scene, Shows, Track, TracksRise, HasSure}
use Rattle.mg_wal.specs.Times.{Follows, IsSeen, KeepsSince, KeepsAnchors}
use Rattle.mg_wal.proofs.GatherLaws.{reach_below}
use Rattle.mg_wal.proofs.SceneLaws.{reach_behind, split_at}
use Rattle.mg_wal.proofs.StepLaws.{scene_behind, step_law, AreBelow, IsStep}
use Rattle.mg_wal.proofs.TrackLaws.{some_one}
use Rattle.mg_wal.proofs.TimeLaws.{all_recs-append, step_keeps, Follows-self, WasLeft-then}

-- ---- the newest log

pub last_of : {X : Type 0} (P : X → Type 0) (xs : List X) (x : X) → AllByRecursion P (xs ++ x ∷ []) → P x
last_of P [] x all = all.0
last_of P (y ∷ xs) x all = last_of P xs x all.1

pub reach_append : (before : ℕ) (older tracks : List Track) → reach_from before (older ++ tracks) ≡ reach_from (reach_from before older) tracks
reach_append before [] tracks = refl
reach_append before (track ∷ older) tracks = reach_append (reach_in before track.plan.head.first track.sure) older tracks

-- what is sure in some logs is numbered below what the next one begins with
reach_sure : (counts : Counts) (number : ℕ) (recs : List Rec) (before : ℕ) (older tracks : List Track) → AreTracks counts number recs (older ++ tracks) → before ≤ number → reach_from before older ≤ number + sure_in older
reach_sure counts number recs before [] tracks are below = omega (arith, below)
reach_sure counts number recs before (track ∷ older) tracks are below =
    let step = reach_below before track.plan.head.first number track.sure below are.0.first in
    let later = reach_sure (counts_after counts are.2) (number + length are.2) are.3 (reach_in before track.plan.head.first track.sure) older tracks are.6 (omega (arith, step, are.5)) in
    omega (arith, later, are.5)

-- the numbers of the older logs are below that of the newest
least_last : (least parts : ℕ) (older : List Track) (last : Track) → TracksRise least parts (older ++ last ∷ []) → least ≤ last.plan.number
least_last least parts [] last rise = rise.0
least_last least parts (track ∷ older) last rise = omega (arith, rise.0, least_last (track.plan.number + 1) (parts_of track.plan.head) older last rise.2)

pub below_last : (least parts : ℕ) (older : List Track) (last : Track) → TracksRise least parts (older ++ last ∷ []) → AreBelow last.plan.number older
below_last least parts [] last rise = tt
below_last least parts (track ∷ older) last rise =
    (omega (arith, least_last (track.plan.number + 1) (parts_of track.plan.head) older last rise.2), below_last (track.plan.number + 1) (parts_of track.plan.head) older last rise.2)

-- ---- a log is begun

below_all : (newest number : ℕ) (tracks : List Track) → newest < number → AllByRecursion (λ (track : Track). track.plan.number ≤ newest) tracks → AreBelow number tracks
below_all newest number [] above all = tt
below_all newest number (track ∷ tracks) above all = (omega (arith, all.0, above), below_all newest number tracks above all.1)

begun_sound : (basis : Basis) (scene : Scene) (newest : ℕ) (plan : Plan) (written : Name → List ℕ) → IsNextPlan basis scene newest plan → written (log_name plan.number) ≡ [] → IsSoundTrack basis written (begun_track plan)
begun_sound basis scene newest plan written next none =
    record {
      number = next.number;
      head = next.head;
      fits = let counts = next.counts in omega (arith, counts);
      among = omega arith;
      begun = ((frames (plan_entries plan), ap (λ (l : List ℕ). l ++ frames (plan_entries plan)) (sym none)), next.counts);
    }

-- of a log that is begun an image has no byte, or it does not have the log
record IsBegunIn (old : View) (name : Name) (image : Image) : Type 0 where
  before : Image
  left : old.may_leave before
  same : (other : Name) → other ≢ name → image other ≡ before other
  is : (image name ≡ None) ⊎ (image name ≡ Some [])

begun_left : (image : Image) (plan : Plan) → (image (log_name plan.number) ≡ None) ⊎ (image (log_name plan.number) ≡ Some []) → IsLeft image (begun_track plan)
unfolding frames
begun_left image plan (inl none) = inl (refl, none)
begun_left image plan (inr is) = inr ([], is, record { tail = []; begins = refl })

begun_small : (image : Image) (name : Name) (bound : ℕ) (bytes : List ℕ) → (image name ≡ None) ⊎ (image name ≡ Some []) → image name ≡ Some bytes → length bytes ≤ bound
begun_small image name bound bytes (inl none) is = absurd (none_is_not_found (image name) none bytes is)
begun_small image name bound bytes (inr empty) is = omega (arith, ap length (some_one (image name) [] bytes empty is))

begun_step : (basis : Basis) (scene : Scene) (newest : ℕ) (old new : View) (plan : Plan) → IsSeen basis scene newest old → IsNextPlan basis scene newest plan → Elapses old new → new.written ≡ old.written
    → ((image : Image) → new.may_leave image → IsBegunIn old (log_name plan.number) image) → IsStep basis scene newest plan.number old new scene.tracks [] (begun_track plan)
begun_step basis scene newest old new plan seen next elapses written images =
    let none : new.written (log_name plan.number) ≡ [] = ap (λ (w : Name → List ℕ). w (log_name plan.number)) written ∙ seen.unwritten plan.number next.above in
    let older = drop scene.removed scene.tracks in
    record {
      tracks = sym (append-nil scene.tracks);
      kept = let r = seen.is.remains in omega (arith, r);
      alone = λ number has. absurd has;
      below = below_all newest plan.number scene.tracks next.above seen.below;
      at_most = omega arith;
      higher = let above = next.above in omega (arith, above);
      counts = next.counts;
      follow = λ followed. absurd followed;
      are = λ mine rest n split mine_are n_is _. (
        subst (λ (k : ℕ). IsFor (counts_after (counts_in basis.low) mine) k rest plan) (sym n_is) (next.is_for mine rest split mine_are),
        tt,
        [],
        rest,
        refl,
        refl,
        tt,
      );
      elapses = elapses;
      later = [];
      at = ap (λ (w : Name → List ℕ). w (log_name plan.number)) written ∙ sym (append-nil (old.written (log_name plan.number)));
      elsewhere = λ name differs. ap (λ (w : Name → List ℕ). w name) written;
      sound = begun_sound basis scene newest plan new.written next none;
      images = λ image left.
          let i = images image left in
          (i.before, i.left, i.same, begun_left image plan i.is, λ bytes is. begun_small image (log_name plan.number) (length (new.written (log_name plan.number))) bytes i.is is);
      sure = λ number has. absurd has;
      reach = omega (arith, ap (reach_from 0) (append-nil older), reach_append 0 older (begun_track plan ∷ []));
    }

set_in : (name : Name) (old new : View) → NameSet name (Some []) old new → (image : Image) → new.may_leave image → IsBegunIn old name image
set_in name old new set image left =
    let i = set.images image left in
    record { before = i.0; left = i.1; same = i.2.elsewhere; is = inr i.2.at }

doubt_in : (name : Name) (old : View) (image : Image) → ((before : Image) → old.may_leave before → before name ≡ None)
    → old.may_leave image ⊎ ((before : Image) × old.may_leave before × Sets name (Some []) before image) → IsBegunIn old name image
doubt_in name old image absent (inl left) = record { before = image; left = left; same = λ other differs. refl; is = inl (absent image left) }
doubt_in name old image absent (inr (before, left, sets)) = record { before = before; left = left; same = sets.elsewhere; is = inr sets.at }

pub begun_move : (basis : Basis) (scene : Scene) (newest : ℕ) (old new : View) (plan : Plan) → IsSeen basis scene newest old → IsNextPlan basis scene newest plan
    → NameSet (log_name plan.number) (Some []) old new ⊎ NameInDoubt (log_name plan.number) (Some []) old new
    → IsSeen basis (scene_behind scene new scene.tracks (begun_track plan)) plan.number new × KeepsSince basis scene (scene_behind scene new scene.tracks (begun_track plan)) old new × KeepsAnchors scene (scene_behind scene new scene.tracks (begun_track plan))
begun_move basis scene newest old new plan seen next (inl set) =
    step_law basis scene newest plan.number old new scene.tracks [] (begun_track plan) seen
    (begun_step basis scene newest old new plan seen next set.time set.written (set_in (log_name plan.number) old new set))
begun_move basis scene newest old new plan seen next (inr doubt) =
    step_law basis scene newest plan.number old new scene.tracks [] (begun_track plan) seen
    (begun_step basis scene newest old new plan seen next doubt.time doubt.written (λ image left. doubt_in (log_name plan.number) old image (seen.absent plan.number next.above) (doubt.images image left)))

-- ---- bytes are appended to the newest log

-- what is known where the newest log is replaced by one of its number
record Newest (basis : Basis) (scene : Scene) (newest : ℕ) (older : List Track) (track : Track) : Type 0 where
  kept : scene.removed ≤ length older
  below : AreBelow track.plan.number older
  at_most : track.plan.number ≤ newest
  sound : IsSoundTrack basis scene.written track

newest_of : (basis : Basis) (scene : Scene) (newest : ℕ) (view : View) (older : List Track) (track : Track) → IsSeen basis scene newest view → scene.tracks ≡ older ++ track ∷ [] → Newest basis scene newest older track
newest_of basis scene newest view older track seen tracks =
    record {
      kept = let r = seen.is.remains in omega (arith, r, ap length tracks, length-append older (track ∷ []));
      below = below_last 0 0 older track (subst (TracksRise 0 0) tracks seen.is.rise);
      at_most = last_of (λ (t : Track). t.plan.number ≤ newest) older track (subst (AllByRecursion (λ (t : Track). t.plan.number ≤ newest)) tracks seen.below);
      sound = last_of (IsSoundTrack basis scene.written) older track (subst (AllByRecursion (IsSoundTrack basis scene.written)) tracks seen.is.sound);
    }

-- what an image has of the newest log
newest_left : (scene : Scene) (image : Image) (older : List Track) (track : Track) → Shows scene image → scene.tracks ≡ older ++ track ∷ [] → scene.removed ≤ length older → IsLeft image track
newest_left scene image older track shows tracks kept =
    last_of (IsLeft image) (drop shows.gone older) track
    (subst (AllByRecursion (IsLeft image)) (ap (drop shows.gone) tracks ∙ drop-append-le shows.gone older (track ∷ []) (let m = shows.may_go in omega (arith, m, kept))) shows.left)

torn_of : (found : Option (List ℕ)) (image : Image) (track : Track) (bytes : List ℕ) → found ≡ None → image (name_of track) ≡ Some bytes → IsLeftAs found image track → IsTorn track bytes
torn_of None image track bytes begun is (inl (unsure, absent)) = absurd (none_is_not_found (image (name_of track)) absent bytes is)
torn_of None image track bytes begun is (inr (other, is', torn)) = subst (IsTorn track) (some_one (image (name_of track)) other bytes is' is) torn
torn_of (Some rest) image track bytes begun is left = absurd (none_is_not_found (Some rest) begun rest refl)

same_front : (track : Track) (extra : List Rec) → track.sure ≤ suc (length track.plan.recs)
    → take track.sure (plan_entries (grown_track track (track.plan.recs ++ extra)).plan) ≡ take track.sure (plan_entries track.plan)
same_front track extra among =
    let entries = plan_entries track.plan in
    ap (λ (es : List (ℕ × List ℕ)). take track.sure ((track.plan.number, head_bytes track.plan.head) ∷ es)) (map-append entry_of track.plan.recs extra)
    ∙ take-append-le track.sure entries (map entry_of extra) (omega (arith, among, length-map track.plan.recs entry_of))

grown_torn : (track : Track) (recs extra : List Rec) (front behind : List ℕ) → recs ≡ track.plan.recs ++ extra → track.sure ≤ suc (length track.plan.recs) → IsTorn track front
    → IsTorn (grown_track track recs) (front ++ behind)
grown_torn track recs extra front behind longer among torn =
    let same : take track.sure (plan_entries (grown_track track recs).plan) ≡ take track.sure (plan_entries track.plan) =
    ap (λ (rs : List Rec). take track.sure (plan_entries (grown_track track rs).plan)) longer ∙ same_front track extra among in
    record {
      tail = torn.tail ++ behind;
      begins = ap (λ (l : List ℕ). l ++ behind) torn.begins ∙ append_assoc (frames (take track.sure (plan_entries track.plan))) torn.tail behind
          ∙ ap (λ (es : List (ℕ × List ℕ)). frames es ++ (torn.tail ++ behind)) (sym same);
    }

follow_none : (found : Option (List ℕ)) → found ≡ None → IsSome found → IsSome {T = List ℕ} None
follow_none found none some = subst IsSome none some

-- an image of before, to whose newest log bytes were added
grown_image : (basis : Basis) (scene : Scene) (newest : ℕ) (old new : View) (older : List Track) (track : Track) (recs : List Rec) (bytes : List ℕ) → IsSeen basis scene newest old
    → (growing : IsGrowing basis scene older track recs bytes) → Newest basis scene newest older track → Appended (name_of track) bytes old new → old.may_leave old.contents → (image : Image) → new.may_leave image
    → (before : Image) × old.may_leave before × ((name : Name) → name ≢ name_of track → image name ≡ before name) × IsLeft image (grown_track track recs)
    × ((more : List ℕ) → image (name_of track) ≡ Some more → length more ≤ length (new.written (name_of track)))
grown_image basis scene newest old new older track recs bytes seen growing known appended may image left =
    let i = appended.images image left in
    let before = i.0 in
    let grows = i.2 in
    let shows = seen.images before i.1 in
    let torn = torn_of track.found before track grows.front growing.begun grows.before (newest_left scene before older track shows growing.tracks known.kept) in
    let sure = known.sound.among in
    let is : image (name_of track) ≡ Some (grows.front ++ grows.behind) = grows.after.at in
    let log = (seen.images old.contents may).bound track.plan.number appended.log appended.found in (
      before,
      i.1,
      grows.after.elsewhere,
      inr (grows.front ++ grows.behind, is, grown_torn track recs growing.extra grows.front grows.behind growing.longer sure torn),
      λ more is'.
          let bound = grows.bound in
          omega (
            arith,
            bound,
            ap length (some_one (image (name_of track)) (grows.front ++ grows.behind) more is is'),
            log,
            length-append appended.log bytes,
            ap length appended.at,
            length-append (old.written (name_of track)) bytes,
            ap (λ (w : Name → List ℕ). length (w (name_of track))) seen.written,
          ),
    )

alone : (track : Track) (number : ℕ) → HasNumber (track ∷ []) number → track.plan.number ≡ number
alone track number (inl is) = is
alone track number (inr none) = absurd none

-- the head of a log that the run began counts each partition, and a front of its frames was written
begun_log : (found : Option (List ℕ)) (basis : Basis) (written : List ℕ) (track : Track) → found ≡ None → IsBegunAs found basis written track → IsBegunAs None basis written track
begun_log None basis written track none begun = begun
begun_log (Some rest) basis written track none begun = absurd (none_is_not_found (Some rest) none rest refl)

grown_step : (basis : Basis) (scene : Scene) (newest : ℕ) (old new : View) (older : List Track) (track : Track) (recs : List Rec) (bytes : List ℕ) → IsSeen basis scene newest old
    → IsGrowing basis scene older track recs bytes → Newest basis scene newest older track → Appended (name_of track) bytes old new → old.may_leave old.contents
    → IsStep basis scene newest newest old new older (track ∷ []) (grown_track track recs)
grown_step basis scene newest old new older track recs bytes seen growing known appended may =
    let sound = known.sound in
    let all = drop scene.removed older in
    record {
      tracks = growing.tracks;
      kept = known.kept;
      alone = λ number has. alone track number has;
      below = known.below;
      at_most = known.at_most;
      higher = omega arith;
      counts = (begun_log track.found basis (scene.written (name_of track)) track growing.begun sound.begun).1;
      follow = follow_none track.found growing.begun;
      are = λ mine rest n split mine_are n_is are.
          let more = growing.is_front mine rest split mine_are in (
            record { first = are.0.first; gives = are.0.gives; more = more.0; front = more.1 },
            tt,
            are.2,
            are.3,
            are.4,
            are.5,
            tt,
          );
      elapses = appended.time;
      later = bytes;
      at = appended.at;
      elsewhere = λ name differs. appended.elsewhere name differs;
      sound = record {
        number = sound.number;
        head = sound.head;
        fits = sound.fits;
        among = let a = sound.among in omega (arith, a, ap length growing.longer, length-append track.plan.recs growing.extra);
        begun = (
          (
            growing.behind,
            growing.written ∙ ap (λ (l : List ℕ). l ++ growing.behind) (ap (λ (w : Name → List ℕ). w (name_of track) ++ bytes) seen.written ∙ sym appended.at),
          ),
          (begun_log track.found basis (scene.written (name_of track)) track growing.begun sound.begun).1,
        );
      };
      images = grown_image basis scene newest old new older track recs bytes seen growing known appended may;
      sure = λ number has. has;
      reach = omega (arith, reach_append 0 all (track ∷ []), reach_append 0 all (grown_track track recs ∷ []));
    }

pub grown_move : (basis : Basis) (scene : Scene) (newest : ℕ) (old new : View) (older : List Track) (track : Track) (recs : List Rec) (bytes : List ℕ) → IsSeen basis scene newest old
    → IsGrowing basis scene older track recs bytes → Appended (name_of track) bytes old new → old.may_leave old.contents
    → IsSeen basis (scene_behind scene new older (grown_track track recs)) newest new × KeepsSince basis scene (scene_behind scene new older (grown_track track recs)) old new × KeepsAnchors scene (scene_behind scene new older (grown_track track recs))
grown_move basis scene newest old new older track recs bytes seen growing appended may =
    step_law basis scene newest newest old new older (track ∷ []) (grown_track track recs) seen
    (grown_step basis scene newest old new older track recs bytes seen growing (newest_of basis scene newest old older track seen growing.tracks) appended may)

-- ---- the newest log is synced

synced_front : (track : Track) → frames (plan_entries track.plan) ≡ frames (take (suc (length track.plan.recs)) (plan_entries track.plan)) ++ []
synced_front track =
    let entries = plan_entries track.plan in
    let len : length entries ≡ suc (length track.plan.recs) = ap suc (length-map track.plan.recs entry_of) in
    ap frames (sym (take_all (suc (length track.plan.recs)) entries (omega (arith, len)))) ∙ sym (append-nil (frames (take (suc (length track.plan.recs)) entries)))

reach_last : (before first sure count : ℕ) → before ≤ first → sure ≤ suc count → reach_in before first sure ≤ first + count
reach_last before first zero count below enough = omega (arith, below)
reach_last before first (suc sure) count below enough = omega (arith, enough)

synced_image : (basis : Basis) (scene : Scene) (newest : ℕ) (old new : View) (track : Track) → IsSeen basis scene newest old → Synced (name_of track) old new → old.may_leave old.contents
    → old.contents (name_of track) ≡ Some (frames (plan_entries track.plan)) → (image : Image) → new.may_leave image
    → (before : Image) × old.may_leave before × ((name : Name) → name ≢ name_of track → image name ≡ before name) × IsLeft image (synced_track track)
    × ((more : List ℕ) → image (name_of track) ≡ Some more → length more ≤ length (new.written (name_of track)))
synced_image basis scene newest old new track seen synced may contents image left =
    let i = synced.images image left in
    let all = frames (plan_entries track.plan) in
    let is : image (name_of track) ≡ Some all = i.2.at ∙ contents in
    let log = (seen.images old.contents may).bound track.plan.number all contents in (
      i.0,
      i.1,
      i.2.elsewhere,
      inr (all, is, record { tail = []; begins = synced_front track }),
      λ more is'.
          omega (
            arith,
            ap length (some_one (image (name_of track)) all more is is'),
            log,
            ap (λ (w : Name → List ℕ). length (w (name_of track))) seen.written,
            ap (λ (w : Name → List ℕ). length (w (name_of track))) synced.written,
          ),
    )

all_sure : (track : Track) (number : ℕ) → HasSure number (track ∷ []) → HasSure number (synced_track track ∷ [])
all_sure track number (inl is) = inl (is.0, omega arith)
all_sure track number (inr none) = absurd none

synced_step : (basis : Basis) (scene : Scene) (newest : ℕ) (old new : View) (older : List Track) (track : Track) → IsSeen basis scene newest old → scene.tracks ≡ older ++ track ∷ [] → track.found ≡ None
    → Newest basis scene newest older track → Synced (name_of track) old new → old.may_leave old.contents → old.contents (name_of track) ≡ Some (frames (plan_entries track.plan))
    → IsStep basis scene newest newest old new older (track ∷ []) (synced_track track)
synced_step basis scene newest old new older track seen tracks begun known synced may contents =
    let sound = known.sound in
    let made = begun_log track.found basis (scene.written (name_of track)) track begun sound.begun in
    let all = drop scene.removed older in
    let at = split_at (counts_in basis.low) basis.first (all_recs basis scene.list) older (track ∷ []) (subst (AreTracks (counts_in basis.low) basis.first (all_recs basis scene.list)) tracks seen.is.tracks) in
    let below = reach_sure (counts_in basis.low) basis.first (all_recs basis scene.list) 0 older (track ∷ [])
    (subst (AreTracks (counts_in basis.low) basis.first (all_recs basis scene.list)) tracks seen.is.tracks) (omega arith) in
    let fewer = reach_behind scene.removed 0 older in
    let first = at.are.0.first in
    let last = reach_last (reach_from 0 all) track.plan.head.first track.sure (length track.plan.recs) (omega (arith, below, fewer, first, at.mine_are)) sound.among in
    record {
      tracks = tracks;
      kept = known.kept;
      alone = λ number has. alone track number has;
      below = known.below;
      at_most = known.at_most;
      higher = omega arith;
      counts = made.1;
      follow = follow_none track.found begun;
      are = λ mine rest n split mine_are n_is are. (are.0, tt, track.plan.recs, are.0.more, are.0.front, refl, tt);
      elapses = synced.time;
      later = [];
      at = ap (λ (w : Name → List ℕ). w (name_of track)) synced.written ∙ sym (append-nil (old.written (name_of track)));
      elsewhere = λ name differs. ap (λ (w : Name → List ℕ). w name) synced.written;
      sound = record {
        number = sound.number;
        head = sound.head;
        fits = sound.fits;
        among = omega arith;
        begun = (
          (
            made.0.0,
            made.0.1 ∙ ap (λ (w : Name → List ℕ). w (name_of track) ++ made.0.0) (seen.written ∙ sym synced.written),
          ),
          made.1,
        );
      };
      images = synced_image basis scene newest old new track seen synced may contents;
      sure = λ number has. all_sure track number has;
      reach = omega (arith, reach_append 0 all (track ∷ []), reach_append 0 all (synced_track track ∷ []), last);
    }

pub synced_move : (basis : Basis) (scene : Scene) (newest : ℕ) (old new : View) (older : List Track) (track : Track) → IsSeen basis scene newest old → scene.tracks ≡ older ++ track ∷ [] → track.found ≡ None
    → Synced (name_of track) old new → old.may_leave old.contents → old.contents (name_of track) ≡ Some (frames (plan_entries track.plan))
    → IsSeen basis (scene_behind scene new older (synced_track track)) newest new × KeepsSince basis scene (scene_behind scene new older (synced_track track)) old new × KeepsAnchors scene (scene_behind scene new older (synced_track track))
synced_move basis scene newest old new older track seen tracks begun synced may contents =
    step_law basis scene newest newest old new older (track ∷ []) (synced_track track) seen
    (synced_step basis scene newest old new older track seen tracks begun (newest_of basis scene newest old older track seen tracks) synced may contents)

-- ---- nothing changes

pub stays_move : (basis : Basis) (scene : Scene) (newest : ℕ) (old new : View) → IsSeen basis scene newest old → Stays old new → IsSeen basis scene newest new × KeepsSince basis scene scene old new
stays_move basis scene newest old new seen stays =
    let seen' : IsSeen basis scene newest new =
    record {
      is = seen.is;
      written = seen.written ∙ sym stays.written;
      images = λ image left. seen.images image (stays.images image left);
      unwritten = λ number above. ap (λ (w : Name → List ℕ). w (log_name number)) stays.written ∙ seen.unwritten number above;
      absent = λ number above image left. seen.absent number above image (stays.images image left);
      below = seen.below;
    } in
    (seen', step_keeps basis scene scene newest old new stays.time seen' (Follows-self scene) (omega arith))

-- ---- the list grows

AreTracks-more : (counts : Counts) (number : ℕ) (recs more : List Rec) (tracks : List Track) → AreTracks counts number recs tracks → AreTracks counts number (recs ++ more) tracks
AreTracks-more counts number recs more [] are = tt
AreTracks-more counts number recs more (track ∷ tracks) are = (
  record {
    first = are.0.first;
    gives = are.0.gives;
    more = are.0.more ++ more;
    front = ap (λ (rs : List Rec). rs ++ more) are.0.front ∙ append_assoc track.plan.recs are.0.more more;
  },
  are.1,
  are.2,
  are.3 ++ more,
  ap (λ (rs : List Rec). rs ++ more) are.4 ∙ append_assoc are.2 are.3 more,
  are.5,
  AreTracks-more (counts_after counts are.2) (number + length are.2) are.3 more tracks are.6,
)

-- the scene of a longer list
abbrev pub scene_with : Scene → List Entry → Scene
scene_with scene list = record scene { list = list }

with_shows : (scene : Scene) (list : List Entry) (image : Image) → Shows scene image → Shows (scene_with scene list) image
with_shows scene list image shows = record { gone = shows.gone; has_gone = shows.has_gone; may_go = shows.may_go; absent = shows.absent; left = shows.left; bound = shows.bound; others = shows.others }

sure_among : (basis : Basis) (scene : Scene) → IsScene basis scene → sure_in (take scene.removed scene.tracks) ≤ length (all_recs basis scene.list)
sure_among basis scene is =
    let all = all_recs basis scene.list in
    let at = split_at (counts_in basis.low) basis.first all (take scene.removed scene.tracks) (drop scene.removed scene.tracks)
    (subst (AreTracks (counts_in basis.low) basis.first all) (sym (take-append-drop scene.removed scene.tracks)) is.tracks) in
    omega (arith, at.mine_are, ap length at.split, length-append at.mine at.others)

with_is : (basis : Basis) (scene : Scene) (more : List Entry) → IsScene basis scene → InOrder (length basis.low) (counts_in basis.low) basis.first (all_recs basis (scene.list ++ more))
    → IsScene basis (scene_with scene (scene.list ++ more))
with_is basis scene more is ordered =
    let longer = all_recs-append basis scene.list more in
    let sure = sure_in (take scene.removed scene.tracks) in
    let low = counts_in basis.low in
    let front : take sure (all_recs basis (scene.list ++ more)) ≡ take sure (all_recs basis scene.list) =
    ap (take sure) longer.1 ∙ take-append-le sure (all_recs basis scene.list) longer.0 (sure_among basis scene is) in
    record {
      in_order = ordered;
      tracks = subst (λ (rs : List Rec). AreTracks low basis.first rs scene.tracks) (sym longer.1) (AreTracks-more low basis.first (all_recs basis scene.list) longer.0 scene.tracks is.tracks);
      sound = is.sound;
      rise = is.rise;
      released = λ part. omega (arith, is.released part, ap (λ (rs : List Rec). counts_after low rs part) front);
      remains = is.remains;
      gone_among = is.gone_among;
      one_in_doubt = is.one_in_doubt;
      sure_left = is.sure_left;
    }

with_follows : (scene : Scene) (more : List Entry) → Follows scene (scene_with scene (scene.list ++ more))
with_follows scene more = record { more = more; list = refl; released = λ part. omega arith; written = λ number. ([], sym (append-nil (scene.written (log_name number)))) }

pub longer_move : (basis : Basis) (scene : Scene) (newest : ℕ) (view : View) (more : List Entry) → IsSeen basis scene newest view
    → InOrder (length basis.low) (counts_in basis.low) basis.first (all_recs basis (scene.list ++ more))
    → IsSeen basis (scene_with scene (scene.list ++ more)) newest view × KeepsSince basis scene (scene_with scene (scene.list ++ more)) view view
longer_move basis scene newest view more seen ordered =
    let next = scene_with scene (scene.list ++ more) in (
      record {
        is = with_is basis scene more seen.is ordered;
        written = seen.written;
        images = λ image left. with_shows scene (scene.list ++ more) image (seen.images image left);
        unwritten = seen.unwritten;
        absent = seen.absent;
        below = seen.below;
      },
      λ time reach since.
          record {
            past = since.past;
            enough = since.enough;
            images = λ image left. WasLeft-then basis scene next reach image (with_follows scene more) (since.images image left);
          },
    )
