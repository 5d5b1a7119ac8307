-- A step of the volume that changes one log, the newest: the scene that follows, and what stays sure.
use Rattle.std.proofs.Common.{◌≡◌, ◌≢◌, ℕ, zero, suc, ◌+◌, ◌<◌, ◌≤◌, ◌⊎◌, inl, inr, List, [], ◌∷◌, ◌++◌, length, take, drop, Option, None, Some, refl, sym, ap, subst, ◌∙◌, arith, append_assoc, eqb, true, false}
use Rattle.std.proofs.lemmas.Bool.Decides.{eqb_tells}
use Rattle.std.proofs.lemmas.List.{append-nil, drop-append-le, length-append, take-append-le}
use Rattle.std.specs.List.{AllByRecursion}
use Rattle.std.specs.Prelude.{IfSome}
use Rattle.mg_disk.specs.Images.{Elapses, Image, View}
use Rattle.mg_frame.specs.Frame.{NoFrame}
use Rattle.mg_types.specs.declared.names.Name.{Name}
use Rattle.mg_wal_format.specs.declared.record.Rec.{Rec}
use Rattle.mg_wal_format.specs.Heads.{parts_of}
use Rattle.mg_wal_format.specs.Logs.{counts_after}
use Rattle.mg_wal_format.specs.Records.{Counts, counts_in}
use Rattle.mg_wal_format.specs.Recovery.{log_name}
use Rattle.mg_wal_format.proofs.LogLaws.{counts_after-append}
use Rattle.mg_wal.specs.Lists.{all_recs, Basis}
use Rattle.mg_wal.specs.Scenes.{name_of, reach_from, sure_in, AreTracks, HasNumber, IsBegunAs, IsFollowedByFound, IsGone, IsLeft, IsLeftAs, IsScene, IsSoundTrack, Scene, Shows, Track, TracksRise, scene_reach, HasSure}
use Rattle.mg_wal.specs.Times.{Follows, IsSeen, KeepsSince, KeepsAnchors}
use Rattle.mg_wal.proofs.SceneLaws.{all_behind, left_more}
use Rattle.mg_wal.proofs.TimeLaws.{step_keeps}

-- ---- lists

pub all_append : {X : Type 0} (P : X → Type 0) (xs ys : List X) → AllByRecursion P xs → AllByRecursion P ys → AllByRecursion P (xs ++ ys)
all_append P [] ys all more = more
all_append P (x ∷ xs) ys all more = (all.0, all_append P xs ys all.1 more)

pub all_first : {X : Type 0} (P : X → Type 0) (xs ys : List X) → AllByRecursion P (xs ++ ys) → AllByRecursion P xs
all_first P [] ys all = tt
all_first P (x ∷ xs) ys all = (all.0, all_first P xs ys all.1)

pub all_by : {X : Type 0} (P Q R : X → Type 0) (xs : List X) → ((x : X) → P x → Q x → R x) → AllByRecursion P xs → AllByRecursion Q xs → AllByRecursion R xs
all_by P Q R [] f all more = tt
all_by P Q R (x ∷ xs) f all more = (f x all.0 more.0, all_by P Q R xs f all.1 more.1)

pub all_take : {X : Type 0} (P : X → Type 0) (count : ℕ) (xs : List X) → AllByRecursion P xs → AllByRecursion P (take count xs)
all_take P zero xs all = tt
all_take P (suc count) [] all = tt
all_take P (suc count) (x ∷ xs) all = (all.0, all_take P count xs all.1)

-- ---- logs before the newest

-- each log has a number below this one
abbrev pub AreBelow : ℕ → List Track → Type 0
AreBelow number tracks = AllByRecursion (λ (track : Track). track.plan.number < number) tracks

pub other_name : (number other : ℕ) → other ≢ number → log_name other ≢ log_name number
other_name number other differs same = differs (ap (λ (n : Name). n.number) same)

below_differs : (track : Track) (number : ℕ) → track.plan.number < number → name_of track ≢ log_name number
below_differs track number below = other_name number track.plan.number (λ same. omega (arith, below, same))

left_as : (found : Option (List ℕ)) (old new : Image) (track : Track) → new (name_of track) ≡ old (name_of track) → IsLeftAs found old track → IsLeftAs found new track
left_as None old new track same (inl (unsure, absent)) = inl (unsure, same ∙ absent)
left_as None old new track same (inr (bytes, is, torn)) = inr (bytes, same ∙ is, torn)
left_as (Some rest) old new track same is = same ∙ is

pub left_same : (old new : Image) (track : Track) → new (name_of track) ≡ old (name_of track) → IsLeft old track → IsLeft new track
left_same old new track same left = left_as track.found old new track same left

begun_as : (found : Option (List ℕ)) (basis : Basis) (old new : List ℕ) (track : Track) → new ≡ old → IsBegunAs found basis old track → IsBegunAs found basis new track
begun_as found basis old new track same begun = subst (λ (l : List ℕ). IsBegunAs found basis l track) (sym same) begun

sound_same : (basis : Basis) (old new : Name → List ℕ) (track : Track) → new (name_of track) ≡ old (name_of track) → IsSoundTrack basis old track → IsSoundTrack basis new track
sound_same basis old new track same sound =
    record { number = sound.number; head = sound.head; fits = sound.fits; among = sound.among; begun = begun_as track.found basis (old (name_of track)) (new (name_of track)) track same sound.begun }

rise_first : (least parts : ℕ) (older tracks : List Track) → TracksRise least parts (older ++ tracks) → TracksRise least parts older
rise_first least parts [] tracks rise = tt
rise_first least parts (track ∷ older) tracks rise = (rise.0, rise.1, rise_first (track.plan.number + 1) (parts_of track.plan.head) older tracks rise.2)

-- a log above all others, whose head counts as many partitions as any
rise_append : (least parts number all : ℕ) (older : List Track) (last : Track) → last.plan.number ≡ number → parts_of last.plan.head ≡ all → TracksRise least parts older → AreBelow number older
    → AllByRecursion (λ (track : Track). parts_of track.plan.head ≤ all) older → least ≤ number → parts ≤ all → TracksRise least parts (older ++ last ∷ [])
rise_append least parts number all [] last is counts rise below fits from wide = (omega (arith, from, is), omega (arith, wide, counts), tt)
rise_append least parts number all (track ∷ older) last is counts rise below fits from wide = (
  rise.0,
  rise.1,
  rise_append (track.plan.number + 1) (parts_of track.plan.head) number all older last is counts rise.2 below.1 fits.1 (omega (arith, below.0)) fits.0,
)

followed_more : (tracks more : List Track) → IsFollowedByFound tracks → IsFollowedByFound (tracks ++ more)
followed_more [] more followed = absurd followed
followed_more (track ∷ tracks) more followed = followed

ends_as : (found : Option (List ℕ)) (track : Track) (tracks others : List Track) → (IsFollowedByFound tracks → IsFollowedByFound others)
    → IfSome found (λ rest. IsFollowedByFound tracks ⊎ NoFrame (track.plan.head.first + length track.plan.recs) rest)
    → IfSome found (λ rest. IsFollowedByFound others ⊎ NoFrame (track.plan.head.first + length track.plan.recs) rest)
ends_as None track tracks others follow ends = tt
ends_as (Some rest) track tracks others follow (inl followed) = inl (follow followed)
ends_as (Some rest) track tracks others follow (inr none) = inr none

follow_behind : (older tracks others : List Track) → (IsFollowedByFound tracks → IsFollowedByFound others) → IsFollowedByFound (older ++ tracks) → IsFollowedByFound (older ++ others)
follow_behind [] tracks others follow followed = follow followed
follow_behind (track ∷ older) tracks others follow followed = followed

-- the newest logs are replaced by others that are for the same records
pub AreTracks-replace : (counts : Counts) (number : ℕ) (recs : List Rec) (older tracks others : List Track) → (IsFollowedByFound tracks → IsFollowedByFound others)
    → ((mine rest : List Rec) (n : ℕ) → recs ≡ mine ++ rest → length mine ≡ sure_in older → n ≡ number + length mine → AreTracks (counts_after counts mine) n rest tracks → AreTracks (counts_after counts mine) n rest others)
    → AreTracks counts number recs (older ++ tracks) → AreTracks counts number recs (older ++ others)
AreTracks-replace counts number recs [] tracks others follow last are = last [] recs number refl refl (omega arith) are
AreTracks-replace counts number recs (track ∷ older) tracks others follow last are =
    let mine = are.2 in
    let later = AreTracks-replace (counts_after counts mine) (number + length mine) are.3 older tracks others follow
    (λ more rest n split more_are n_is at.
    let both : length (mine ++ more) ≡ length mine + length more = length-append mine more in
    let c : counts_after counts (mine ++ more) ≡ counts_after (counts_after counts mine) more = counts_after-append mine more counts in
    subst (λ (k : Counts). AreTracks k n rest others) c
    (last (mine ++ more) rest n (are.4 ∙ ap (λ (rs : List Rec). mine ++ rs) split ∙ sym (append_assoc mine more rest)) (omega (arith, both, are.5, more_are)) (omega (arith, both, n_is))
    (subst (λ (k : Counts). AreTracks k n rest tracks) (sym c) at))) are.6 in
    (are.0, ends_as track.found track (older ++ tracks) (older ++ others) (follow_behind older tracks others follow) are.1, mine, are.3, are.4, are.5, later)

has_first : (older tracks : List Track) (number : ℕ) → HasNumber older number → HasNumber (older ++ tracks) number
has_first [] tracks number has = absurd has
has_first (track ∷ older) tracks number (inl is) = inl is
has_first (track ∷ older) tracks number (inr behind) = inr (has_first older tracks number behind)

has_last : (older : List Track) (last : Track) (number : ℕ) → last.plan.number ≡ number → HasNumber (older ++ last ∷ []) number
has_last [] last number is = inl is
has_last (track ∷ older) last number is = inr (has_last older last number is)

-- what is among the logs is among the older ones, or it is among the newest
has_either : (older tracks : List Track) (number : ℕ) → HasNumber (older ++ tracks) number → HasNumber older number ⊎ HasNumber tracks number
has_either [] tracks number has = inr has
has_either (track ∷ older) tracks number (inl is) = inl (inl is)
has_either (track ∷ older) tracks number (inr behind) = left_more (has_either older tracks number behind)

-- ---- one step

-- The newest log, of this number, comes in place of `gone`, which is none or a log of that number, behind these older ones: each image now is one of before but for that
-- log, of which it has what may be left.
pub record IsStep (basis : Basis) (scene : Scene) (newest highest : ℕ) (old new : View) (older gone : List Track) (last : Track) : Type 0 where
  pub tracks : scene.tracks ≡ older ++ gone
  pub kept : scene.removed ≤ length older
  pub alone : (number : ℕ) → HasNumber gone number → last.plan.number ≡ number
  pub below : AreBelow last.plan.number older
  pub at_most : last.plan.number ≤ highest
  pub higher : newest ≤ highest
  pub counts : parts_of last.plan.head ≡ length basis.low
  pub follow : IsFollowedByFound gone → IsFollowedByFound (last ∷ [])
  pub are : (mine rest : List Rec) (n : ℕ) → all_recs basis scene.list ≡ mine ++ rest → length mine ≡ sure_in older → n ≡ basis.first + length mine
      → AreTracks (counts_after (counts_in basis.low) mine) n rest gone → AreTracks (counts_after (counts_in basis.low) mine) n rest (last ∷ [])
  pub elapses : Elapses old new
  pub later : List ℕ
  pub at : new.written (name_of last) ≡ old.written (name_of last) ++ later
  pub elsewhere : (name : Name) → name ≢ name_of last → new.written name ≡ old.written name
  pub sound : IsSoundTrack basis new.written last
  pub images : (image : Image) → new.may_leave image → (before : Image) × old.may_leave before × ((name : Name) → name ≢ name_of last → image name ≡ before name) × IsLeft image last
      × ((bytes : List ℕ) → image (name_of last) ≡ Some bytes → length bytes ≤ length (new.written (name_of last)))
  pub sure : (number : ℕ) → HasSure number gone → HasSure number (last ∷ [])
  pub reach : reach_from 0 (drop scene.removed older ++ gone) ≤ reach_from 0 (drop scene.removed older ++ last ∷ [])

-- the scene behind it
abbrev pub scene_behind : Scene → View → List Track → Track → Scene
scene_behind scene view older last = record scene { tracks = older ++ last ∷ []; written = view.written }

-- a number is that of the log, or its name is another
pub same_or_other : (number other : ℕ) → (other ≡ number) ⊎ (log_name other ≢ log_name number)
same_or_other number other = told number other (eqb_tells other number)
  where
    told : (number other : ℕ) → ((eqb other number ≡ true) × (other ≡ number)) ⊎ ((eqb other number ≡ false) × (other ≢ number)) → (other ≡ number) ⊎ (log_name other ≢ log_name number)
    told number other (inl same) = inl same.1
    told number other (inr differs) = inr (other_name number other differs.1)

-- what an image has of the older logs is what the image of before has
older_gone : (older : List Track) (count number : ℕ) (old new : Image) → AreBelow number older → ((name : Name) → name ≢ log_name number → new name ≡ old name)
    → AllByRecursion (IsGone old) (take count older) → AllByRecursion (IsGone new) (take count older)
older_gone older count number old new below same gone =
    all_by (λ (track : Track). track.plan.number < number) (IsGone old) (IsGone new) (take count older)
    (λ track less was. same (name_of track) (below_differs track number less) ∙ was) (all_take (λ (track : Track). track.plan.number < number) count older below) gone

older_left : (older : List Track) (count number : ℕ) (old new : Image) → AreBelow number older → ((name : Name) → name ≢ log_name number → new name ≡ old name)
    → AllByRecursion (IsLeft old) (drop count older) → AllByRecursion (IsLeft new) (drop count older)
older_left older count number old new below same left =
    all_by (λ (track : Track). track.plan.number < number) (IsLeft old) (IsLeft new) (drop count older)
    (λ track less was. left_same old new track (same (name_of track) (below_differs track number less)) was) (all_behind (λ (track : Track). track.plan.number < number) count older below) left

-- the logs of a step
record Parts (scene : Scene) (older gone : List Track) : Type 0 where
  tracks : scene.tracks ≡ older ++ gone
  kept : scene.removed ≤ length older

front_of : (scene : Scene) (older gone : List Track) (count : ℕ) → Parts scene older gone → count ≤ scene.removed → take count scene.tracks ≡ take count older
front_of scene older gone count parts few = ap (take count) parts.tracks ∙ take-append-le count older gone (omega (arith, few, parts.kept))

behind_of : (scene : Scene) (older gone : List Track) (count : ℕ) → Parts scene older gone → count ≤ scene.removed → drop count scene.tracks ≡ drop count older ++ gone
behind_of scene older gone count parts few = ap (drop count) parts.tracks ∙ drop-append-le count older gone (omega (arith, few, parts.kept))

parts_of_step : (basis : Basis) (scene : Scene) (newest highest : ℕ) (old new : View) (older gone : List Track) (last : Track) → IsStep basis scene newest highest old new older gone last → Parts scene older gone
parts_of_step basis scene newest highest old new older gone last step = record { tracks = step.tracks; kept = step.kept }

parts_behind : (basis : Basis) (scene : Scene) (newest highest : ℕ) (old new : View) (older gone : List Track) (last : Track) → IsStep basis scene newest highest old new older gone last
    → Parts (scene_behind scene new older last) older (last ∷ [])
parts_behind basis scene newest highest old new older gone last step = record { tracks = refl; kept = step.kept }

other_has : (older gone : List Track) (last : Track) (number : ℕ) → ((n : ℕ) → HasNumber gone n → last.plan.number ≡ n) → log_name number ≢ name_of last → HasNumber older number ⊎ HasNumber gone number
    → HasNumber (older ++ last ∷ []) number
other_has older gone last number alone differs (inl has) = has_first older (last ∷ []) number has
other_has older gone last number alone differs (inr has) = absurd (differs (ap log_name (sym (alone number has))))

other_known : (scene : Scene) (older gone : List Track) (last : Track) (number : ℕ) (bytes : List ℕ) → scene.tracks ≡ older ++ gone → ((n : ℕ) → HasNumber gone n → last.plan.number ≡ n)
    → log_name number ≢ name_of last → HasNumber scene.tracks number ⊎ NoFrame number bytes → HasNumber (older ++ last ∷ []) number ⊎ NoFrame number bytes
other_known scene older gone last number bytes tracks alone differs (inl has) =
    inl (other_has older gone last number alone differs (has_either older gone number (subst (λ (ts : List Track). HasNumber ts number) tracks has)))
other_known scene older gone last number bytes tracks alone differs (inr none) = inr none

bound_by : (scene : Scene) (old new : View) (last : Track) (before image : Image) (number : ℕ) (bytes : List ℕ) → scene.written ≡ old.written → ((name : Name) → name ≢ name_of last → new.written name ≡ old.written name)
    → ((name : Name) → name ≢ name_of last → image name ≡ before name) → ((bytes : List ℕ) → image (name_of last) ≡ Some bytes → length bytes ≤ length (new.written (name_of last)))
    → Shows scene before → image (log_name number) ≡ Some bytes → (number ≡ last.plan.number) ⊎ (log_name number ≢ name_of last) → length bytes ≤ length (new.written (log_name number))
bound_by scene old new last before image number bytes written elsewhere same small was is (inl equal) =
    subst (λ (n : ℕ). length bytes ≤ length (new.written (log_name n))) (sym equal) (small bytes (ap (λ (n : ℕ). image (log_name n)) (sym equal) ∙ is))
bound_by scene old new last before image number bytes written elsewhere same small was is (inr differs) =
    let bound = was.bound number bytes (sym (same (log_name number) differs) ∙ is) in
    omega (arith, bound, ap length (elsewhere (log_name number) differs), ap (λ (w : Name → List ℕ). length (w (log_name number))) written)

known_by : (scene : Scene) (older gone : List Track) (last : Track) (before image : Image) (number : ℕ) (bytes : List ℕ) → scene.tracks ≡ older ++ gone → ((n : ℕ) → HasNumber gone n → last.plan.number ≡ n)
    → ((name : Name) → name ≢ name_of last → image name ≡ before name) → Shows scene before → image (log_name number) ≡ Some bytes
    → (number ≡ last.plan.number) ⊎ (log_name number ≢ name_of last) → HasNumber (older ++ last ∷ []) number ⊎ NoFrame number bytes
known_by scene older gone last before image number bytes tracks alone same was is (inl equal) = inl (has_last older last number (sym equal))
known_by scene older gone last before image number bytes tracks alone same was is (inr differs) =
    other_known scene older gone last number bytes tracks alone differs (was.others number bytes (sym (same (log_name number) differs) ∙ is))

shows_behind : (basis : Basis) (scene : Scene) (newest highest : ℕ) (old new : View) (older gone : List Track) (last : Track) → IsSeen basis scene newest old
    → IsStep basis scene newest highest old new older gone last → (image : Image) → new.may_leave image → Shows (scene_behind scene new older last) image
shows_behind basis scene newest highest old new older gone last seen step image left =
    let i = step.images image left in
    let before = i.0 in
    let was = seen.images before i.1 in
    let parts = parts_of_step basis scene newest highest old new older gone last step in
    let parts' = parts_behind basis scene newest highest old new older gone last step in
    let absent = older_gone older was.gone last.plan.number before image step.below i.2 (subst (AllByRecursion (IsGone before)) (front_of scene older gone was.gone parts was.may_go) was.absent) in
    let all_left = all_first (IsLeft before) (drop was.gone older) gone (subst (AllByRecursion (IsLeft before)) (behind_of scene older gone was.gone parts was.may_go) was.left) in
    let older_are = older_left older was.gone last.plan.number before image step.below i.2 all_left in
    record {
      gone = was.gone;
      has_gone = was.has_gone;
      may_go = was.may_go;
      absent = subst (AllByRecursion (IsGone image)) (sym (front_of (scene_behind scene new older last) older (last ∷ []) was.gone parts' was.may_go)) absent;
      left = subst (AllByRecursion (IsLeft image)) (sym (behind_of (scene_behind scene new older last) older (last ∷ []) was.gone parts' was.may_go))
          (all_append (IsLeft image) (drop was.gone older) (last ∷ []) older_are (i.3, tt));
      bound = λ number bytes is. bound_by scene old new last before image number bytes seen.written step.elsewhere i.2 i.4 was is (same_or_other last.plan.number number);
      others = λ number bytes is. known_by scene older gone last before image number bytes step.tracks step.alone i.2 was is (same_or_other last.plan.number number);
    }

reach_behind_step : (basis : Basis) (scene : Scene) (newest highest : ℕ) (old new : View) (older gone : List Track) (last : Track) → IsStep basis scene newest highest old new older gone last
    → scene_reach scene ≤ scene_reach (scene_behind scene new older last)
reach_behind_step basis scene newest highest old new older gone last step =
    let next = scene_behind scene new older last in
    let was = ap (reach_from 0) (behind_of scene older gone scene.removed (parts_of_step basis scene newest highest old new older gone last step) (omega arith)) in
    let is = ap (reach_from 0) (behind_of next older (last ∷ []) scene.removed (parts_behind basis scene newest highest old new older gone last step) (omega arith)) in
    let r = step.reach in omega (arith, was, is, r)

-- some log stays sure
sure_behind : (basis : Basis) (scene : Scene) (newest highest : ℕ) (old new : View) (older gone : List Track) (last : Track) → IsStep basis scene newest highest old new older gone last
    → (scene.removed ≡ 0) ⊎ (1 ≤ scene_reach scene) → (scene.removed ≡ 0) ⊎ (1 ≤ scene_reach (scene_behind scene new older last))
sure_behind basis scene newest highest old new older gone last step (inl none) = inl none
sure_behind basis scene newest highest old new older gone last step (inr sure) = inr (omega (arith, sure, reach_behind_step basis scene newest highest old new older gone last step))

scene_is : (basis : Basis) (scene : Scene) (newest highest : ℕ) (old new : View) (older gone : List Track) (last : Track) → IsSeen basis scene newest old
    → IsStep basis scene newest highest old new older gone last → IsScene basis (scene_behind scene new older last)
scene_is basis scene newest highest old new older gone last seen step =
    let is = seen.is in
    let next = scene_behind scene new older last in
    let parts = parts_of_step basis scene newest highest old new older gone last step in
    let parts' = parts_behind basis scene newest highest old new older gone last step in
    let low = counts_in basis.low in
    let all = all_recs basis scene.list in
    let older_sound = all_first (IsSoundTrack basis scene.written) older gone (subst (AllByRecursion (IsSoundTrack basis scene.written)) step.tracks is.sound) in
    let sound = all_by (λ (track : Track). track.plan.number < last.plan.number) (IsSoundTrack basis scene.written) (IsSoundTrack basis new.written) older
    (λ track less was. sound_same basis scene.written new.written track (step.elsewhere (name_of track) (below_differs track last.plan.number less) ∙ ap (λ (w : Name → List ℕ). w (name_of track)) (sym seen.written)) was)
    step.below older_sound in
    let fits = all_by (λ (track : Track). track.plan.number < last.plan.number) (IsSoundTrack basis scene.written) (λ (track : Track). parts_of track.plan.head ≤ length basis.low) older
    (λ track less was. was.fits) step.below older_sound in
    let front : take scene.removed next.tracks ≡ take scene.removed scene.tracks =
    front_of next older (last ∷ []) scene.removed parts' (omega arith) ∙ sym (front_of scene older gone scene.removed parts (omega arith)) in
    record {
      in_order = is.in_order;
      tracks = AreTracks-replace low basis.first all older gone (last ∷ []) step.follow step.are (subst (AreTracks low basis.first all) step.tracks is.tracks);
      sound = all_append (IsSoundTrack basis new.written) older (last ∷ []) sound (step.sound, tt);
      rise = rise_append 0 0 last.plan.number (length basis.low) older last refl step.counts (rise_first 0 0 older gone (subst (TracksRise 0 0) step.tracks is.rise)) step.below fits (omega arith) (omega arith);
      released = λ part. omega (arith, is.released part, ap (λ (ts : List Track). counts_after low (take (sure_in ts) all) part) front);
      gone_among = is.gone_among;
      one_in_doubt = is.one_in_doubt;
      sure_left = sure_behind basis scene newest highest old new older gone last step is.sure_left;
      remains = let len : length next.tracks ≡ length older + 1 = length-append older (last ∷ []) in omega (arith, step.kept, len);
    }

seen_behind : (basis : Basis) (scene : Scene) (newest highest : ℕ) (old new : View) (older gone : List Track) (last : Track) → IsSeen basis scene newest old
    → IsStep basis scene newest highest old new older gone last → IsSeen basis (scene_behind scene new older last) highest new
seen_behind basis scene newest highest old new older gone last seen step =
    let differs : (number : ℕ) → highest < number → log_name number ≢ name_of last = λ number above. other_name last.plan.number number (λ same. omega (arith, same, above, step.at_most)) in
    let below = all_by (λ (track : Track). track.plan.number < last.plan.number) (λ (track : Track). track.plan.number < last.plan.number) (λ (track : Track). track.plan.number ≤ highest) older
    (λ track less _. let most = step.at_most in omega (arith, less, most)) step.below step.below in
    record {
      is = scene_is basis scene newest highest old new older gone last seen step;
      written = refl;
      images = shows_behind basis scene newest highest old new older gone last seen step;
      unwritten = λ number above. step.elsewhere (log_name number) (differs number above) ∙ seen.unwritten number (let h = step.higher in omega (arith, above, h));
      absent = λ number above image left.
          let i = step.images image left in
          i.2 (log_name number) (differs number above) ∙ seen.absent number (let h = step.higher in omega (arith, above, h)) i.0 i.1;
      below = all_append (λ (track : Track). track.plan.number ≤ highest) older (last ∷ []) below (step.at_most, tt);
    }

written_by : (scene : Scene) (old new : View) (last : Track) (later : List ℕ) (number : ℕ) → scene.written ≡ old.written → new.written (name_of last) ≡ old.written (name_of last) ++ later
    → ((name : Name) → name ≢ name_of last → new.written name ≡ old.written name) → (number ≡ last.plan.number) ⊎ (log_name number ≢ name_of last)
    → (more : List ℕ) × (new.written (log_name number) ≡ scene.written (log_name number) ++ more)
written_by scene old new last later number written at elsewhere (inl equal) = (
  later,
  ap (λ (n : ℕ). new.written (log_name n)) equal ∙ at ∙ ap (λ (n : ℕ). old.written (log_name n) ++ later) (sym equal) ∙ ap (λ (w : Name → List ℕ). w (log_name number) ++ later) (sym written),
)
written_by scene old new last later number written at elsewhere (inr differs) =
    ([], elsewhere (log_name number) differs ∙ ap (λ (w : Name → List ℕ). w (log_name number)) (sym written) ∙ sym (append-nil (scene.written (log_name number))))

sure_either : (number : ℕ) (older tracks : List Track) → HasSure number (older ++ tracks) → HasSure number older ⊎ HasSure number tracks
sure_either number [] tracks has = inr has
sure_either number (track ∷ older) tracks (inl is) = inl (inl is)
sure_either number (track ∷ older) tracks (inr behind) = left_more (sure_either number older tracks behind)

sure_first : (number : ℕ) (older tracks : List Track) → HasSure number older → HasSure number (older ++ tracks)
sure_first number [] tracks has = absurd has
sure_first number (track ∷ older) tracks (inl is) = inl is
sure_first number (track ∷ older) tracks (inr behind) = inr (sure_first number older tracks behind)

pub sure_last : (number : ℕ) (older tracks : List Track) → HasSure number tracks → HasSure number (older ++ tracks)
sure_last number [] tracks has = has
sure_last number (track ∷ older) tracks has = inr (sure_last number older tracks has)

sure_joined : (number : ℕ) (older gone tracks : List Track) → (HasSure number gone → HasSure number tracks) → HasSure number older ⊎ HasSure number gone → HasSure number (older ++ tracks)
sure_joined number older gone tracks follow (inl has) = sure_first number older tracks has
sure_joined number older gone tracks follow (inr has) = sure_last number older tracks (follow has)

anchors_behind : (basis : Basis) (scene : Scene) (newest highest : ℕ) (old new : View) (older gone : List Track) (last : Track) → IsStep basis scene newest highest old new older gone last
    → KeepsAnchors scene (scene_behind scene new older last)
anchors_behind basis scene newest highest old new older gone last step number has =
    let was = behind_of scene older gone scene.removed (parts_of_step basis scene newest highest old new older gone last step) (omega arith) in
    let is = behind_of (scene_behind scene new older last) older (last ∷ []) scene.removed (parts_behind basis scene newest highest old new older gone last step) (omega arith) in
    subst (HasSure number) (sym is)
    (sure_joined number (drop scene.removed older) gone (last ∷ []) (step.sure number) (sure_either number (drop scene.removed older) gone (subst (HasSure number) was has)))

-- behind a step the volume is as the next scene says, and what was sure since a moment stays so
pub step_law : (basis : Basis) (scene : Scene) (newest highest : ℕ) (old new : View) (older gone : List Track) (last : Track) → IsSeen basis scene newest old
    → IsStep basis scene newest highest old new older gone last
    → IsSeen basis (scene_behind scene new older last) highest new × KeepsSince basis scene (scene_behind scene new older last) old new × KeepsAnchors scene (scene_behind scene new older last)
step_law basis scene newest highest old new older gone last seen step =
    let next = scene_behind scene new older last in
    let seen' = seen_behind basis scene newest highest old new older gone last seen step in
    let follows : Follows scene next =
    record {
      more = [];
      list = sym (append-nil scene.list);
      released = λ part. omega arith;
      written = λ number. written_by scene old new last step.later number seen.written step.at step.elsewhere (same_or_other last.plan.number number);
    } in (
      seen',
      step_keeps basis scene next highest old new step.elapses seen' follows (reach_behind_step basis scene newest highest old new older gone last step),
      anchors_behind basis scene newest highest old new older gone last step,
    )
