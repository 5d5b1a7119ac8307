-- A log without a whole head may go: nothing of the list is in it.
use Rattle.std.proofs.Common.{◌≡◌, ◌≢◌, ℕ, zero, suc, ◌<◌, ◌^◌, ◌⊎◌, inl, inr, List, [], ◌∷◌, ◌++◌, length, map, take, drop, Option, None, Some, refl, sym, ap, subst, ◌∙◌, arith, append_assoc}
use Rattle.std.specs.List.{AllByRecursion}
use Rattle.std.specs.Prelude.{IfSome}
use Rattle.mg_disk.specs.Images.{Elapses, Image, NameInDoubt, NameSet, Sets, View}
use Rattle.mg_frame.specs.Frame.{frame, NoFrame}
use Rattle.mg_frame.specs.Frames.{frames}
use Rattle.mg_types.specs.declared.names.Name.{Name}
use Rattle.mg_wal_format.specs.Heads.{head_bytes}
use Rattle.mg_wal_format.specs.Logs.{entry_of}
use Rattle.mg_wal_format.specs.Recovery.{log_name}
use Rattle.mg_wal_format.specs.Torn.{plan_entries}
use Rattle.mg_wal_format.proofs.ReadingLaws.{none_is_not_found}
use Rattle.mg_wal_format.proofs.SpellingLaws.{length-head_bytes}
use Rattle.mg_wal.specs.Lists.{Basis}
use Rattle.mg_wal.specs.Openings.{StrayGoesLaw}
use Rattle.mg_wal.specs.Scenes.{name_of, IsGone, IsLeft, IsLeftAs, IsSoundTrack, Scene, Shows, Track}
use Rattle.mg_wal.specs.Stories.{IsOpenLog}
use Rattle.mg_wal.specs.Times.{IsSeen}
use Rattle.mg_wal.proofs.SceneLaws.{all_behind}
use Rattle.mg_wal.proofs.StepLaws.{all_by, all_take, left_same, same_or_other}
use Rattle.mg_wal.proofs.TimeLaws.{step_keeps, Follows-self}
use Rattle.mg_wal.proofs.TrackLaws.{some_one}

-- a log of this number has no sure frame, and was begun by this run
abbrev IsUnsure : ℕ → Track → Type 0
IsUnsure number track = track.plan.number ≡ number → (track.sure ≡ 0) × (track.found ≡ None)

-- bytes that begin with a whole head are those of no stray
begins_whole : (track : Track) (bytes rest : List ℕ) → length (head_bytes track.plan.head) < 2 ^ 32 → bytes ≡ frames (plan_entries track.plan) ++ rest → NoFrame track.plan.number bytes → ⊥
unfolding frames NoFrame
begins_whole track bytes rest fits is none =
    none (head_bytes track.plan.head) (frames (map entry_of track.plan.recs) ++ rest) fits (is ∙ append_assoc (frame track.plan.number (head_bytes track.plan.head)) (frames (map entry_of track.plan.recs)) rest)

begins_torn : (track : Track) (count : ℕ) (bytes tail : List ℕ) → length (head_bytes track.plan.head) < 2 ^ 32 → bytes ≡ frames (take (suc count) (plan_entries track.plan)) ++ tail → NoFrame track.plan.number bytes → ⊥
unfolding frames NoFrame
begins_torn track count bytes tail fits is none =
    let rest = frames (take count (map entry_of track.plan.recs)) in
    none (head_bytes track.plan.head) (rest ++ tail) fits (is ∙ append_assoc (frame track.plan.number (head_bytes track.plan.head)) rest tail)

torn_unsure : (track : Track) (sure : ℕ) (bytes tail : List ℕ) → length (head_bytes track.plan.head) < 2 ^ 32 → bytes ≡ frames (take sure (plan_entries track.plan)) ++ tail → NoFrame track.plan.number bytes → sure ≡ 0
torn_unsure track zero bytes tail fits is none = refl
torn_unsure track (suc count) bytes tail fits is none = absurd (begins_torn track count bytes tail fits is none)

unsure_as : (found : Option (List ℕ)) (image : Image) (track : Track) (bytes : List ℕ) → track.found ≡ found → length (head_bytes track.plan.head) < 2 ^ 32 → image (name_of track) ≡ Some bytes → NoFrame track.plan.number bytes
    → IsLeftAs found image track → (track.sure ≡ 0) × (track.found ≡ None)
unsure_as None image track bytes same fits is none (inl (unsure, absent)) = (unsure, same)
unsure_as None image track bytes same fits is none (inr (other, is', torn)) =
    (torn_unsure track track.sure bytes torn.tail fits (some_one (image (name_of track)) bytes other is is' ∙ torn.begins) none, same)
unsure_as (Some rest) image track bytes same fits is none left = absurd (begins_whole track bytes rest fits (some_one (image (name_of track)) bytes _ is left) none)

-- the log that an image has there has no whole head, so no log of its number is sure
unsure_left : (basis : Basis) (written : Name → List ℕ) (image : Image) (number : ℕ) (bytes : List ℕ) (track : Track) → image (log_name number) ≡ Some bytes → NoFrame number bytes → IsSoundTrack basis written track
    → IsLeft image track → IsUnsure number track
unsure_left basis written image number bytes track is none sound left same =
    let few = sound.head.fits.parts in
    unsure_as track.found image track bytes refl (omega (arith, few, length-head_bytes track.plan.head)) (ap (λ (n : ℕ). image (log_name n)) same ∙ is) (subst (λ (n : ℕ). NoFrame n bytes) (sym same) none) left

unsure_gone : (image : Image) (number : ℕ) (bytes : List ℕ) (track : Track) → image (log_name number) ≡ Some bytes → IsGone image track → IsUnsure number track
unsure_gone image number bytes track is gone same = absurd (none_is_not_found (image (name_of track)) gone bytes (ap (λ (n : ℕ). image (log_name n)) same ∙ is))

all_unsure : (basis : Basis) (written : Name → List ℕ) (image : Image) (number : ℕ) (bytes : List ℕ) (gone : ℕ) (tracks : List Track) → image (log_name number) ≡ Some bytes → NoFrame number bytes
    → AllByRecursion (IsSoundTrack basis written) tracks → AllByRecursion (IsGone image) (take gone tracks) → AllByRecursion (IsLeft image) (drop gone tracks) → AllByRecursion (IsUnsure number) tracks
all_unsure basis written image number bytes zero tracks is none sound absent left =
    all_by (IsSoundTrack basis written) (IsLeft image) (IsUnsure number) tracks (λ track was here. unsure_left basis written image number bytes track is none was here) sound left
all_unsure basis written image number bytes (suc gone) [] is none sound absent left = tt
all_unsure basis written image number bytes (suc gone) (track ∷ tracks) is none sound absent left =
    (unsure_gone image number bytes track is absent.0, all_unsure basis written image number bytes gone tracks is none sound.1 absent.1 left)

-- ---- an image without the stray

left_without : (number : ℕ) (old new : Image) (track : Track) → Sets (log_name number) None old new → IsUnsure number track → IsLeft old track → (track.plan.number ≡ number) ⊎ (name_of track ≢ log_name number) → IsLeft new track
left_without number old new track sets unsure left (inl same) =
    let is = unsure same in
    subst (λ (f : Option (List ℕ)). IsLeftAs f new track) (sym is.1) (inl (is.0, ap (λ (n : ℕ). new (log_name n)) same ∙ sets.at))
left_without number old new track sets unsure left (inr differs) = left_same old new track (sets.elsewhere (name_of track) differs) left

pub gone_without : (number : ℕ) (old new : Image) (track : Track) → Sets (log_name number) None old new → IsGone old track → (track.plan.number ≡ number) ⊎ (name_of track ≢ log_name number) → IsGone new track
gone_without number old new track sets gone (inl same) = ap (λ (n : ℕ). new (log_name n)) same ∙ sets.at
gone_without number old new track sets gone (inr differs) = sets.elsewhere (name_of track) differs ∙ gone

pub was_there : (number other : ℕ) (old new : Image) (bytes : List ℕ) → Sets (log_name number) None old new → new (log_name other) ≡ Some bytes → (other ≡ number) ⊎ (log_name other ≢ log_name number)
    → old (log_name other) ≡ Some bytes
was_there number other old new bytes sets is (inl same) = absurd (none_is_not_found (new (log_name number)) sets.at bytes (ap (λ (n : ℕ). new (log_name n)) (sym same) ∙ is))
was_there number other old new bytes sets is (inr differs) = sym (sets.elsewhere (log_name other) differs) ∙ is

shows_without : (scene : Scene) (number : ℕ) (old new : Image) → AllByRecursion (IsUnsure number) scene.tracks → Sets (log_name number) None old new → Shows scene old → Shows scene new
shows_without scene number old new unsure sets shows =
    record {
      gone = shows.gone;
      has_gone = shows.has_gone;
      may_go = shows.may_go;
      absent = all_by (IsUnsure number) (IsGone old) (IsGone new) (take shows.gone scene.tracks) (λ track _ gone. gone_without number old new track sets gone (same_or_other number track.plan.number))
          (all_take (IsUnsure number) shows.gone scene.tracks unsure) shows.absent;
      left = all_by (IsUnsure number) (IsLeft old) (IsLeft new) (drop shows.gone scene.tracks) (λ track is left. left_without number old new track sets is left (same_or_other number track.plan.number))
          (all_behind (IsUnsure number) shows.gone scene.tracks unsure) shows.left;
      bound = λ other bytes is. shows.bound other bytes (was_there number other old new bytes sets is (same_or_other number other));
      others = λ other bytes is. shows.others other bytes (was_there number other old new bytes sets is (same_or_other number other));
    }

-- ---- the volume without it

-- of each image now there was one before, and it is that or is without the stray
abbrev pub IsWithout : ℕ → View → View → Type 0
IsWithout number old new = (image : Image) → new.may_leave image → old.may_leave image ⊎ ((before : Image) × old.may_leave before × Sets (log_name number) None before image)

shows_either : (scene : Scene) (number : ℕ) (old : View) (image : Image) → AllByRecursion (IsUnsure number) scene.tracks → ((before : Image) → old.may_leave before → Shows scene before)
    → old.may_leave image ⊎ ((before : Image) × old.may_leave before × Sets (log_name number) None before image) → Shows scene image
shows_either scene number old image unsure shows (inl left) = shows image left
shows_either scene number old image unsure shows (inr (before, left, sets)) = shows_without scene number before image unsure sets (shows before left)

pub absent_either : (number other : ℕ) (old : View) (image : Image) → ((before : Image) → old.may_leave before → before (log_name other) ≡ None)
    → old.may_leave image ⊎ ((before : Image) × old.may_leave before × Sets (log_name number) None before image) → (other ≡ number) ⊎ (log_name other ≢ log_name number) → image (log_name other) ≡ None
absent_either number other old image none (inl left) either = none image left
absent_either number other old image none (inr (before, left, sets)) (inl same) = ap (λ (n : ℕ). image (log_name n)) same ∙ sets.at
absent_either number other old image none (inr (before, left, sets)) (inr differs) = sets.elsewhere (log_name other) differs ∙ none before left

seen_without : (basis : Basis) (scene : Scene) (newest number : ℕ) (old new : View) → IsSeen basis scene newest old → AllByRecursion (IsUnsure number) scene.tracks → new.written ≡ old.written → IsWithout number old new
    → IsSeen basis scene newest new
seen_without basis scene newest number old new seen unsure written images =
    record {
      is = seen.is;
      written = seen.written ∙ sym written;
      images = λ image left. shows_either scene number old image unsure seen.images (images image left);
      unwritten = λ other above. ap (λ (w : Name → List ℕ). w (log_name other)) written ∙ seen.unwritten other above;
      absent = λ other above image left. absent_either number other old image (seen.absent other above) (images image left) (same_or_other number other);
      below = seen.below;
    }

pub goes_by : (number : ℕ) (old new : View) → NameSet (log_name number) None old new ⊎ NameInDoubt (log_name number) None old new → Elapses old new × (new.written ≡ old.written) × IsWithout number old new
goes_by number old new (inl set) = (set.time, set.written, λ image left. inr (set.images image left))
goes_by number old new (inr doubt) = (doubt.time, doubt.written, doubt.images)

pub StrayGoes : StrayGoesLaw
StrayGoes basis list time reach book old new number bytes reached may is none unopened change =
    let scene = reached.0 in
    let story = reached.1 in
    let seen = story.seen in
    let shows = seen.images old.contents may in
    let unsure = all_unsure basis scene.written old.contents number bytes shows.gone scene.tracks is none seen.is.sound shows.absent shows.left in
    let by = goes_by number old new change in
    let seen' = seen_without basis scene book.newest number old new seen unsure by.1 by.2 in
    let keeps = step_keeps basis scene scene book.newest old new by.0 seen' (Follows-self scene) (omega arith) in (
      scene,
      record {
        seen = seen';
        list = story.list;
        released = story.released;
        sure = story.sure;
        reach = story.reach;
        logs = story.logs;
        anchor = story.anchor;
        writing = subst (λ (w : Option ℕ). IfSome w (λ len. IsOpenLog scene new.contents book.newest len)) (sym unopened) tt;
      },
      keeps time reach reached.2,
    )
