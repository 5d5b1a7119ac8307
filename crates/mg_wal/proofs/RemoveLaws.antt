-- The oldest log is removed: the scene that follows, and what stays sure.
use Rattle.std.proofs.Common.{◌≡◌, ◌≢◌, ℕ, zero, suc, ◌+◌, ◌<◌, ◌≤◌, ◌⊎◌, inl, inr, List, [], ◌∷◌, ◌++◌, length, get_or, map, take, drop, Option, None, Some, refl, sym, ap, subst, ◌∙◌, arith, append_assoc, leb, eqb, max, true, false, Result, Ok, Err}
use Rattle.std.proofs.lemmas.Bool.Decides.{eqb_tells, leb_tells}
use Rattle.std.proofs.lemmas.List.{append-nil, drop_at, get_or-set_other, get_or-set_same, length-append, length-take-le, take-append-drop, take-append-le, take_at}
use Rattle.std.specs.List.{AllByRecursion}
use Rattle.std.specs.Prelude.{IfSome, ⊤}
use Rattle.mg_disk.specs.Images.{Elapses, Image, NameInDoubt, NameSet, Sets, View}
use Rattle.mg_faults.specs.Causes.{last_count, CountsOnce, HasCause}
use Rattle.mg_types.specs.declared.faults.Fault.{Fault}
use Rattle.mg_types.specs.declared.faults.Fault.TheVariants.{WriteFault}
use Rattle.mg_types.specs.declared.names.Name.{Name}
use Rattle.mg_wal_format.specs.declared.record.Rec.{Rec}
use Rattle.mg_wal_format.specs.Logs.{counts_after}
use Rattle.mg_wal_format.specs.Records.{counts_in}
use Rattle.mg_wal_format.specs.Recovery.{log_name}
use Rattle.mg_wal_format.specs.Heads.{parts_of}
use Rattle.mg_wal.specs.declared.known.KnownLog.{KnownLog}
use Rattle.mg_wal.specs.Book.{changes_of, Book, Entry}
use Rattle.mg_wal.specs.Lists.{all_recs, Basis, Books, KeepsBooks}
use Rattle.mg_wal.specs.Releases.{after_release, behind_first, raised_to, Covers, FirstMayGo, IsCut, MayGo, OnlyLogsGo}
use Rattle.mg_wal.specs.Scenes.{known_of, left_of, name_of, reach_from, reach_in, scene_reach, sure_in, AreTracks, HasSure, IsGone, IsLeft, IsScene, IsSoundTrack, Scene, Shows, Track, TracksRise}
use Rattle.mg_wal.specs.Stories.{IsOpenLog, IsStory, KeepsReach, Reaches}
use Rattle.mg_wal.specs.Times.{Follows, IsSeen, Since}
use Rattle.mg_wal.proofs.SceneLaws.{all_behind, split_at}
use Rattle.mg_wal.proofs.StepLaws.{all_append, all_by, all_first, all_take, left_same, other_name, same_or_other}
use Rattle.mg_wal.specs.Moves.{begun_track, synced_track}
use Rattle.mg_wal.proofs.MoveLaws.{below_last, last_of}
use Rattle.mg_wal.proofs.StrayLaws.{absent_either, gone_without, was_there, IsWithout}
use Rattle.mg_wal.proofs.TimeLaws.{step_keeps, WasLeft-then}

-- ---- a sure log

first_sound : (basis : Basis) (written : Name → List ℕ) (track : Track) → IsSoundTrack basis written track → 1 ≤ track.plan.head.first
first_sound basis written track sound = sound.head.first

reach_in_some : (before first sure : ℕ) → 1 ≤ before → 1 ≤ first → 1 ≤ reach_in before first sure
reach_in_some before first zero some one = some
reach_in_some before first (suc count) some one = omega (arith, one)

reach_some : (basis : Basis) (written : Name → List ℕ) (before : ℕ) (tracks : List Track) → 1 ≤ before → AllByRecursion (IsSoundTrack basis written) tracks → 1 ≤ reach_from before tracks
reach_some basis written before [] some sound = some
reach_some basis written before (track ∷ tracks) some sound =
    reach_some basis written (reach_in before track.plan.head.first track.sure) tracks (reach_in_some before track.plan.head.first track.sure some sound.0.head.first) sound.1

-- a sure head is reached
reach_sure_in : (before first sure : ℕ) → 1 ≤ sure → 1 ≤ first → 1 ≤ reach_in before first sure
reach_sure_in before first zero some one = absurd (omega (arith, some))
reach_sure_in before first (suc count) some one = omega (arith, one)

has_reach : (basis : Basis) (written : Name → List ℕ) (number before : ℕ) (tracks : List Track) → HasSure number tracks → AllByRecursion (IsSoundTrack basis written) tracks → 1 ≤ reach_from before tracks
has_reach basis written number before [] has sound = absurd has
has_reach basis written number before (track ∷ tracks) (inl is) sound =
    reach_some basis written (reach_in before track.plan.head.first track.sure) tracks (reach_sure_in before track.plan.head.first track.sure is.1 sound.0.head.first) sound.1
has_reach basis written number before (track ∷ tracks) (inr behind) sound = has_reach basis written number (reach_in before track.plan.head.first track.sure) tracks behind sound.1

-- with a sure log, what was reached before does not matter
same_in : (one other first sure : ℕ) → 1 ≤ sure → reach_in one first sure ≡ reach_in other first sure
same_in one other first zero some = absurd (omega (arith, some))
same_in one other first (suc count) some = refl

same_reach : (number one other : ℕ) (tracks : List Track) → HasSure number tracks → reach_from one tracks ≡ reach_from other tracks
same_reach number one other [] has = absurd has
same_reach number one other (track ∷ tracks) (inl is) = ap (λ (n : ℕ). reach_from n tracks) (same_in one other track.plan.head.first track.sure is.1)
same_reach number one other (track ∷ tracks) (inr behind) = same_reach number (reach_in one track.plan.head.first track.sure) (reach_in other track.plan.head.first track.sure) tracks behind

-- ---- the oldest log that is left

-- the logs are those that are gone, this one, and others behind it
pub record Oldest (scene : Scene) (older : List Track) (first next : Track) (rest : List Track) : Type 0 where
  pub tracks : scene.tracks ≡ older ++ first ∷ next ∷ rest
  pub gone : length older ≡ scene.gone

-- the parts of the logs
oldest_gone : (scene : Scene) (older : List Track) (first next : Track) (rest : List Track) → Oldest scene older first next rest → (take scene.gone scene.tracks ≡ older) × (drop scene.gone scene.tracks ≡ first ∷ next ∷ rest)
oldest_gone scene older first next rest oldest = (
  ap (take scene.gone) oldest.tracks ∙ take_at older (first ∷ next ∷ rest) scene.gone oldest.gone,
  ap (drop scene.gone) oldest.tracks ∙ drop_at older (first ∷ next ∷ rest) scene.gone oldest.gone,
)

oldest_split : (scene : Scene) (older : List Track) (first next : Track) (rest : List Track) → Oldest scene older first next rest → scene.tracks ≡ (older ++ first ∷ []) ++ next ∷ rest
oldest_split scene older first next rest oldest = oldest.tracks ∙ sym (append_assoc older (first ∷ []) (next ∷ rest))

oldest_removed : (scene : Scene) (older : List Track) (first next : Track) (rest : List Track) → Oldest scene older first next rest
    → (take (scene.gone + 1) scene.tracks ≡ older ++ first ∷ []) × (drop (scene.gone + 1) scene.tracks ≡ next ∷ rest)
oldest_removed scene older first next rest oldest =
    let len : length (older ++ first ∷ []) ≡ scene.gone + 1 = omega (arith, oldest.gone, length-append older (first ∷ [])) in (
      ap (take (scene.gone + 1)) (oldest_split scene older first next rest oldest) ∙ take_at (older ++ first ∷ []) (next ∷ rest) (scene.gone + 1) len,
      ap (drop (scene.gone + 1)) (oldest_split scene older first next rest oldest) ∙ drop_at (older ++ first ∷ []) (next ∷ rest) (scene.gone + 1) len,
    )

-- a count between one number and the next is one of the two
one_of_two : (n count : ℕ) → n ≤ count → count ≤ n + 1 → (count ≡ n) ⊎ (count ≡ n + 1)
one_of_two n count low high = told (leb_tells count n)
  where
    told : ((leb count n ≡ true) × (count ≤ n)) ⊎ ((leb count n ≡ false) × (n < count)) → (count ≡ n) ⊎ (count ≡ n + 1)
    told (inl below) = inl (omega (arith, below.1, low))
    told (inr above) = inr (omega (arith, above.1, high))

rise_above : (number least parts : ℕ) (tracks : List Track) → number < least → TracksRise least parts tracks → AllByRecursion (λ (track : Track). number < track.plan.number) tracks
rise_above number least parts [] low rise = tt
rise_above number least parts (track ∷ tracks) low rise = (omega (arith, low, rise.0), rise_above number (track.plan.number + 1) (parts_of track.plan.head) tracks (omega (arith, low, rise.0)) rise.2)

above_first : (least parts : ℕ) (older : List Track) (first : Track) (tracks : List Track) → TracksRise least parts (older ++ first ∷ tracks) → AllByRecursion (λ (track : Track). first.plan.number < track.plan.number) tracks
above_first least parts [] first tracks rise = rise_above first.plan.number (first.plan.number + 1) (parts_of first.plan.head) tracks (omega arith) rise.2
above_first least parts (track ∷ older) first tracks rise = above_first (track.plan.number + 1) (parts_of track.plan.head) older first tracks rise.2

-- ---- an image without the oldest log

-- what an image of before has of the logs that are gone, and of those behind the oldest
record Halves (image : Image) (older rest : List Track) : Type 0 where
  older_gone : AllByRecursion (IsGone image) older
  rest_left : AllByRecursion (IsLeft image) rest

halves : (scene : Scene) (image : Image) (older : List Track) (first next : Track) (rest : List Track) → Oldest scene older first next rest → (shows : Shows scene image)
    → (shows.gone ≡ scene.gone) ⊎ (shows.gone ≡ scene.gone + 1) → Halves image older (next ∷ rest)
halves scene image older first next rest oldest shows (inl same) =
    let parts = oldest_gone scene older first next rest oldest in
    let left : AllByRecursion (IsLeft image) (first ∷ next ∷ rest) = subst (AllByRecursion (IsLeft image)) (ap (λ (n : ℕ). drop n scene.tracks) same ∙ parts.1) shows.left in
    record { older_gone = subst (AllByRecursion (IsGone image)) (ap (λ (n : ℕ). take n scene.tracks) same ∙ parts.0) shows.absent; rest_left = left.1 }
halves scene image older first next rest oldest shows (inr more) =
    let parts = oldest_removed scene older first next rest oldest in
    record {
      older_gone = all_first (IsGone image) older (first ∷ []) (subst (AllByRecursion (IsGone image)) (ap (λ (n : ℕ). take n scene.tracks) more ∙ parts.0) shows.absent);
      rest_left = subst (AllByRecursion (IsLeft image)) (ap (λ (n : ℕ). drop n scene.tracks) more ∙ parts.1) shows.left;
    }

-- the scene once the oldest log may be gone, or is
abbrev removed_scene : Scene → ℕ → Scene
removed_scene scene gone = record scene { gone = gone; removed = scene.gone + 1 }

shows_removed : (basis : Basis) (scene : Scene) (older : List Track) (first next : Track) (rest : List Track) (gone : ℕ) (old new : Image) → Oldest scene older first next rest → IsScene basis scene → gone ≤ scene.gone + 1
    → Sets (log_name first.plan.number) None old new → Shows scene old → Shows (removed_scene scene gone) new
shows_removed basis scene older first next rest gone old new oldest is few sets shows =
    let number = first.plan.number in
    let one = is.one_in_doubt in
    let half = halves scene old older first next rest oldest shows (one_of_two scene.gone shows.gone shows.has_gone (let m = shows.may_go in omega (arith, m, one))) in
    let parts = oldest_removed scene older first next rest oldest in
    let older_gone = all_by (IsGone old) (IsGone old) (IsGone new) older (λ track was _. gone_without number old new track sets was (same_or_other number track.plan.number)) half.older_gone half.older_gone in
    let above = above_first 0 0 older first (next ∷ rest) (subst (TracksRise 0 0) oldest.tracks is.rise) in
    let rest_left = all_by (λ (track : Track). number < track.plan.number) (IsLeft old) (IsLeft new) (next ∷ rest)
    (λ track more was. left_same old new track (sets.elsewhere (name_of track) (other_name number track.plan.number (λ same. omega (arith, more, same)))) was) above half.rest_left in
    record {
      gone = scene.gone + 1;
      has_gone = few;
      may_go = omega arith;
      absent = subst (AllByRecursion (IsGone new)) (sym parts.0) (all_append (IsGone new) older (first ∷ []) older_gone (sets.at, tt));
      left = subst (AllByRecursion (IsLeft new)) (sym parts.1) rest_left;
      bound = λ other bytes there. shows.bound other bytes (was_there number other old new bytes sets there (same_or_other number other));
      others = λ other bytes there. shows.others other bytes (was_there number other old new bytes sets there (same_or_other number other));
    }

shows_still : (basis : Basis) (scene : Scene) (image : Image) → IsScene basis scene → Shows scene image → Shows (removed_scene scene scene.gone) image
shows_still basis scene image is shows =
    record {
      gone = shows.gone;
      has_gone = shows.has_gone;
      may_go = let m = shows.may_go in omega (arith, m, is.one_in_doubt);
      absent = shows.absent;
      left = shows.left;
      bound = shows.bound;
      others = shows.others;
    }

-- ---- the scene

-- a log with a sure head stands behind the oldest
sure_rest : (scene : Scene) (older : List Track) (first next : Track) (rest : List Track) (anchor : ℕ) → Oldest scene older first next rest → first.plan.number < anchor → HasSure anchor (left_of scene)
    → (scene.removed ≡ scene.gone) ⊎ (scene.removed ≡ scene.gone + 1) → HasSure anchor (next ∷ rest)
sure_rest scene older first next rest anchor oldest below has (inl same) =
    behind (subst (HasSure anchor) (ap (λ (n : ℕ). drop n scene.tracks) same ∙ (oldest_gone scene older first next rest oldest).1) has)
  where
    behind : HasSure anchor (first ∷ next ∷ rest) → HasSure anchor (next ∷ rest)
    behind (inl is) = absurd (omega (arith, below, is.0))
    behind (inr later) = later
sure_rest scene older first next rest anchor oldest below has (inr more) =
    subst (HasSure anchor) (ap (λ (n : ℕ). drop n scene.tracks) more ∙ (oldest_removed scene older first next rest oldest).1) has

reach_rest : (scene : Scene) (older : List Track) (first next : Track) (rest : List Track) (anchor : ℕ) → Oldest scene older first next rest → HasSure anchor (next ∷ rest)
    → (scene.removed ≡ scene.gone) ⊎ (scene.removed ≡ scene.gone + 1) → scene_reach scene ≡ reach_from 0 (next ∷ rest)
reach_rest scene older first next rest anchor oldest has (inl same) =
    ap (reach_from 0) (ap (λ (n : ℕ). drop n scene.tracks) same ∙ (oldest_gone scene older first next rest oldest).1)
    ∙ same_reach anchor (reach_in 0 first.plan.head.first first.sure) 0 (next ∷ rest) has
reach_rest scene older first next rest anchor oldest has (inr more) = ap (reach_from 0) (ap (λ (n : ℕ). drop n scene.tracks) more ∙ (oldest_removed scene older first next rest oldest).1)

-- the counts before the log behind the oldest are those of its head
counts_rest : (basis : Basis) (scene : Scene) (older : List Track) (first next : Track) (rest : List Track) (part : ℕ) → Oldest scene older first next rest → IsScene basis scene
    → counts_after (counts_in basis.low) (take (sure_in (take (scene.gone + 1) scene.tracks)) (all_recs basis scene.list)) part ≡ get_or next.plan.head.before part 0
counts_rest basis scene older first next rest part oldest is =
    let low = counts_in basis.low in
    let all = all_recs basis scene.list in
    let at = split_at low basis.first all (older ++ first ∷ []) (next ∷ rest) (subst (AreTracks low basis.first all) (oldest_split scene older first next rest oldest) is.tracks) in
    let parts = oldest_removed scene older first next rest oldest in
    let front : take (sure_in (take (scene.gone + 1) scene.tracks)) all ≡ at.mine =
    ap (λ (ts : List Track). take (sure_in ts) all) parts.0 ∙ ap (λ (n : ℕ). take n all) (sym at.mine_are) ∙ ap (take (length at.mine)) at.split ∙ take_at at.mine at.others (length at.mine) refl in
    ap (λ (rs : List Rec). counts_after low rs part) front ∙ sym (at.are.0.gives part)

removed_is : (basis : Basis) (scene : Scene) (older : List Track) (first next : Track) (rest : List Track) (anchor gone : ℕ) → Oldest scene older first next rest → IsScene basis scene → scene.gone ≤ gone → gone ≤ scene.gone + 1
    → Covers scene.released next.plan.head.before → HasSure anchor (next ∷ rest) → IsScene basis (removed_scene scene gone)
removed_is basis scene older first next rest anchor gone oldest is low high covers has =
    let parts = oldest_removed scene older first next rest oldest in
    let sound : AllByRecursion (IsSoundTrack basis scene.written) (next ∷ rest) =
    subst (AllByRecursion (IsSoundTrack basis scene.written)) parts.1 (all_behind (IsSoundTrack basis scene.written) (scene.gone + 1) scene.tracks is.sound) in
    record {
      in_order = is.in_order;
      tracks = is.tracks;
      sound = is.sound;
      rise = is.rise;
      released = λ part. omega (arith, covers part, counts_rest basis scene older first next rest part oldest is);
      remains = omega (arith, ap length oldest.tracks, length-append older (first ∷ next ∷ rest), oldest.gone);
      gone_among = high;
      one_in_doubt = omega (arith, low);
      sure_left = inr (omega (arith, has_reach basis scene.written anchor 0 (next ∷ rest) has sound, ap (reach_from 0) parts.1));
    }

-- ---- the volume

removed_follows : (scene : Scene) (gone : ℕ) → Follows scene (removed_scene scene gone)
removed_follows scene gone = record { more = []; list = sym (append-nil scene.list); released = λ part. omega arith; written = λ number. ([], sym (append-nil (scene.written (log_name number)))) }

seen_removed : (basis : Basis) (scene : Scene) (older : List Track) (first next : Track) (rest : List Track) (anchor gone newest : ℕ) (old new : View) → Oldest scene older first next rest → IsSeen basis scene newest old
    → scene.gone ≤ gone → gone ≤ scene.gone + 1 → Covers scene.released next.plan.head.before → HasSure anchor (next ∷ rest) → new.written ≡ old.written → IsWithout first.plan.number old new
    → ((image : Image) → new.may_leave image → Shows (removed_scene scene gone) image) → IsSeen basis (removed_scene scene gone) newest new
seen_removed basis scene older first next rest anchor gone newest old new oldest seen low high covers has written images shows =
    record {
      is = removed_is basis scene older first next rest anchor gone oldest seen.is low high covers has;
      written = seen.written ∙ sym written;
      images = shows;
      unwritten = λ other above. ap (λ (w : Name → List ℕ). w (log_name other)) written ∙ seen.unwritten other above;
      absent = λ other above image left. absent_either first.plan.number other old image (seen.absent other above) (images image left) (same_or_other first.plan.number other);
      below = seen.below;
    }

-- where the oldest log is gone, each image now is one of before without it
shows_set : (basis : Basis) (scene : Scene) (older : List Track) (first next : Track) (rest : List Track) (newest : ℕ) (old new : View) → Oldest scene older first next rest → IsSeen basis scene newest old
    → NameSet (log_name first.plan.number) None old new → (image : Image) → new.may_leave image → Shows (removed_scene scene (scene.gone + 1)) image
shows_set basis scene older first next rest newest old new oldest seen set image left =
    let i = set.images image left in
    shows_removed basis scene older first next rest (scene.gone + 1) i.0 image oldest seen.is (omega arith) i.2 (seen.images i.0 i.1)

shows_doubt : (basis : Basis) (scene : Scene) (older : List Track) (first next : Track) (rest : List Track) (old : View) (image : Image) → Oldest scene older first next rest → IsScene basis scene
    → ((before : Image) → old.may_leave before → Shows scene before) → old.may_leave image ⊎ ((before : Image) × old.may_leave before × Sets (log_name first.plan.number) None before image)
    → Shows (removed_scene scene scene.gone) image
shows_doubt basis scene older first next rest old image oldest is shows (inl left) = shows_still basis scene image is (shows image left)
shows_doubt basis scene older first next rest old image oldest is shows (inr (before, left, sets)) =
    shows_removed basis scene older first next rest scene.gone before image oldest is (omega arith) sets (shows before left)

-- ---- the state

-- the newest log is not the oldest
last_above : (scene : Scene) (older : List Track) (first next : Track) (rest others : List Track) (last : Track) → Oldest scene older first next rest → scene.tracks ≡ others ++ last ∷ [] → TracksRise 0 0 scene.tracks
    → first.plan.number < last.plan.number
last_above scene older first next rest others last oldest is rise =
    let parts = oldest_removed scene older first next rest oldest in
    let below = below_last 0 0 others last (subst (TracksRise 0 0) is rise) in
    let few : scene.gone + 1 ≤ length others =
    omega (arith, ap length oldest.tracks, ap length is, length-append older (first ∷ next ∷ rest), length-append others (last ∷ []), oldest.gone) in
    let front : older ++ first ∷ [] ≡ take (scene.gone + 1) others = sym parts.0 ∙ ap (take (scene.gone + 1)) is ∙ take-append-le (scene.gone + 1) others (last ∷ []) few in
    last_of (λ (track : Track). track.plan.number < last.plan.number) older first
    (subst (AllByRecursion (λ (track : Track). track.plan.number < last.plan.number)) (sym front) (all_take (λ (track : Track). track.plan.number < last.plan.number) (scene.gone + 1) others below))

open_kept : (writing : Option ℕ) (scene : Scene) (older : List Track) (first next : Track) (rest : List Track) (gone newest : ℕ) (old new : Image) → Oldest scene older first next rest → TracksRise 0 0 scene.tracks
    → ((name : Name) → name ≢ log_name first.plan.number → new name ≡ old name) → IfSome writing (λ len. IsOpenLog scene old newest len) → IfSome writing (λ len. IsOpenLog (removed_scene scene gone) new newest len)
open_kept None scene older first next rest gone newest old new oldest rise same opened = tt
open_kept (Some len) scene older first next rest gone newest old new oldest rise same opened =
    let plan = opened.plan in
    let above = last_above scene older first next rest opened.older (synced_track (begun_track plan)) oldest opened.whole.tracks rise in
    let differs : log_name plan.number ≢ log_name first.plan.number = other_name first.plan.number plan.number (λ is. omega (arith, above, is)) in
    record {
      older = opened.older;
      plan = plan;
      number = opened.number;
      whole = record { tracks = opened.whole.tracks; contents = same (log_name plan.number) differs ∙ opened.whole.contents; written = opened.whole.written };
      size = opened.size;
    }

-- what is known where the oldest log may go
record Removing (basis : Basis) (book : Book) (scene : Scene) : Type 0 where
  older : List Track
  first : Track
  next : Track
  rest : List Track
  oldest : Oldest scene older first next rest
  logs : book.logs ≡ known_of first ∷ known_of next ∷ map known_of rest
  covers : Covers scene.released next.plan.head.before
  has : HasSure book.anchor (next ∷ rest)
  reach : scene_reach scene ≡ reach_from 0 (next ∷ rest)

two_of : (book : Book) (tracks : List Track) → FirstMayGo book (map known_of tracks) → (first : Track) × (next : Track) × (rest : List Track) × (tracks ≡ first ∷ next ∷ rest) × MayGo book (known_of first) (known_of next)
two_of book [] go = absurd go
two_of book (first ∷ []) go = absurd go
two_of book (first ∷ next ∷ rest) go = (first, next, rest, refl, go)

-- what has a sure head where some log is below the anchor
has_anchor : (reach anchor below : ℕ) (tracks : List Track) → below < anchor → ((reach ≡ 0) × (anchor ≡ 0)) ⊎ HasSure anchor tracks → HasSure anchor tracks
has_anchor reach anchor below tracks low (inl none) = absurd (omega (arith, low, none.1))
has_anchor reach anchor below tracks low (inr has) = has

removing : (basis : Basis) (list : List Entry) (book : Book) (view : View) (scene : Scene) → IsStory basis list book view scene → FirstMayGo book book.logs → Removing basis book scene
removing basis list book view scene story go =
    let two = two_of book (drop scene.gone scene.tracks) (subst (FirstMayGo book) (sym story.logs) go) in
    let is = story.seen.is in
    let few : scene.gone ≤ length scene.tracks = let r = is.remains in omega (arith, is.gone_among, r) in
    let oldest : Oldest scene (take scene.gone scene.tracks) two.0 two.1 two.2 =
    record {
      tracks = sym (take-append-drop scene.gone scene.tracks) ∙ ap (λ (ts : List Track). take scene.gone scene.tracks ++ ts) two.3;
      gone = length-take-le scene.gone scene.tracks few;
    } in
    let may = two.4 in
    let either = one_of_two scene.gone scene.removed is.gone_among is.one_in_doubt in
    let below : two.0.plan.number < book.anchor = may.below in
    let has = sure_rest scene (take scene.gone scene.tracks) two.0 two.1 two.2 book.anchor oldest below (has_anchor book.reach book.anchor two.0.plan.number (left_of scene) below story.anchor) either in
    record {
      older = take scene.gone scene.tracks;
      first = two.0;
      next = two.1;
      rest = two.2;
      oldest = oldest;
      logs = sym story.logs ∙ ap (map known_of) two.3;
      covers = subst (λ (r : List ℕ). Covers r two.1.plan.head.before) (sym story.released) may.released;
      has = has;
      reach = reach_rest scene (take scene.gone scene.tracks) two.0 two.1 two.2 book.anchor oldest has either;
    }

-- the state behind it
removed_story : (basis : Basis) (list : List Entry) (book : Book) (logs : List KnownLog) (old new : View) (scene : Scene) (gone : ℕ) (by : Removing basis book scene) → IsStory basis list book old scene
    → IsSeen basis (removed_scene scene gone) book.newest new → map known_of (drop gone scene.tracks) ≡ logs → ((name : Name) → name ≢ log_name by.first.plan.number → new.contents name ≡ old.contents name)
    → IsStory basis list (record book { logs = logs }) new (removed_scene scene gone)
removed_story basis list book logs old new scene gone by story seen are same =
    let parts = oldest_removed scene by.older by.first by.next by.rest by.oldest in
    record {
      seen = seen;
      list = story.list;
      released = story.released;
      sure = story.sure;
      reach = ap (reach_from 0) parts.1 ∙ sym by.reach ∙ story.reach;
      logs = are;
      anchor = inr (subst (HasSure book.anchor) (sym parts.1) by.has);
      writing = open_kept book.writing scene by.older by.first by.next by.rest gone book.newest old.contents new.contents by.oldest story.seen.is.rise same story.writing;
    }

removed_keeps : (basis : Basis) (list : List Entry) (time reach : ℕ) (book : Book) (logs : List KnownLog) (old new : View) (scene : Scene) (gone : ℕ) (by : Removing basis book scene) → IsStory basis list book old scene
    → Since basis scene old time reach → scene.gone ≤ gone → gone ≤ scene.gone + 1 → Elapses old new → new.written ≡ old.written → IsWithout by.first.plan.number old new
    → ((image : Image) → new.may_leave image → Shows (removed_scene scene gone) image) → map known_of (drop gone scene.tracks) ≡ logs
    → ((name : Name) → name ≢ log_name by.first.plan.number → new.contents name ≡ old.contents name) → Reaches basis list time reach (record book { logs = logs }) new
removed_keeps basis list time reach book logs old new scene gone by story since low high elapses written images shows are same =
    let next = removed_scene scene gone in
    let parts = oldest_removed scene by.older by.first by.next by.rest by.oldest in
    let seen = seen_removed basis scene by.older by.first by.next by.rest book.anchor gone book.newest old new by.oldest story.seen low high by.covers by.has written images shows in
    let grown : scene_reach scene ≤ scene_reach next = omega (arith, by.reach, ap (reach_from 0) parts.1) in (
      next,
      removed_story basis list book logs old new scene gone by story seen are same,
      step_keeps basis scene next book.newest old new elapses seen (removed_follows scene gone) grown time reach since,
    )

first_number : (book : Book) (first : KnownLog) (logs : List KnownLog) (d : KnownLog) (number : ℕ) → book.logs ≡ first ∷ logs → number ≡ (get_or book.logs 0 d).number → number ≡ first.number
first_number book first logs d number is at = at ∙ ap (λ (ks : List KnownLog). (get_or ks 0 d).number) is

-- the oldest log is gone
pub remove_reaches : (book next : Book) (number : ℕ) (d : KnownLog) (old new : View) → FirstMayGo book book.logs → number ≡ (get_or book.logs 0 d).number → NameSet (log_name number) None old new → next ≡ behind_first book
    → KeepsReach book next old new
remove_reaches book next number d old new go at set is basis list time reach books reached =
    let scene = reached.0 in
    let story = reached.1 in
    let by = removing basis list book old scene story go in
    let parts = oldest_removed scene by.older by.first by.next by.rest by.oldest in
    let named : number ≡ by.first.plan.number = first_number book (known_of by.first) _ d number by.logs at in
    let set' = subst (λ (n : ℕ). NameSet (log_name n) None old new) named set in
    let logs : map known_of (drop (scene.gone + 1) scene.tracks) ≡ drop 1 book.logs = ap (map known_of) parts.1 ∙ sym (ap (drop 1) by.logs) in
    subst (λ (b : Book). Reaches basis list time reach b new) (sym is)
    (removed_keeps basis list time reach book (drop 1 book.logs) old new scene (scene.gone + 1) by story reached.2 (omega arith) (omega arith) set'.time set'.written
    (λ image left. inr (set'.images image left)) (shows_set basis scene by.older by.first by.next by.rest book.newest old new by.oldest story.seen set') logs set'.contents.elsewhere)

doubt_contents : (number : ℕ) (old new : View) → (new.contents ≡ old.contents) ⊎ Sets (log_name number) None old.contents new.contents → (name : Name) → name ≢ log_name number → new.contents name ≡ old.contents name
doubt_contents number old new (inl same) name differs = ap (λ (i : Image). i name) same
doubt_contents number old new (inr sets) name differs = sets.elsewhere name differs

-- it may be gone
pub remove_doubts : (book next : Book) (number : ℕ) (d : KnownLog) (old new : View) → FirstMayGo book book.logs → number ≡ (get_or book.logs 0 d).number → NameInDoubt (log_name number) None old new → next ≡ book
    → KeepsReach book next old new
remove_doubts book next number d old new go at doubt is basis list time reach books reached =
    let scene = reached.0 in
    let story = reached.1 in
    let by = removing basis list book old scene story go in
    let named : number ≡ by.first.plan.number = first_number book (known_of by.first) _ d number by.logs at in
    let doubt' = subst (λ (n : ℕ). NameInDoubt (log_name n) None old new) named doubt in
    subst (λ (b : Book). Reaches basis list time reach b new) (sym is)
    (removed_keeps basis list time reach book book.logs old new scene scene.gone by story reached.2 (omega arith) (omega arith) doubt'.time doubt'.written doubt'.images
    (λ image left. shows_doubt basis scene by.older by.first by.next by.rest old image by.oldest story.seen.is story.seen.images (doubt'.images image left)) story.logs
    (doubt_contents by.first.plan.number old new doubt'.contents))

-- ---- more is released

-- what may be gone stays so
pub release_reaches : (book next : Book) (released : List ℕ) (view : View) → ((part : ℕ) → get_or book.released part 0 ≤ get_or released part 0) → next ≡ record book { released = released } → KeepsReach book next view view
release_reaches book next released view more is basis list time reach books reached =
    let scene = reached.0 in
    let story = reached.1 in
    let seen = story.seen in
    let later : Scene = record scene { released = released } in
    let follows : Follows scene later =
    record {
      more = [];
      list = sym (append-nil scene.list);
      released = λ part. omega (arith, more part, ap (λ (r : List ℕ). get_or r part 0) story.released);
      written = λ number. ([], sym (append-nil (scene.written (log_name number))));
    } in
    subst (λ (b : Book). Reaches basis list time reach b view) (sym is) (
      later,
      record {
        seen = record {
          is = record {
            in_order = seen.is.in_order;
            tracks = seen.is.tracks;
            sound = seen.is.sound;
            rise = seen.is.rise;
            released = λ part. omega (arith, seen.is.released part, follows.released part);
            remains = seen.is.remains;
            gone_among = seen.is.gone_among;
            one_in_doubt = seen.is.one_in_doubt;
            sure_left = seen.is.sure_left;
          };
          written = seen.written;
          images = λ image left. released_shows scene released image (seen.images image left);
          unwritten = seen.unwritten;
          absent = seen.absent;
          below = seen.below;
        };
        list = story.list;
        released = refl;
        sure = story.sure;
        reach = story.reach;
        logs = story.logs;
        anchor = story.anchor;
        writing = released_open book.writing scene released view.contents book.newest story.writing;
      },
      record {
        past = reached.2.past;
        enough = reached.2.enough;
        images = λ image left. WasLeft-then basis scene later reach image follows (reached.2.images image left);
      },
    )
  where
    released_shows : (scene : Scene) (released : List ℕ) (image : Image) → Shows scene image → Shows (record scene { released = released }) image
    released_shows scene released image shows =
        record { gone = shows.gone; has_gone = shows.has_gone; may_go = shows.may_go; absent = shows.absent; left = shows.left; bound = shows.bound; others = shows.others }

    released_open : (writing : Option ℕ) (scene : Scene) (released : List ℕ) (image : Image) (newest : ℕ) → IfSome writing (λ len. IsOpenLog scene image newest len)
        → IfSome writing (λ len. IsOpenLog (record scene { released = released }) image newest len)
    released_open None scene released image newest opened = tt
    released_open (Some len) scene released image newest opened =
        record { older = opened.older; plan = opened.plan; number = opened.number; whole = record { tracks = opened.whole.tracks; contents = opened.whole.contents; written = opened.whole.written }; size = opened.size }

-- ---- logs that are cut

relogged : (basis : Basis) (list : List Entry) (book : Book) (released : List ℕ) (logs : List KnownLog) → ((part : ℕ) → get_or book.released part 0 ≤ get_or released part 0) → ((part : ℕ) → get_or released part 0 ≤ changes_of book part)
    → Books basis list book → Books basis list (record book { released = released; logs = logs })
relogged basis list book released logs more few books =
    record {
      first = books.first;
      reached = books.reached;
      in_order = books.in_order;
      last = books.last;
      parts = books.parts;
      changes = books.changes;
      synced_parts = books.synced_parts;
      synced = books.synced;
      low_is_released = λ part. omega (arith, books.low_is_released part, more part);
      released = few;
      staged = books.staged;
      waiting = books.waiting;
      reach = books.reach;
      newest = books.newest;
    }

pub cut_books : (old new : Book) → IsCut old new → KeepsBooks old new
cut_books old new cut basis list books =
    subst (Books basis list) (sym cut.rest) (relogged basis list old old.released new.logs (λ part. omega arith) books.released books)

pub cut_none : (book : Book) → IsCut book book
cut_none book = record { cut = []; logs = refl; rest = refl }

first_cut : (book : Book) (logs : List KnownLog) → FirstMayGo book logs → (first : KnownLog) × (logs ≡ first ∷ drop 1 logs)
first_cut book [] go = absurd go
first_cut book (first ∷ []) go = absurd go
first_cut book (first ∷ next ∷ logs) go = (first, refl)

pub fewer_logs : (book next : Book) → FirstMayGo book book.logs → next ≡ behind_first book → length next.logs < length book.logs
fewer_logs book next go is = omega (arith, ap length (first_cut book book.logs go).1, ap (λ (b : Book). length b.logs) is)

pub cut_more : (old middle new : Book) → IsCut old middle → FirstMayGo middle middle.logs → new ≡ behind_first middle → IsCut old new
cut_more old middle new cut go is =
    let first = first_cut middle middle.logs go in
    let logs : new.logs ≡ drop 1 middle.logs = ap (λ (b : Book). b.logs) is in
    record {
      cut = cut.cut ++ first.0 ∷ [];
      logs = cut.logs ∙ ap (λ (ks : List KnownLog). cut.cut ++ ks) first.1 ∙ sym (append_assoc cut.cut (first.0 ∷ []) (drop 1 middle.logs)) ∙ ap (λ (ks : List KnownLog). (cut.cut ++ first.0 ∷ []) ++ ks) (sym logs);
      rest = is ∙ ap behind_first cut.rest ∙ ap (λ (ks : List KnownLog). let b : Book = record old { logs = ks } in b) (sym logs);
    }

pub cut_anchor : (old new : Book) → IsCut old new → new.anchor ≡ old.anchor
cut_anchor old new cut = ap (λ (b : Book). b.anchor) cut.rest

then_only : (anchor : ℕ) (old middle new : Image) (name : Name) → OnlyLogsGo anchor old middle → (new name ≡ middle name) ⊎ ((number : ℕ) × (name ≡ log_name number) × (number < anchor) × (new name ≡ None))
    → (new name ≡ old name) ⊎ ((number : ℕ) × (name ≡ log_name number) × (number < anchor) × (new name ≡ None))
then_only anchor old middle new name first (inl same) = by (first name)
  where
    by : (middle name ≡ old name) ⊎ ((number : ℕ) × (name ≡ log_name number) × (number < anchor) × (middle name ≡ None)) → (new name ≡ old name) ⊎ ((number : ℕ) × (name ≡ log_name number) × (number < anchor) × (new name ≡ None))
    by (inl was) = inl (same ∙ was)
    by (inr (number, named, below, gone)) = inr (number, named, below, same ∙ gone)
then_only anchor old middle new name first (inr gone) = inr gone

pub only_more : (anchor other : ℕ) (old middle new : Image) → other ≡ anchor → OnlyLogsGo anchor old middle → OnlyLogsGo other middle new → OnlyLogsGo anchor old new
only_more anchor other old middle new same first second name =
    then_only anchor old middle new name first (subst (λ (n : ℕ). OnlyLogsGo n middle new) same second name)

pub only_none : (anchor : ℕ) (image : Image) → OnlyLogsGo anchor image image
only_none anchor image name = inl refl

pub reach_then : (old middle new : Book) (one two three : View) → KeepsBooks old middle → KeepsReach old middle one two → KeepsReach middle new two three → KeepsReach old new one three
reach_then old middle new one two three books first second basis list time reach stands reached = second basis list time reach (books basis list stands) (first basis list time reach stands reached)

pub reach_more : (old middle new : Book) (one two three : View) → IsCut old middle → KeepsReach old middle one two → KeepsReach middle new two three → KeepsReach old new one three
reach_more old middle new one two three cut first second = reach_then old middle new one two three (cut_books old middle cut) first second

-- ---- a release

raised_more : (place number other : ℕ) (numbers : List ℕ) → place < length numbers → ((eqb other place ≡ true) × (other ≡ place)) ⊎ ((eqb other place ≡ false) × (other ≢ place))
    → get_or numbers other 0 ≤ get_or (raised_to place number numbers) other 0
raised_more place number other numbers within (inl same) =
    let here = get_or-set_same numbers place (max (get_or numbers place 0) number) 0 within in
    subst (λ (i : ℕ). get_or numbers i 0 ≤ get_or (raised_to place number numbers) i 0) (sym same.1) (omega (arith, here))
raised_more place number other numbers within (inr differs) = omega (arith, get_or-set_other numbers place other (max (get_or numbers place 0) number) 0 differs.1)

raised_few : (place number other most : ℕ) (numbers : List ℕ) → place < length numbers → (other ≡ place → number ≤ most) → get_or numbers other 0 ≤ most
    → ((eqb other place ≡ true) × (other ≡ place)) ⊎ ((eqb other place ≡ false) × (other ≢ place)) → get_or (raised_to place number numbers) other 0 ≤ most
raised_few place number other most numbers within here below (inl same) =
    let is = get_or-set_same numbers place (max (get_or numbers place 0) number) 0 within in
    let at = here same.1 in
    subst (λ (i : ℕ). get_or (raised_to place number numbers) i 0 ≤ most) (sym same.1) (omega (arith, is, at, below, ap (λ (i : ℕ). get_or numbers i 0) same.1))
raised_few place number other most numbers within here below (inr differs) = omega (arith, get_or-set_other numbers place other (max (get_or numbers place 0) number) 0 differs.1, below)

pub released_books : (book : Book) (part change : ℕ) → part < length book.released → change ≤ changes_of book part → KeepsBooks book (after_release part change book)
released_books book part change within few basis list books =
    relogged basis list book (raised_to part change book.released) book.logs (λ other. raised_more part change other book.released within (eqb_tells other part))
    (λ other. raised_few part change other (changes_of book other) book.released within (λ same. subst (λ (i : ℕ). change ≤ changes_of book i) (sym same) few) (books.released other) (eqb_tells other part)) books

pub released_reaches : (book middle next : Book) (part change : ℕ) (old new : View) → part < length book.released → change ≤ changes_of book part → middle ≡ after_release part change book → KeepsReach middle next old new
    → KeepsReach book next old new
released_reaches book middle next part change old new within few is second =
    reach_then book middle next old old new (subst (KeepsBooks book) (sym is) (released_books book part change within few))
    (subst (λ (b : Book). KeepsReach book b old old) (sym is) (more_released book part change old within)) second
  where
    more_released : (book : Book) (part change : ℕ) (view : View) → part < length book.released → KeepsReach book (after_release part change book) view view
    more_released book part change view within =
        release_reaches book (after_release part change book) (raised_to part change book.released) view (λ other. raised_more part change other book.released within (eqb_tells other part)) refl

-- ---- counts of faults

pub cause_more : {T : Type 0} (before middle now : ℕ) (one other : Result T Fault) (e : Fault) → middle ≡ before → one ≡ Err e → other ≡ Err e → HasCause WriteFault middle now one → HasCause WriteFault before now other
cause_more before middle now one other e same is is' cause =
    subst (λ (n : ℕ). HasCause WriteFault n now other) same (subst (HasCause WriteFault middle now) (is ∙ sym is') cause)

pub once_more : {T : Type 0} (before middle now : ℕ) (one other : Result T Fault) (e : Fault) → middle ≡ before → one ≡ Err e → other ≡ Err e → CountsOnce middle now one → CountsOnce before now other
once_more before middle now one other e same is is' once =
    subst (λ (n : ℕ). CountsOnce n now other) same (subst (CountsOnce middle now) (is ∙ sym is') once)

pub no_cause : (before now : ℕ) → now ≡ before → HasCause {T = ⊤} WriteFault before now (Ok tt)
no_cause before now same = record { later = omega (arith, same); failed = λ failed. absurd (cc) }

pub no_fault : (before now : ℕ) → before ≤ last_count → now ≡ before → CountsOnce {T = ⊤} {E = Fault} before now (Ok tt)
no_fault before now bounded same = record { kept = same; once = omega (arith, same, bounded) }
