-- Each image that a crash at one moment may leave opens to a front of the list.
use Rattle.std.proofs.Common.{◌≡◌, ℕ, zero, suc, ◌+◌, ◌<◌, ◌≤◌, ◌^◌, ◌⊎◌, inl, inr, List, [], ◌∷◌, ◌++◌, length, get_or, map, take, drop, Some, refl, sym, ap, subst, ◌∙◌, arith, append_assoc}
use Rattle.std.proofs.lemmas.List.{length-append, length-take-le, take_at, take-append-drop}
use Rattle.std.specs.List.{AllByRecursion, Contains}
use Rattle.mg_disk.specs.Images.{Image}
use Rattle.mg_frame.specs.Frame.{NoFrame}
use Rattle.mg_wal_format.specs.declared.head.Head.{Head}
use Rattle.mg_wal_format.specs.declared.record.Rec.{Rec}
use Rattle.mg_wal_format.specs.Chains.{GivesFront}
use Rattle.mg_wal_format.specs.Heads.{parts_of}
use Rattle.mg_wal_format.specs.Logs.{counts_after, counts_of, Gives, InOrder, Log}
use Rattle.mg_wal_format.specs.Records.{Counts, counts_in}
use Rattle.mg_wal_format.specs.Recovery.{found_of, log_bytes, log_name, AreLogs, Found, IsSoundLog, NumbersRise}
use Rattle.mg_wal_format.proofs.FrontLaws.{FrontOfList, InOrder-behind}
use Rattle.mg_wal_format.proofs.FoundLaws.{all_among, cons_same, Among}
use Rattle.mg_wal_format.proofs.LogLaws.{counts_after-append}
use Rattle.mg_wal_format.proofs.ReadingLaws.{none_is_not_found}
use Rattle.mg_wal.specs.Lists.{all_recs, Basis}
use Rattle.mg_wal.specs.Scenes.{behind_head, name_of, reach_from, reach_in, scene_reach, sure_in, AreTracks, HasNumber, IsGone, IsScene, IsSoundTrack, LeavesPrefix, Scene, SceneOpensLaw, Shows, Track, TracksRise}
use Rattle.mg_wal.proofs.CountLaws.{counts_rise, Gives-same}
use Rattle.mg_wal.proofs.GatherLaws.{gather, IsOf, IsOneOf, NoneWhole, SomeWhole}

-- ---- the oldest logs are dropped

pub all_behind : {X : Type 0} (P : X → Type 0) (count : ℕ) (xs : List X) → AllByRecursion P xs → AllByRecursion P (drop count xs)
all_behind P zero xs all = all
all_behind P (suc count) [] all = tt
all_behind P (suc count) (x ∷ xs) all = all_behind P count xs all.1

rise_from_any : (least parts : ℕ) (tracks : List Track) → TracksRise least parts tracks → TracksRise 0 0 tracks
rise_from_any least parts [] rise = tt
rise_from_any least parts (track ∷ tracks) rise = (omega arith, omega arith, rise.2)

rise_behind : (count least parts : ℕ) (tracks : List Track) → TracksRise least parts tracks → TracksRise 0 0 (drop count tracks)
rise_behind zero least parts tracks rise = rise_from_any least parts tracks rise
rise_behind (suc count) least parts [] rise = tt
rise_behind (suc count) least parts (track ∷ tracks) rise = rise_behind count (track.plan.number + 1) (parts_of track.plan.head) tracks rise.2

-- the logs behind some are for the records behind the sure ones of these
pub record Split (counts : Counts) (number : ℕ) (recs : List Rec) (older tracks : List Track) : Type 0 where
  pub mine : List Rec
  pub others : List Rec
  pub split : recs ≡ mine ++ others
  pub mine_are : length mine ≡ sure_in older
  pub are : AreTracks (counts_after counts mine) (number + length mine) others tracks

split_more : (counts : Counts) (number : ℕ) (recs mine others : List Rec) (track : Track) (older tracks : List Track) → recs ≡ mine ++ others → length mine ≡ behind_head track.sure
    → Split (counts_after counts mine) (number + length mine) others older tracks → Split counts number recs (track ∷ older) tracks
split_more counts number recs mine others track older tracks split mine_are later =
    let both : length (mine ++ later.mine) ≡ length mine + length later.mine = length-append mine later.mine in
    record {
      mine = mine ++ later.mine;
      others = later.others;
      split = split ∙ ap (λ (rs : List Rec). mine ++ rs) later.split ∙ sym (append_assoc mine later.mine later.others);
      mine_are = omega (arith, both, mine_are, later.mine_are);
      are = subst (λ (n : ℕ). AreTracks (counts_after counts (mine ++ later.mine)) n later.others tracks) (omega (arith, both))
          (subst (λ (c : Counts). AreTracks c (number + length mine + length later.mine) later.others tracks) (sym (counts_after-append mine later.mine counts)) later.are);
    }

pub split_at : (counts : Counts) (number : ℕ) (recs : List Rec) (older tracks : List Track) → AreTracks counts number recs (older ++ tracks) → Split counts number recs older tracks
split_at counts number recs [] tracks are =
    record { mine = []; others = recs; split = refl; mine_are = refl; are = subst (λ (n : ℕ). AreTracks counts n recs tracks) (omega arith) are }
split_at counts number recs (track ∷ older) tracks are =
    split_more counts number recs are.2 are.3 track older tracks are.4 are.5 (split_at (counts_after counts are.2) (number + length are.2) are.3 older tracks are.6)

abbrev Dropped : Counts → ℕ → List Rec → ℕ → List Track → Type 0
Dropped counts number recs count tracks = Split counts number recs (take count tracks) (drop count tracks)

dropped : (counts : Counts) (number : ℕ) (recs : List Rec) (count : ℕ) (tracks : List Track) → AreTracks counts number recs tracks → Dropped counts number recs count tracks
dropped counts number recs count tracks are =
    split_at counts number recs (take count tracks) (drop count tracks) (subst (AreTracks counts number recs) (sym (take-append-drop count tracks)) are)

sure_grows : (less more : ℕ) (tracks : List Track) → less ≤ more → sure_in (take less tracks) ≤ sure_in (take more tracks)
sure_grows zero more tracks fewer = omega arith
sure_grows (suc less) zero tracks fewer = absurd (omega (arith, fewer))
sure_grows (suc less) (suc more) [] fewer = omega arith
sure_grows (suc less) (suc more) (track ∷ tracks) fewer = omega (arith, sure_grows less more tracks (omega (arith, fewer)))

-- ---- the reach

reach_in_grows : (less more first sure : ℕ) → less ≤ more → reach_in less first sure ≤ reach_in more first sure
reach_in_grows less more first zero fewer = fewer
reach_in_grows less more first (suc count) fewer = omega arith

pub reach_grows : (less more : ℕ) (tracks : List Track) → less ≤ more → reach_from less tracks ≤ reach_from more tracks
reach_grows less more [] fewer = fewer
reach_grows less more (track ∷ tracks) fewer =
    reach_grows (reach_in less track.plan.head.first track.sure) (reach_in more track.plan.head.first track.sure) tracks (reach_in_grows less more track.plan.head.first track.sure fewer)

pub reach_behind : (count before : ℕ) (tracks : List Track) → reach_from 0 (drop count tracks) ≤ reach_from before tracks
reach_behind zero before tracks = reach_grows 0 before tracks (omega arith)
reach_behind (suc count) before [] = omega arith
reach_behind (suc count) before (track ∷ tracks) = reach_behind count (reach_in before track.plan.head.first track.sure) tracks

-- fewer logs removed reach no less
reach_of_more : (less more : ℕ) (tracks : List Track) → less ≤ more → reach_from 0 (drop more tracks) ≤ reach_from 0 (drop less tracks)
reach_of_more zero more tracks fewer = reach_behind more 0 tracks
reach_of_more (suc less) zero tracks fewer = absurd (omega (arith, fewer))
reach_of_more (suc less) (suc more) [] fewer = omega arith
reach_of_more (suc less) (suc more) (track ∷ tracks) fewer = reach_of_more less more tracks (omega (arith, fewer))

-- ---- the logs of the image

pub left_more : {A B C : Type 0} → A ⊎ B → (C ⊎ A) ⊎ B
left_more (inl a) = inl (inr a)
left_more (inr b) = inr b

-- an element of a list is among the first so many or behind them
either_part : {X : Type 0} (count : ℕ) (xs : List X) (x : X) → Among x xs → Among x (take count xs) ⊎ Among x (drop count xs)
either_part zero xs x has = inr has
either_part (suc count) [] x none = absurd none
either_part (suc count) (y ∷ xs) x (inl same) = inl (inl same)
either_part (suc count) (y ∷ xs) x (inr behind) = left_more (either_part count xs x behind)

contains_found : (logs : List Log) (log : Log) → Among log logs → Contains (map found_of logs) (found_of log)
contains_found [] log none = absurd none
contains_found (other ∷ logs) log (inl same) = (zero, omega arith, ap found_of (sym same))
contains_found (other ∷ logs) log (inr behind) =
    let later = contains_found logs log behind in
    (suc later.0, omega (arith, later.1), later.2)

abbrev IsKnown : List Log → ℕ → List ℕ → Type 0
IsKnown logs number bytes = ((found : Found) × Contains (map found_of logs) found × (found.number ≡ number)) ⊎ NoFrame number bytes

known_log : (logs : List Log) (track : Track) (number : ℕ) (bytes : List ℕ) → track.plan.number ≡ number → IsOneOf logs track bytes → IsKnown logs number bytes
known_log logs track number bytes numbered (inl (log, has, is)) = inl (found_of log, contains_found logs log has, is ∙ numbered)
known_log logs track number bytes numbered (inr none) = inr (subst (λ (n : ℕ). NoFrame n bytes) numbered none)

known_track : (scene : Scene) (image : Image) (shows : Shows scene image) (logs : List Log)
    → ((track : Track) (bytes : List ℕ) → Among track (drop shows.gone scene.tracks) → image (name_of track) ≡ Some bytes → IsOneOf logs track bytes)
    → (track : Track) (number : ℕ) (bytes : List ℕ) → image (log_name number) ≡ Some bytes → track.plan.number ≡ number
    → Among track (take shows.gone scene.tracks) ⊎ Among track (drop shows.gone scene.tracks) → IsKnown logs number bytes
known_track scene image shows logs each track number bytes is numbered (inl gone) =
    absurd (none_is_not_found (image (name_of track)) (all_among (IsGone image) (take shows.gone scene.tracks) track shows.absent gone) bytes (ap (λ (n : ℕ). image (log_name n)) numbered ∙ is))
known_track scene image shows logs each track number bytes is numbered (inr left) =
    known_log logs track number bytes numbered (each track bytes left (ap (λ (n : ℕ). image (log_name n)) numbered ∙ is))

track_of : (tracks : List Track) (number : ℕ) → HasNumber tracks number → (track : Track) × Among track tracks × (track.plan.number ≡ number)
track_of [] number none = absurd none
track_of (track ∷ tracks) number (inl is) = (track, inl refl, is)
track_of (track ∷ tracks) number (inr behind) =
    let later = track_of tracks number behind in
    (later.0, inr later.1, later.2)

known_as : (scene : Scene) (image : Image) (shows : Shows scene image) (logs : List Log)
    → ((track : Track) (bytes : List ℕ) → Among track (drop shows.gone scene.tracks) → image (name_of track) ≡ Some bytes → IsOneOf logs track bytes)
    → (number : ℕ) (bytes : List ℕ) → image (log_name number) ≡ Some bytes
    → HasNumber scene.tracks number ⊎ NoFrame number bytes → IsKnown logs number bytes
known_as scene image shows logs each number bytes is (inl has) =
    let one = track_of scene.tracks number has in
    known_track scene image shows logs each one.0 number bytes is one.2 (either_part shows.gone scene.tracks one.0 one.1)
known_as scene image shows logs each number bytes is (inr none) = inr none

all_stand : (basis : Basis) (image : Image) (logs : List Log) → AllByRecursion (IsOf basis image) logs
    → AllByRecursion (λ (found : Found). (length found.body < 2 ^ 32) × (image (log_name found.number) ≡ Some (log_bytes found))) (map found_of logs)
all_stand basis image [] all = tt
all_stand basis image (log ∷ logs) all = ((all.0.0, all.0.1), all_stand basis image logs all.1)

all_sound : (basis : Basis) (image : Image) (logs : List Log) → AllByRecursion (IsOf basis image) logs → AllByRecursion IsSoundLog logs
all_sound basis image [] all = tt
all_sound basis image (log ∷ logs) all = (all.0.2, all_sound basis image logs all.1)

all_named : (basis : Basis) (image : Image) (logs : List Log) → AllByRecursion (IsOf basis image) logs
    → AllByRecursion (λ (log : Log). (log.number ≤ basis.newest) ⊎ (parts_of log.head ≡ length basis.low)) logs
all_named basis image [] all = tt
all_named basis image (log ∷ logs) all = (all.0.4, all_named basis image logs all.1)

room_for : (basis : Basis) (image : Image) (logs older : List Log) (newest : Log) → AllByRecursion (IsOf basis image) logs → logs ≡ older ++ newest ∷ [] → parts_of newest.head ≤ length basis.low
room_for basis image [] [] newest all is = absurd (omega (arith, ap length is))
room_for basis image [] (other ∷ older) newest all is = absurd (omega (arith, ap length is))
room_for basis image (log ∷ logs) [] newest all is = omega (arith, all.0.3, ap (λ (l : Log). parts_of l.head) (cons_same log newest logs [] is).0)
room_for basis image (log ∷ logs) (other ∷ older) newest all is = room_for basis image logs older newest all.1 (cons_same log other logs (older ++ newest ∷ []) is).1

are_logs : (basis : Basis) (scene : Scene) (image : Image) (shows : Shows scene image) (logs : List Log) → NumbersRise (map found_of logs) → AllByRecursion (IsOf basis image) logs
    → ((track : Track) (bytes : List ℕ) → Among track (drop shows.gone scene.tracks) → image (name_of track) ≡ Some bytes → IsOneOf logs track bytes) → AreLogs image (map found_of logs)
are_logs basis scene image shows logs rise all each =
    record { rise = rise; stand = all_stand basis image logs all; others = λ number bytes is. known_as scene image shows logs each number bytes is (shows.others number bytes is) }

-- ---- what the image opens to

-- no log is left
opens_empty : (basis : Basis) (scene : Scene) (image : Image) (shows : Shows scene image) → NoneWhole image 0 (drop shows.gone scene.tracks) → LeavesPrefix basis scene.released scene.list (scene_reach scene) image
opens_empty basis scene image shows none =
    record {
      logs = [];
      skipped = [];
      recs = [];
      more = all_recs basis scene.list;
      opens = record {
        found = are_logs basis scene image shows [] tt tt (λ track bytes has is. inr (none.each track bytes has is));
        heads = (tt, tt);
        room = λ older newest are. room_for basis image [] older newest tt are;
        gives = refl;
      };
      among = refl;
      at = inl (refl, refl);
      low = inl refl;
      gone = λ part. omega arith;
      reaches = omega (arith, none.reach, reach_of_more shows.gone scene.removed scene.tracks shows.may_go);
      named = tt;
    }

-- the counts before the first log that is left are released
released_at : (basis : Basis) (scene : Scene) (mine others : List Rec) (gone : ℕ) → IsScene basis scene → gone ≤ scene.removed → all_recs basis scene.list ≡ mine ++ others
    → length mine ≡ sure_in (take gone scene.tracks) → (part : ℕ) → counts_after (counts_in basis.low) mine part ≤ get_or scene.released part 0
released_at basis scene mine others gone is may_go split mine_are part =
    let all = all_recs basis scene.list in
    let front : take (sure_in (take gone scene.tracks)) all ≡ mine = ap (λ (n : ℕ). take n all) (sym mine_are) ∙ ap (take (length mine)) split ∙ take_at mine others (length mine) refl in
    let rise = counts_rise (counts_in basis.low) all (sure_in (take gone scene.tracks)) (sure_in (take scene.removed scene.tracks)) part (sure_grows gone scene.removed scene.tracks may_go) in
    omega (arith, is.released part, rise, ap (λ (rs : List Rec). counts_after (counts_in basis.low) rs part) front)

-- some logs are left
opens_some : (basis : Basis) (scene : Scene) (image : Image) (shows : Shows scene image) → IsScene basis scene
    → (cut : Dropped (counts_in basis.low) basis.first (all_recs basis scene.list) shows.gone scene.tracks)
    → (some : SomeWhole basis image (counts_after (counts_in basis.low) cut.mine) (basis.first + length cut.mine) cut.others 0 0 0 (drop shows.gone scene.tracks))
    → GivesFront (length basis.low) (counts_after (counts_in basis.low) cut.mine) (basis.first + length cut.mine) cut.others (some.log ∷ some.logs) some.behind
    → LeavesPrefix basis scene.released scene.list (scene_reach scene) image
opens_some basis scene image shows is cut some front =
    let counts = counts_after (counts_in basis.low) cut.mine in
    let logs = some.log ∷ some.logs in
    let recs = take front.count cut.others in
    let head : some.plan.head ≡ some.log.head = sym some.head in
    let first : some.log.head.first ≡ basis.first + length cut.mine = ap (λ (h : Head). h.first) some.head ∙ some.is_for.first in
    let low : (part : ℕ) → counts_of some.log.head part ≡ counts part = λ part. ap (λ (h : Head). counts_of h part) some.head ∙ some.is_for.gives part in
    let released = released_at basis scene cut.mine cut.others shows.gone is shows.may_go cut.split cut.mine_are in
    record {
      logs = logs;
      skipped = cut.mine;
      recs = recs;
      more = drop front.count cut.others;
      opens = record {
        found = are_logs basis scene image shows logs some.rise some.of some.each;
        heads = (all_sound basis image logs some.of, front.heads);
        room = λ older newest are. room_for basis image logs older newest some.of are;
        gives = subst (λ (n : ℕ). Gives (length basis.low) (counts_of some.log.head) n logs recs) (sym first)
            (Gives-same (length basis.low) counts (counts_of some.log.head) (basis.first + length cut.mine) logs recs (λ part. sym (low part)) front.gives);
      };
      among = cut.split ∙ ap (λ (rs : List Rec). cut.mine ++ rs) (sym (take-append-drop front.count cut.others));
      at = inr first;
      low = inr low;
      gone = λ part. omega (arith, low part, released part);
      reaches = omega (arith, some.reach, front.reaches, first, length-take-le front.count cut.others front.among, reach_of_more shows.gone scene.removed scene.tracks shows.may_go);
      named = all_named basis image logs some.of;
    }

opens_by : (basis : Basis) (scene : Scene) (image : Image) (shows : Shows scene image) → IsScene basis scene
    → (cut : Dropped (counts_in basis.low) basis.first (all_recs basis scene.list) shows.gone scene.tracks)
    → NoneWhole image 0 (drop shows.gone scene.tracks)
    ⊎ SomeWhole basis image (counts_after (counts_in basis.low) cut.mine) (basis.first + length cut.mine) cut.others 0 0 0 (drop shows.gone scene.tracks)
    → LeavesPrefix basis scene.released scene.list (scene_reach scene) image
opens_by basis scene image shows is cut (inl none) = opens_empty basis scene image shows none
opens_by basis scene image shows is cut (inr some) =
    let ordered = InOrder-behind (length basis.low) (counts_in basis.low) basis.first cut.mine cut.others (subst (InOrder (length basis.low) (counts_in basis.low) basis.first) cut.split is.in_order) in
    opens_some basis scene image shows is cut some
    (FrontOfList (length basis.low) (counts_after (counts_in basis.low) cut.mine) (basis.first + length cut.mine) cut.others (some.plan ∷ some.plans) (some.log ∷ some.logs) some.behind ordered some.are some.left)

pub SceneOpens : SceneOpensLaw
SceneOpens basis scene image is shows bytes chance =
    let cut = dropped (counts_in basis.low) basis.first (all_recs basis scene.list) shows.gone scene.tracks is.tracks in
    let ordered = InOrder-behind (length basis.low) (counts_in basis.low) basis.first cut.mine cut.others (subst (InOrder (length basis.low) (counts_in basis.low) basis.first) cut.split is.in_order) in
    opens_by basis scene image shows is cut
    (gather basis scene.written image (counts_after (counts_in basis.low) cut.mine) (basis.first + length cut.mine) cut.others 0 0 0 (drop shows.gone scene.tracks) ordered cut.are
    (all_behind (IsSoundTrack basis scene.written) shows.gone scene.tracks is.sound) (rise_behind shows.gone 0 0 scene.tracks is.rise) shows.left shows.bound bytes chance (omega arith))
