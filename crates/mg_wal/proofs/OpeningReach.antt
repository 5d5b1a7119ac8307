-- A state that was opened reaches what was found.
use Rattle.std.proofs.Common.{◌≡◌, ℕ, suc, ◌+◌, ◌<◌, ◌≤◌, ◌^◌, ◌⊎◌, inl, inr, List, [], ◌∷◌, ◌++◌, length, get_or, map, Option, None, Some, refl, sym, ap, subst, ◌∙◌, arith, append_assoc, Bool}
use Rattle.std.proofs.lemmas.List.{append-nil, length-append}
use Rattle.std.specs.List.{AllByRecursion, Contains}
use Rattle.std.specs.Prelude.{IfSome, IsSome, ⊤}
use Rattle.mg_disk.specs.Images.{bytes_of, Image, Settled, View}
use Rattle.mg_frame.specs.Frame.{frame, NoFrame}
use Rattle.mg_frame.specs.Frames.{frames}
use Rattle.mg_types.specs.declared.names.Name.{Name}
use Rattle.mg_wal_format.specs.declared.record.Rec.{Rec}
use Rattle.mg_wal_format.specs.Heads.{head_bytes, parts_of}
use Rattle.mg_wal_format.specs.Logs.{counts_after, entry_of, Continues, Gives, HeadsRise, InOrder, Log}
use Rattle.mg_wal_format.specs.Records.{Counts, counts_in}
use Rattle.mg_wal_format.specs.Recovery.{end_of, first_of, found_of, log_bytes, log_name, low_of, Found, HasRoom, IsSoundLog, NumbersRise, last_number}
use Rattle.mg_wal_format.proofs.FoundLaws.{among, Among}
use Rattle.mg_wal_format.proofs.OrderLaws.{AllInOrder}
use Rattle.mg_wal.specs.declared.known.KnownLog.{KnownLog}
use Rattle.mg_wal.specs.Book.{Book}
use Rattle.mg_wal.specs.Lists.{all_recs, before_unsynced, Basis}
use Rattle.mg_wal.specs.Openings.{IsFound, IsFresh, IsNewestName, OpeningReachesLaw, log_known}
use Rattle.mg_wal.specs.Scenes.{reach_from, sure_in, AreTracks, HasNumber, IsFollowedByFound, IsLeft, IsScene, IsSoundTrack, Scene, Shows, Track, TracksRise, known_of, HasSure}
use Rattle.mg_wal.specs.Stories.{IsOpenLog, IsStory}
use Rattle.mg_wal.specs.Times.{IsSeen, Since}
use Rattle.mg_wal.proofs.CountLaws.{Gives-same}
use Rattle.mg_wal.proofs.TimeLaws.{SinceNow}

-- ---- the logs that were found, as tracks

-- a log of which these records count
abbrev found_track : Log → List Rec → List ℕ → Track
found_track log recs rest = record { plan = record { number = log.number; head = log.head; recs = recs }; sure = suc (length recs); found = Some rest }

-- the logs that give these records, as tracks
abbrev tracks_of : (parts : ℕ) (counts : Counts) (number : ℕ) (logs : List Log) (recs : List Rec) → Gives parts counts number logs recs → List Track
tracks_of parts counts number [] recs gives = []
tracks_of parts counts number (log ∷ []) recs gives = found_track log recs gives.0 ∷ []
tracks_of parts counts number (log ∷ next ∷ logs) recs gives =
    found_track log gives.0 gives.2 ∷ tracks_of parts (counts_after counts gives.0) (number + length gives.0) (next ∷ logs) gives.1 gives.7

-- the first log begins with this number, behind these counts
abbrev Starts : Counts → ℕ → List Log → Type 0
Starts counts number [] = ⊤
Starts counts number (log ∷ logs) = (log.head.first ≡ number) × Continues counts log.head

followed : (parts : ℕ) (counts : Counts) (number : ℕ) (log : Log) (logs : List Log) (recs : List Rec) (gives : Gives parts counts number (log ∷ logs) recs)
    → IsFollowedByFound (tracks_of parts counts number (log ∷ logs) recs gives)
followed parts counts number log [] recs gives = refl
followed parts counts number log (next ∷ logs) recs gives = refl

are_tracks : (parts : ℕ) (counts : Counts) (number : ℕ) (logs : List Log) (recs : List Rec) (gives : Gives parts counts number logs recs) → Starts counts number logs
    → AreTracks counts number recs (tracks_of parts counts number logs recs gives)
are_tracks parts counts number [] recs gives starts = tt
are_tracks parts counts number (log ∷ []) recs gives starts = (
  record { first = starts.0; gives = starts.1; more = []; front = sym (append-nil recs) },
  inr (subst (λ (n : ℕ). NoFrame n gives.0) (omega (arith, starts.0)) gives.2),
  recs,
  [],
  sym (append-nil recs),
  refl,
  tt,
)
are_tracks parts counts number (log ∷ next ∷ logs) recs gives starts = (
  record { first = starts.0; gives = starts.1; more = gives.1; front = gives.3 },
  inl (followed parts (counts_after counts gives.0) (number + length gives.0) next logs gives.1 gives.7),
  gives.0,
  gives.1,
  gives.3,
  refl,
  are_tracks parts (counts_after counts gives.0) (number + length gives.0) (next ∷ logs) gives.1 gives.7 (sym gives.5, gives.6),
)

-- what is known of each log that was found
abbrev Stands : Basis → Image → Log → Type 0
Stands basis image log = (image (log_name log.number) ≡ Some (log_bytes (found_of log))) × IsSoundLog log × (parts_of log.head ≤ length basis.low) × (log.number ≤ basis.newest)

left_found : (image : Image) (log : Log) (recs : List Rec) (rest : List ℕ) → image (log_name log.number) ≡ Some (log_bytes (found_of log)) → log.rest ≡ frames (map entry_of recs) ++ rest
    → IsLeft image (found_track log recs rest)
unfolding frames
left_found image log recs rest stands spelled =
    stands ∙ ap (λ (l : List ℕ). Some (frame log.number (head_bytes log.head) ++ l)) spelled
    ∙ ap (λ (l : List ℕ). Some l) (sym (append_assoc (frame log.number (head_bytes log.head)) (frames (map entry_of recs)) rest))

all_left : (basis : Basis) (image : Image) (parts : ℕ) (counts : Counts) (number : ℕ) (logs : List Log) (recs : List Rec) (gives : Gives parts counts number logs recs) → AllByRecursion (Stands basis image) logs
    → AllByRecursion (IsLeft image) (tracks_of parts counts number logs recs gives)
all_left basis image parts counts number [] recs gives all = tt
all_left basis image parts counts number (log ∷ []) recs gives all = (left_found image log recs gives.0 all.0.0 gives.1.spelled, tt)
all_left basis image parts counts number (log ∷ next ∷ logs) recs gives all = (
  left_found image log gives.0 gives.2 all.0.0 gives.4.spelled,
  all_left basis image parts (counts_after counts gives.0) (number + length gives.0) (next ∷ logs) gives.1 gives.7 all.1,
)

sound_found : (basis : Basis) (image : Image) (written : Name → List ℕ) (log : Log) (recs : List Rec) (rest : List ℕ) → Stands basis image log → IsSoundTrack basis written (found_track log recs rest)
sound_found basis image written log recs rest stands =
    record { number = stands.1.0; head = stands.1.1; fits = stands.2; among = omega arith; begun = (refl, stands.3) }

all_sound : (basis : Basis) (image : Image) (written : Name → List ℕ) (parts : ℕ) (counts : Counts) (number : ℕ) (logs : List Log) (recs : List Rec) (gives : Gives parts counts number logs recs)
    → AllByRecursion (Stands basis image) logs → AllByRecursion (IsSoundTrack basis written) (tracks_of parts counts number logs recs gives)
all_sound basis image written parts counts number [] recs gives all = tt
all_sound basis image written parts counts number (log ∷ []) recs gives all = (sound_found basis image written log recs gives.0 all.0, tt)
all_sound basis image written parts counts number (log ∷ next ∷ logs) recs gives all = (
  sound_found basis image written log gives.0 gives.2 all.0,
  all_sound basis image written parts (counts_after counts gives.0) (number + length gives.0) (next ∷ logs) gives.1 gives.7 all.1,
)

all_below : (basis : Basis) (image : Image) (parts : ℕ) (counts : Counts) (number : ℕ) (logs : List Log) (recs : List Rec) (gives : Gives parts counts number logs recs) → AllByRecursion (Stands basis image) logs
    → AllByRecursion (λ (track : Track). track.plan.number ≤ basis.newest) (tracks_of parts counts number logs recs gives)
all_below basis image parts counts number [] recs gives all = tt
all_below basis image parts counts number (log ∷ []) recs gives all = (all.0.3, tt)
all_below basis image parts counts number (log ∷ next ∷ logs) recs gives all =
    (all.0.3, all_below basis image parts (counts_after counts gives.0) (number + length gives.0) (next ∷ logs) gives.1 gives.7 all.1)

has_log : (parts : ℕ) (counts : Counts) (number : ℕ) (logs : List Log) (recs : List Rec) (gives : Gives parts counts number logs recs) (found : Found) (n : ℕ) → Among found (map found_of logs) → found.number ≡ n
    → HasNumber (tracks_of parts counts number logs recs gives) n
has_log parts counts number [] recs gives found n has is = absurd has
has_log parts counts number (log ∷ []) recs gives found n (inl same) is = inl (ap (λ (f : Found). f.number) (sym same) ∙ is)
has_log parts counts number (log ∷ []) recs gives found n (inr none) is = absurd none
has_log parts counts number (log ∷ next ∷ logs) recs gives found n (inl same) is = inl (ap (λ (f : Found). f.number) (sym same) ∙ is)
has_log parts counts number (log ∷ next ∷ logs) recs gives found n (inr behind) is =
    inr (has_log parts (counts_after counts gives.0) (number + length gives.0) (next ∷ logs) gives.1 gives.7 found n behind is)

all_sure : (parts : ℕ) (counts : Counts) (number : ℕ) (logs : List Log) (recs : List Rec) (gives : Gives parts counts number logs recs) → sure_in (tracks_of parts counts number logs recs gives) ≡ length recs
all_sure parts counts number [] recs gives = sym (ap length gives)
all_sure parts counts number (log ∷ []) recs gives = omega arith
all_sure parts counts number (log ∷ next ∷ logs) recs gives =
    omega (arith, all_sure parts (counts_after counts gives.0) (number + length gives.0) (next ∷ logs) gives.1 gives.7, ap length gives.3, length-append gives.0 gives.1)

all_reach : (before parts : ℕ) (counts : Counts) (number : ℕ) (log : Log) (logs : List Log) (recs : List Rec) (gives : Gives parts counts number (log ∷ logs) recs) → log.head.first ≡ number
    → reach_from before (tracks_of parts counts number (log ∷ logs) recs gives) ≡ number + length recs
all_reach before parts counts number log [] recs gives first = omega (arith, first)
all_reach before parts counts number log (next ∷ logs) recs gives first =
    omega (
      arith,
      all_reach (log.head.first + length gives.0) parts (counts_after counts gives.0) (number + length gives.0) next logs gives.1 gives.7 (sym gives.5),
      ap length gives.3,
      length-append gives.0 gives.1,
    )

all_rise : (lowest width parts : ℕ) (counts : Counts) (number : ℕ) (log : Log) (logs : List Log) (recs : List Rec) (gives : Gives parts counts number (log ∷ logs) recs) → NumbersRise (map found_of (log ∷ logs))
    → HeadsRise (log ∷ logs) → lowest ≤ log.number → width ≤ parts_of log.head → TracksRise lowest width (tracks_of parts counts number (log ∷ logs) recs gives)
all_rise lowest width parts counts number log [] recs gives numbers heads low wide = (low, wide, tt)
all_rise lowest width parts counts number log (next ∷ logs) recs gives numbers heads low wide = (
  low,
  wide,
  all_rise (log.number + 1) (parts_of log.head) parts (counts_after counts gives.0) (number + length gives.0) next logs gives.1 gives.7 numbers.1 heads.2 (omega (arith, numbers.0)) heads.1,
)

all_known : (parts : ℕ) (counts : Counts) (number : ℕ) (logs : List Log) (recs : List Rec) (gives : Gives parts counts number logs recs) → map known_of (tracks_of parts counts number logs recs gives) ≡ map log_known logs
all_known parts counts number [] recs gives = refl
all_known parts counts number (log ∷ []) recs gives = refl
all_known parts counts number (log ∷ next ∷ logs) recs gives =
    ap (λ (ks : List KnownLog). log_known log ∷ ks) (all_known parts (counts_after counts gives.0) (number + length gives.0) (next ∷ logs) gives.1 gives.7)

last_sure : (parts : ℕ) (counts : Counts) (number : ℕ) (log : Log) (logs : List Log) (recs : List Rec) (gives : Gives parts counts number (log ∷ logs) recs)
    → HasSure (last_number (log ∷ logs)) (tracks_of parts counts number (log ∷ logs) recs gives)
last_sure parts counts number log [] recs gives = inl (refl, omega arith)
last_sure parts counts number log (next ∷ logs) recs gives = inr (last_sure parts (counts_after counts gives.0) (number + length gives.0) next logs gives.1 gives.7)

anchor_of : (parts : ℕ) (counts : Counts) (number : ℕ) (logs : List Log) (recs : List Rec) (gives : Gives parts counts number logs recs) → ((end_of logs recs ≡ 0) × (last_number logs ≡ 0)) ⊎ HasSure (last_number logs) (tracks_of parts counts number logs recs gives)
anchor_of parts counts number [] recs gives = inl (refl, refl)
anchor_of parts counts number (log ∷ logs) recs gives = inr (last_sure parts counts number log logs recs gives)

-- ---- each log that was found

-- no head counts more partitions than the newest
all_room : (parts : ℕ) (log : Log) (logs : List Log) → HeadsRise (log ∷ logs) → HasRoom parts (log ∷ logs) → parts_of log.head ≤ parts
all_room parts log [] heads room = room [] log refl
all_room parts log (next ∷ logs) heads room = omega (arith, heads.1, all_room parts next logs heads.2 (λ older newest is. room (log ∷ older) newest (ap (λ (ls : List Log). log ∷ ls) is)))

some_is : {X : Type 0} (found : Option X) (x : X) → found ≡ Some x → IsSome found
some_is found x is = subst IsSome (sym is) refl

stand : (basis : Basis) (image : Image) (log : Log) (logs : List Log) → IsNewestName image basis.newest → (length (head_bytes log.head) < 2 ^ 32) × (image (log_name log.number) ≡ Some (log_bytes (found_of log)))
    → IsSoundLog log → parts_of log.head ≤ length basis.low → Stands basis image log
stand basis image log logs newest found sound fits = (found.1, sound, fits, newest.most log.number (some_is (image (log_name log.number)) (log_bytes (found_of log)) found.1))

all_stand : (basis : Basis) (image : Image) (logs : List Log) → IsNewestName image basis.newest
    → AllByRecursion (λ (found : Found). (length found.body < 2 ^ 32) × (image (log_name found.number) ≡ Some (log_bytes found))) (map found_of logs) → AllByRecursion IsSoundLog logs → HeadsRise logs
    → HasRoom (length basis.low) logs → AllByRecursion (Stands basis image) logs
all_stand basis image [] newest found sound heads room = tt
all_stand basis image (log ∷ []) newest found sound heads room = (stand basis image log [] newest found.0 sound.0 (all_room (length basis.low) log [] heads room), tt)
all_stand basis image (log ∷ next ∷ logs) newest found sound heads room = (
  stand basis image log (next ∷ logs) newest found.0 sound.0 (all_room (length basis.low) log (next ∷ logs) heads room),
  all_stand basis image (next ∷ logs) newest found.1 sound.1 heads.2 (λ older last is. room (log ∷ older) last (ap (λ (ls : List Log). log ∷ ls) is)),
)

-- ---- the scene

starts : (basis : Basis) (logs : List Log) → basis.first ≡ first_of logs → ((part : ℕ) → get_or basis.low part 0 ≡ low_of logs part) → Starts (counts_in basis.low) basis.first logs
starts basis [] first low = tt
starts basis (log ∷ logs) first low = (sym first, λ part. sym (low part))

rise_of : (parts : ℕ) (counts : Counts) (number : ℕ) (logs : List Log) (recs : List Rec) (gives : Gives parts counts number logs recs) → NumbersRise (map found_of logs) → HeadsRise logs
    → TracksRise 0 0 (tracks_of parts counts number logs recs gives)
rise_of parts counts number [] recs gives numbers heads = tt
rise_of parts counts number (log ∷ logs) recs gives numbers heads = all_rise 0 0 parts counts number log logs recs gives numbers heads (omega arith) (omega arith)

reach_of_logs : (parts : ℕ) (counts : Counts) (number : ℕ) (logs : List Log) (recs : List Rec) (gives : Gives parts counts number logs recs) → number ≡ first_of logs
    → reach_from 0 (tracks_of parts counts number logs recs gives) ≡ end_of logs recs
reach_of_logs parts counts number [] recs gives first = refl
reach_of_logs parts counts number (log ∷ logs) recs gives first = all_reach 0 parts counts number log logs recs gives (sym first) ∙ omega (arith, first)

-- what the volume has written is what it has
written_is : {L : Type 0} (view : View) (in_writing : L → Bool) → Settled view in_writing → (number : ℕ) → view.written (log_name number) ≡ bytes_of (view.contents (log_name number))
written_is view in_writing settled number = settled.written (log_name number) refl

bound_of : (view : View) (number : ℕ) (bytes : List ℕ) → view.written (log_name number) ≡ bytes_of (view.contents (log_name number)) → view.contents (log_name number) ≡ Some bytes
    → length bytes ≤ length (view.written (log_name number))
bound_of view number bytes written is = omega (arith, ap length (written ∙ ap bytes_of is))

known_by : (parts : ℕ) (counts : Counts) (number : ℕ) (logs : List Log) (recs : List Rec) (gives : Gives parts counts number logs recs) (n : ℕ) (bytes : List ℕ)
    → ((found : Found) × Contains (map found_of logs) found × (found.number ≡ n)) ⊎ NoFrame n bytes → HasNumber (tracks_of parts counts number logs recs gives) n ⊎ NoFrame n bytes
known_by parts counts number logs recs gives n bytes (inl (found, has, is)) = inl (has_log parts counts number logs recs gives found n (among (map found_of logs) found has) is)
known_by parts counts number logs recs gives n bytes (inr none) = inr none

-- above the newest name there is none
none_above : (image : Image) (newest number : ℕ) (found : Option (List ℕ)) → IsNewestName image newest → newest < number → image (log_name number) ≡ found → found ≡ None
none_above image newest number None names above is = refl
none_above image newest number (Some bytes) names above is = absurd (omega (arith, above, names.most number (some_is (image (log_name number)) bytes is)))

-- what is known where a settled volume was opened
record Opened (basis : Basis) (view : View) : Type 0 where
  found : IsFound view.contents basis
  may : (image : Image) → view.may_leave image → image ≡ view.contents
  written : (number : ℕ) → view.written (log_name number) ≡ bytes_of (view.contents (log_name number))

gives_of : (basis : Basis) (view : View) (opened : Opened basis view) → Gives (length basis.low) (counts_in basis.low) basis.first opened.found.logs basis.opened
gives_of basis view opened =
    let found = opened.found in
    subst (λ (n : ℕ). Gives (length basis.low) (counts_in basis.low) n found.logs basis.opened) (sym found.first)
    (Gives-same (length basis.low) (low_of found.logs) (counts_in basis.low) (first_of found.logs) found.logs basis.opened (λ part. sym (found.low part)) found.opens.gives)

abbrev tracks_in : (basis : Basis) (view : View) → Opened basis view → List Track
tracks_in basis view opened = tracks_of (length basis.low) (counts_in basis.low) basis.first opened.found.logs basis.opened (gives_of basis view opened)

abbrev scene_of : (basis : Basis) (view : View) → Opened basis view → Scene
scene_of basis view opened = record { tracks = tracks_in basis view opened; gone = 0; removed = 0; list = []; released = basis.low; written = view.written }

all_stand_in : (basis : Basis) (view : View) (opened : Opened basis view) → AllByRecursion (Stands basis view.contents) opened.found.logs
all_stand_in basis view opened =
    let found = opened.found in
    all_stand basis view.contents found.logs found.newest found.opens.found.stand found.opens.heads.0 found.opens.heads.1 found.opens.room

-- the list that was opened is what was found
opened_list : (basis : Basis) → all_recs basis [] ≡ basis.opened
opened_list basis = append-nil basis.opened

scene_is : (basis : Basis) (view : View) (opened : Opened basis view) → IsScene basis (scene_of basis view opened)
scene_is basis view opened =
    let found = opened.found in
    let gives = gives_of basis view opened in
    let low = counts_in basis.low in
    record {
      in_order = subst (InOrder (length basis.low) low basis.first) (sym (opened_list basis)) (AllInOrder (length basis.low) low basis.first found.logs basis.opened gives);
      tracks = subst (λ (rs : List Rec). AreTracks low basis.first rs (tracks_in basis view opened)) (sym (opened_list basis))
          (are_tracks (length basis.low) low basis.first found.logs basis.opened gives (starts basis found.logs found.first found.low));
      sound = all_sound basis view.contents view.written (length basis.low) low basis.first found.logs basis.opened gives (all_stand_in basis view opened);
      rise = rise_of (length basis.low) low basis.first found.logs basis.opened gives found.opens.found.rise found.opens.heads.1;
      released = λ part. omega arith;
      remains = omega arith;
      gone_among = omega arith;
      one_in_doubt = omega arith;
      sure_left = inl refl;
    }

shows_contents : (basis : Basis) (view : View) (opened : Opened basis view) → Shows (scene_of basis view opened) view.contents
shows_contents basis view opened =
    let found = opened.found in
    let gives = gives_of basis view opened in
    record {
      gone = 0;
      has_gone = omega arith;
      may_go = omega arith;
      absent = tt;
      left = all_left basis view.contents (length basis.low) (counts_in basis.low) basis.first found.logs basis.opened gives (all_stand_in basis view opened);
      bound = λ number bytes is. bound_of view number bytes (opened.written number) is;
      others = λ number bytes is. known_by (length basis.low) (counts_in basis.low) basis.first found.logs basis.opened gives number bytes (found.opens.found.others number bytes is);
    }

seen_opened : (basis : Basis) (view : View) (opened : Opened basis view) → IsSeen basis (scene_of basis view opened) basis.newest view
seen_opened basis view opened =
    let found = opened.found in
    let none : (number : ℕ) → basis.newest < number → view.contents (log_name number) ≡ None =
    λ number above. none_above view.contents basis.newest number (view.contents (log_name number)) found.newest above refl in
    record {
      is = scene_is basis view opened;
      written = refl;
      images = λ image left. subst (Shows (scene_of basis view opened)) (sym (opened.may image left)) (shows_contents basis view opened);
      unwritten = λ number above. opened.written number ∙ ap bytes_of (none number above);
      absent = λ number above image left. ap (λ (i : Image). i (log_name number)) (opened.may image left) ∙ none number above;
      below = all_below basis view.contents (length basis.low) (counts_in basis.low) basis.first found.logs basis.opened (gives_of basis view opened) (all_stand_in basis view opened);
    }

-- the first log begins with a number above 0, so what was opened is what a book counts as synced
before_opened : (basis : Basis) (logs : List Log) (book : Book) → basis.first ≡ first_of logs → AllByRecursion IsSoundLog logs → basis.reached ≡ end_of logs basis.opened → book.reach ≡ basis.reached
    → (logs ≡ [] → basis.opened ≡ []) → length basis.opened ≡ before_unsynced basis book
before_opened basis [] book first sound reached at none = omega (arith, first, reached, at, ap length (none refl))
before_opened basis (log ∷ logs) book first sound reached at none =
    let one = sound.0.1.first in
    omega (arith, first, reached, at, one)

no_records : (parts : ℕ) (counts : Counts) (number : ℕ) (logs : List Log) (recs : List Rec) → Gives parts counts number logs recs → logs ≡ [] → recs ≡ []
no_records parts counts number [] recs gives is = gives
no_records parts counts number (log ∷ []) recs gives is = absurd (omega (arith, ap length is))
no_records parts counts number (log ∷ next ∷ logs) recs gives is = absurd (omega (arith, ap length is))

story_opened : (basis : Basis) (view : View) (book : Book) (opened : Opened basis view) → IsFresh basis opened.found.logs book → IsStory basis [] book view (scene_of basis view opened)
story_opened basis view book opened fresh =
    let found = opened.found in
    let gives = gives_of basis view opened in
    record {
      seen = subst (λ (n : ℕ). IsSeen basis (scene_of basis view opened) n view) (sym fresh.newest) (seen_opened basis view opened);
      list = refl;
      released = sym fresh.released;
      sure = all_sure (length basis.low) (counts_in basis.low) basis.first found.logs basis.opened gives
          ∙ before_opened basis found.logs book found.first found.opens.heads.0 found.reached fresh.reach (no_records (length basis.low) (counts_in basis.low) basis.first found.logs basis.opened gives);
      reach = reach_of_logs (length basis.low) (counts_in basis.low) basis.first found.logs basis.opened gives found.first ∙ sym found.reached ∙ sym fresh.reach;
      logs = all_known (length basis.low) (counts_in basis.low) basis.first found.logs basis.opened gives ∙ sym fresh.logs;
      anchor = subst (λ (n : ℕ). ((book.reach ≡ 0) × (n ≡ 0)) ⊎ HasSure n (tracks_in basis view opened)) (sym fresh.anchor)
          (subst (λ (n : ℕ). ((n ≡ 0) × (last_number found.logs ≡ 0)) ⊎ HasSure (last_number found.logs) (tracks_in basis view opened)) (sym (fresh.reach ∙ found.reached))
          (anchor_of (length basis.low) (counts_in basis.low) basis.first found.logs basis.opened gives));
      writing = subst (λ (w : Option ℕ). IfSome w (λ len. IsOpenLog (scene_of basis view opened) view.contents book.newest len)) (sym fresh.writing) tt;
    }

pub OpeningReaches : OpeningReachesLaw
OpeningReaches L basis book view in_writing settled only found fresh =
    let opened : Opened basis view = record { found = found; may = settled.only; written = λ number. written_is view in_writing settled number } in
    let scene = scene_of basis view opened in
    let story = story_opened basis view book opened fresh in
    (scene, story, subst (Since basis scene view view.moment) (story.reach ∙ fresh.reach) (SinceNow basis scene basis.newest view (seen_opened basis view opened) only))
