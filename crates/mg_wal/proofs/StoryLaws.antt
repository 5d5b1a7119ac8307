-- What appending and syncing make of the newest log, in one call.
use Rattle.std.proofs.Common.{◌≡◌, ℕ, ◌+◌, ◌≤◌, inl, inr, List, [], ◌∷◌, ◌++◌, length, drop, Some, refl, sym, ap, subst, ◌∙◌, arith, append_assoc, Result, Ok, Err, map}
use Rattle.std.proofs.lemmas.List.{append-nil, drop-append-le, length-append, take-append-drop, map-append}
use Rattle.std.specs.Prelude.{IfOk, IsErr, MatchResult, OnOk, OnErr, is_ok}
use Rattle.mg_disk.specs.Images.{AppendFailed, Appended, Image, NameInDoubt, NameSet, Stays, Synced, View}
use Rattle.mg_frame.specs.Frames.{frames}
use Rattle.mg_types.specs.declared.names.Name.{Name}
use Rattle.mg_wal_format.specs.declared.record.Rec.{Rec}
use Rattle.mg_wal_format.specs.Recovery.{log_name}
use Rattle.mg_wal_format.specs.Torn.{plan_entries, Plan}
use Rattle.mg_wal.specs.declared.known.KnownLog.{KnownLog}
use Rattle.mg_wal.specs.Lists.{Basis}
use Rattle.mg_wal.specs.Moves.{begun_track, grown_track, synced_track, IsGrowing, IsNextPlan}
use Rattle.mg_wal.specs.Scenes.{name_of, reach_from, sure_in, Scene, Track, known_of}
use Rattle.mg_wal.specs.Stories.{AppendKeeps, BeginKeeps, Goes, IsAsSure, IsWhole, Wrote}
use Rattle.mg_wal.specs.Times.{IsSeen, KeepsSince, KeepsAnchors}
use Rattle.mg_wal.proofs.MoveLaws.{begun_move, grown_move, reach_append, stays_move, synced_move}
use Rattle.mg_wal.proofs.TrackLaws.{some_one}
use Rattle.mg_wal.proofs.StepLaws.{scene_behind}

-- ---- results

-- what holds on an error that comes in place of another holds where that other one came
pub of_error : {T E F : Type 0} (one : Result T E) (other : Result T F) (e : F) (P : Type 0) → is_ok other ≡ is_ok one → other ≡ Err e → OnErr one P → P
of_error (Ok x) other e P same is on = absurd (cc)
of_error (Err e') other e P same is on = on

pub of_value : {T E F : Type 0} (one : Result T E) (other : Result T F) (x : T) (P : Type 0) → is_ok other ≡ is_ok one → other ≡ Ok x → OnOk one P → P
of_value (Ok y) other x P same is on = on
of_value (Err e) other x P same is on = absurd (cc)

pub of_named_value : {T E F : Type 0} (one : Result T E) (other : Result T F) (x : T) (P : T → Type 0) (Q : E → Type 0) → MatchResult one (λ y. other ≡ Ok y) Q → is_ok other ≡ is_ok one → other ≡ Ok x → IfOk one P → P x
of_named_value (Ok y) other x P Q cases same is on =
    let one : y ≡ x = cc in subst P one on
of_named_value (Err e) other x P Q cases same is on = absurd (cc)

-- the same for both variants
pub by_variant : {T E F U : Type 0} (one : Result T E) (other : Result U F) (P Q : Type 0) → is_ok other ≡ is_ok one → OnOk one P → OnErr one Q → OnOk other P × OnErr other Q
by_variant (Ok x) (Ok y) P Q same on err = (on, err)
by_variant (Err e) (Err f) P Q same on err = (on, err)
by_variant (Ok x) (Err f) P Q same on err = absurd (cc)
by_variant (Err e) (Ok y) P Q same on err = absurd (cc)

pub no_value : {T E : Type 0} (result : Result T E) (e : E) (P : Type 0) → result ≡ Err e → OnOk result P
no_value (Ok x) e P is = absurd (cc)
no_value (Err f) e P is = tt

pub no_error : {T E : Type 0} (result : Result T E) (x : T) (P : Type 0) → result ≡ Ok x → OnErr result P
no_error (Ok y) x P is = tt
no_error (Err e) x P is = absurd (cc)

pub if_value : {T E : Type 0} (result : Result T E) (P : Type 0) → P → OnOk result P
if_value (Ok x) P p = p
if_value (Err e) P p = tt

pub if_error : {T E : Type 0} (result : Result T E) (P : Type 0) → P → OnErr result P
if_error (Ok x) P p = tt
if_error (Err e) P p = p

-- ---- an append and a sync

pub sure_append : (older tracks : List Track) → sure_in (older ++ tracks) ≡ sure_in older + sure_in tracks
sure_append [] tracks = omega arith
sure_append (track ∷ older) tracks = omega (arith, sure_append older tracks)

-- as much is sure of a log to which more was written
grown_as_sure : (basis : Basis) (scene : Scene) (newest : ℕ) (old new : View) (older : List Track) (track : Track) (recs : List Rec) → IsSeen basis scene newest old → scene.tracks ≡ older ++ track ∷ []
    → IsAsSure scene (scene_behind scene new older (grown_track track recs))
grown_as_sure basis scene newest old new older track recs seen tracks =
    let kept : scene.removed ≤ length older = let r = seen.is.remains in omega (arith, r, ap length tracks, length-append older (track ∷ [])) in
    let all = drop scene.removed older in (
      omega (arith, sure_append older (track ∷ []), sure_append older (grown_track track recs ∷ []), ap sure_in tracks),
      ap (reach_from 0) (drop-append-le scene.removed older (grown_track track recs ∷ []) kept) ∙ reach_append 0 all (grown_track track recs ∷ []) ∙ sym (reach_append 0 all (track ∷ []))
          ∙ ap (reach_from 0) (sym (ap (drop scene.removed) tracks ∙ drop-append-le scene.removed older (track ∷ []) kept)),
    )

-- a log that is written to has the number and the head that it had
logs_same : (scene : Scene) (older : List Track) (track other : Track) → scene.tracks ≡ older ++ track ∷ [] → known_of other ≡ known_of track → map known_of (older ++ other ∷ []) ≡ map known_of scene.tracks
logs_same scene older track other tracks same =
    map-append known_of older (other ∷ []) ∙ ap (λ (k : KnownLog). map known_of older ++ k ∷ []) same ∙ sym (map-append known_of older (track ∷ [])) ∙ ap (map known_of) (sym tracks)

fewer_bytes : (basis : Basis) (scene : Scene) (older : List Track) (track : Track) (recs : List Rec) (bytes front rest : List ℕ) → bytes ≡ front ++ rest → IsGrowing basis scene older track recs bytes
    → IsGrowing basis scene older track recs front
fewer_bytes basis scene older track recs bytes front rest is growing =
    record {
      tracks = growing.tracks;
      begun = growing.begun;
      extra = growing.extra;
      longer = growing.longer;
      is_front = growing.is_front;
      behind = rest ++ growing.behind;
      written =
          let was = scene.written (name_of track) in
          growing.written ∙ ap (λ (l : List ℕ). (was ++ l) ++ growing.behind) is ∙ ap (λ (l : List ℕ). l ++ growing.behind) (sym (append_assoc was front rest)) ∙ append_assoc (was ++ front) rest growing.behind;
    }

pub put_failed : (basis : Basis) (scene : Scene) (newest : ℕ) (old new : View) (older : List Track) (track : Track) (recs : List Rec) (bytes : List ℕ) → IsSeen basis scene newest old
    → IsGrowing basis scene older track recs bytes → old.may_leave old.contents → AppendFailed (name_of track) bytes old new → Goes basis scene newest (map known_of scene.tracks) old new (IsAsSure scene)
put_failed basis scene newest old new older track recs bytes seen growing may (inl stays) =
    let moved = stays_move basis scene newest old new seen stays in
    record { next = scene; seen = moved.0; keeps = moved.1; list = refl; released = refl; gone = refl; logs = refl; anchors = λ number has. has; then = (refl, refl) }
put_failed basis scene newest old new older track recs bytes seen growing may (inr part) =
    let fewer = fewer_bytes basis scene older track recs bytes part.front (drop (length part.front) bytes)
    (sym (take-append-drop (length part.front) bytes) ∙ ap (λ (l : List ℕ). l ++ drop (length part.front) bytes) part.is_front) growing in
    let moved = grown_move basis scene newest old new older track recs part.front seen fewer part.appended may in
    record {
      next = scene_behind scene new older (grown_track track recs);
      seen = moved.0;
      keeps = moved.1;
      list = refl;
      released = refl;
      gone = refl;
      logs = logs_same scene older track (grown_track track recs) growing.tracks refl;
      anchors = moved.2;
      then = grown_as_sure basis scene newest old new older track recs seen growing.tracks;
    }

pub sync_failed : (basis : Basis) (scene : Scene) (newest : ℕ) (old between new : View) (older : List Track) (track : Track) (recs : List Rec) (bytes : List ℕ) → IsSeen basis scene newest old
    → IsGrowing basis scene older track recs bytes → old.may_leave old.contents → Appended (name_of track) bytes old between → Stays between new → Goes basis scene newest (map known_of scene.tracks) old new (IsAsSure scene)
sync_failed basis scene newest old between new older track recs bytes seen growing may appended stays =
    let one = grown_move basis scene newest old between older track recs bytes seen growing appended may in
    let next = scene_behind scene between older (grown_track track recs) in
    let two = stays_move basis next newest between new one.0 stays in
    record {
      next = next;
      seen = two.0;
      keeps = λ time reach since. two.1 time reach (one.1 time reach since);
      list = refl;
      released = refl;
      gone = refl;
      logs = logs_same scene older track (grown_track track recs) growing.tracks refl;
      anchors = one.2;
      then = grown_as_sure basis scene newest old between older track recs seen growing.tracks;
    }

pub put_synced : (basis : Basis) (scene : Scene) (newest : ℕ) (old between new : View) (older : List Track) (track : Track) (recs : List Rec) (bytes : List ℕ) → IsSeen basis scene newest old
    → IsGrowing basis scene older track recs bytes → old.may_leave old.contents → between.may_leave between.contents → old.contents (name_of track) ≡ Some (scene.written (name_of track))
    → frames (plan_entries (grown_track track recs).plan) ≡ scene.written (name_of track) ++ bytes → Appended (name_of track) bytes old between → Synced (name_of track) between new
    → Goes basis scene newest (map known_of scene.tracks) old new (λ next. IsWhole next new.contents older (grown_track track recs).plan)
put_synced basis scene newest old between new older track recs bytes seen growing may may' there all appended synced =
    let name = name_of track in
    let one = grown_move basis scene newest old between older track recs bytes seen growing appended may in
    let next = scene_behind scene between older (grown_track track recs) in
    let log : appended.log ≡ scene.written name = some_one (old.contents name) appended.log (scene.written name) appended.found there in
    let contents : between.contents name ≡ Some (frames (plan_entries (grown_track track recs).plan)) =
    appended.contents.at ∙ ap (λ (l : List ℕ). Some (l ++ bytes)) log ∙ ap (λ (l : List ℕ). Some l) (sym all) in
    let two = synced_move basis next newest between new older (grown_track track recs) one.0 refl refl synced may' contents in
    record {
      next = scene_behind next new older (synced_track (grown_track track recs));
      seen = two.0;
      keeps = λ time reach since. two.1 time reach (one.1 time reach since);
      list = refl;
      released = refl;
      gone = refl;
      logs = logs_same scene older track (synced_track (grown_track track recs)) growing.tracks refl;
      anchors = λ number has. two.2 number (one.2 number has);
      then = record {
        tracks = refl;
        contents = ap (λ (i : Image). i name) synced.contents ∙ contents;
        written = ap (λ (w : Name → List ℕ). w name) synced.written ∙ appended.at ∙ ap (λ (w : Name → List ℕ). w name ++ bytes) (sym seen.written) ∙ sym all;
      };
    }

-- ---- what the call answers

-- an error
pub wrote_error : {T E : Type 0} (basis : Basis) (scene : Scene) (newest : ℕ) (known : List KnownLog) (older : List Track) (plan : Plan) (old new : View) (result : Result T E) → IsErr result
    → Goes basis scene newest known old new (IsAsSure scene) → Wrote basis scene newest known older plan old new result
wrote_error basis scene newest known older plan old new (Ok x) is goes = absurd (cc)
wrote_error basis scene newest known older plan old new (Err e) is goes = (tt, goes)

-- what a sync behind an append answers
synced_or_not : {T E : Type 0} (basis : Basis) (scene : Scene) (newest : ℕ) (old between new : View) (older : List Track) (track : Track) (recs : List Rec) (bytes : List ℕ) (result : Result T E) → IsSeen basis scene newest old
    → IsGrowing basis scene older track recs bytes → old.may_leave old.contents → between.may_leave between.contents → old.contents (name_of track) ≡ Some (scene.written (name_of track))
    → frames (plan_entries (grown_track track recs).plan) ≡ scene.written (name_of track) ++ bytes → Appended (name_of track) bytes old between → OnOk result (Synced (name_of track) between new)
    → OnErr result (Stays between new) → Wrote basis scene newest (map known_of scene.tracks) older (grown_track track recs).plan old new result
synced_or_not basis scene newest old between new older track recs bytes (Ok x) seen growing may may' there all appended synced stays =
    (put_synced basis scene newest old between new older track recs bytes seen growing may may' there all appended synced, tt)
synced_or_not basis scene newest old between new older track recs bytes (Err e) seen growing may may' there all appended synced stays =
    (tt, sync_failed basis scene newest old between new older track recs bytes seen growing may appended stays)

pub sync_keeps : {T E U F : Type 0} (name : Name) (old between new : View) (bytes : List ℕ) (result : Result T E) (mapped : Result U F) → is_ok mapped ≡ is_ok result → old.may_leave old.contents → between.may_leave between.contents
    → Appended name bytes old between → OnOk result (Synced name between new) → OnErr result (Stays between new) → AppendKeeps name bytes old new mapped
sync_keeps name old between new bytes result mapped same may may' appended synced stays basis scene newest older track recs seen growing named there all =
    let wrote = synced_or_not basis scene newest old between new older track recs bytes result seen growing may may' (subst (λ (n : Name). old.contents n ≡ Some (scene.written n)) named there)
    (subst (λ (n : Name). frames (plan_entries (grown_track track recs).plan) ≡ scene.written n ++ bytes) named all) (subst (λ (n : Name). Appended n bytes old between) named appended)
    (subst (λ (n : Name). OnOk result (Synced n between new)) named synced) stays in
    by_variant result mapped _ _ same wrote.0 wrote.1

pub append_keeps : {T E U F G : Type 0} (name : Name) (old new : View) (bytes : List ℕ) (result : Result T E) (mapped : Result T F) (e : F) (answer : Result U G) → is_ok mapped ≡ is_ok result → mapped ≡ Err e → IsErr answer
    → old.may_leave old.contents → OnErr result (AppendFailed name bytes old new) → AppendKeeps name bytes old new answer
append_keeps name old new bytes result mapped e answer same is error may failed basis scene newest older track recs seen growing named there all =
    wrote_error basis scene newest (map known_of scene.tracks) older (grown_track track recs).plan old new answer error
    (put_failed basis scene newest old new older track recs bytes seen growing may
    (subst (λ (n : Name). AppendFailed n bytes old new) named (of_error result mapped e _ same is failed)))

-- ---- a log is begun

begun_as_sure : (basis : Basis) (scene : Scene) (newest : ℕ) (old new : View) (plan : Plan) → IsSeen basis scene newest old → IsAsSure scene (scene_behind scene new scene.tracks (begun_track plan))
begun_as_sure basis scene newest old new plan seen =
    let kept : scene.removed ≤ length scene.tracks = let r = seen.is.remains in omega (arith, r) in
    let all = drop scene.removed scene.tracks in (
      omega (arith, sure_append scene.tracks (begun_track plan ∷ [])),
      ap (reach_from 0) (drop-append-le scene.removed scene.tracks (begun_track plan ∷ []) kept) ∙ reach_append 0 all (begun_track plan ∷ []),
    )

doubt_goes : (basis : Basis) (scene : Scene) (newest : ℕ) (old new : View) (plan : Plan) → IsSeen basis scene newest old → IsNextPlan basis scene newest plan
    → NameInDoubt (log_name plan.number) (Some []) old new → Goes basis scene plan.number (map known_of scene.tracks ++ known_of (begun_track plan) ∷ []) old new (IsAsSure scene)
doubt_goes basis scene newest old new plan seen next doubt =
    let moved = begun_move basis scene newest old new plan seen next (inr doubt) in
    record {
      next = scene_behind scene new scene.tracks (begun_track plan);
      seen = moved.0;
      keeps = moved.1;
      list = refl;
      released = refl;
      gone = refl;
      logs = map-append known_of scene.tracks (begun_track plan ∷ []);
      anchors = moved.2;
      then = begun_as_sure basis scene newest old new plan seen;
    }

-- the log is begun, and then the append and the sync went well or not
goes_through : (basis : Basis) (scene between : Scene) (newest : ℕ) (known : List KnownLog) (old middle new : View) (P Q : Scene → Type 0) → KeepsSince basis scene between old middle → KeepsAnchors scene between
    → between.list ≡ scene.list → between.released ≡ scene.released → between.gone ≡ scene.gone → map known_of between.tracks ≡ known → ((next : Scene) → P next → Q next)
    → Goes basis between newest (map known_of between.tracks) middle new P → Goes basis scene newest known old new Q
goes_through basis scene between newest known old middle new P Q keeps anchors list released gone logs follow goes =
    record {
      next = goes.next;
      seen = goes.seen;
      keeps = λ time reach since. goes.keeps time reach (keeps time reach since);
      list = goes.list ∙ list;
      released = goes.released ∙ released;
      gone = goes.gone ∙ gone;
      logs = goes.logs ∙ logs;
      anchors = λ number has. goes.anchors number (anchors number has);
      then = follow goes.next goes.then;
    }

on_ok_by : {T E : Type 0} (result : Result T E) (P Q : Type 0) → (P → Q) → OnOk result P → OnOk result Q
on_ok_by (Ok x) P Q follow on = follow on
on_ok_by (Err e) P Q follow on = tt

on_err_by : {T E : Type 0} (result : Result T E) (P Q : Type 0) → (P → Q) → OnErr result P → OnErr result Q
on_err_by (Ok x) P Q follow on = tt
on_err_by (Err e) P Q follow on = follow on

begun_growing : (basis : Basis) (scene : Scene) (newest : ℕ) (old new : View) (plan : Plan) (bytes : List ℕ) → IsNextPlan basis scene newest plan → new.written (log_name plan.number) ≡ [] → bytes ≡ frames (plan_entries plan)
    → IsGrowing basis (scene_behind scene new scene.tracks (begun_track plan)) scene.tracks (begun_track plan) plan.recs bytes
begun_growing basis scene newest old new plan bytes next none are =
    record {
      tracks = refl;
      begun = refl;
      extra = [];
      longer = sym (append-nil plan.recs);
      is_front = λ mine rest split mine_are. let is_for = next.is_for mine rest split mine_are in (is_for.more, is_for.front);
      behind = [];
      written = sym are ∙ ap (λ (l : List ℕ). l ++ bytes) (sym none) ∙ sym (append-nil (new.written (log_name plan.number) ++ bytes));
    }

set_then : {T E : Type 0} (basis : Basis) (scene : Scene) (newest : ℕ) (old between new : View) (plan : Plan) (bytes : List ℕ) (result : Result T E) → IsSeen basis scene newest old → IsNextPlan basis scene newest plan
    → bytes ≡ frames (plan_entries plan) → NameSet (log_name plan.number) (Some []) old between → AppendKeeps (log_name plan.number) bytes between new result
    → Wrote basis scene plan.number (map known_of scene.tracks ++ known_of (begun_track plan) ∷ []) scene.tracks plan old new result
set_then basis scene newest old between new plan bytes result seen next are set tells =
    let name = log_name plan.number in
    let one = begun_move basis scene newest old between plan seen next (inl set) in
    let started = scene_behind scene between scene.tracks (begun_track plan) in
    let none : between.written name ≡ [] = ap (λ (w : Name → List ℕ). w name) set.written ∙ seen.unwritten plan.number next.above in
    let sure = begun_as_sure basis scene newest old between plan seen in
    let known = map known_of scene.tracks ++ known_of (begun_track plan) ∷ [] in
    let logs : map known_of started.tracks ≡ known = map-append known_of scene.tracks (begun_track plan ∷ []) in
    let wrote = tells basis started plan.number scene.tracks (begun_track plan) plan.recs one.0 (begun_growing basis scene newest old between plan bytes next none are) refl
    (set.contents.at ∙ ap (λ (l : List ℕ). Some l) (sym none)) (sym are ∙ ap (λ (l : List ℕ). l ++ bytes) (sym none)) in (
      on_ok_by result _ _ (goes_through basis scene started plan.number known old between new (λ last. IsWhole last new.contents scene.tracks plan) (λ last. IsWhole last new.contents scene.tracks plan) one.1 one.2 refl refl refl logs (λ last whole. whole)) wrote.0,
      on_err_by result _ _ (goes_through basis scene started plan.number known old between new (IsAsSure started) (IsAsSure scene) one.1 one.2 refl refl refl logs (λ last same. (same.0 ∙ sure.0, same.1 ∙ sure.1))) wrote.1,
    )

pub set_keeps : {T E : Type 0} (name : Name) (number : ℕ) (old between new : View) (bytes : List ℕ) (result : Result T E) → name ≡ log_name number → NameSet (log_name number) (Some []) old between
    → AppendKeeps name bytes between new result → BeginKeeps number bytes old new result
set_keeps name number old between new bytes result named set tells basis scene newest plan seen next at are =
    subst (λ (n : ℕ). Wrote basis scene n (map known_of scene.tracks ++ known_of (begun_track plan) ∷ []) scene.tracks plan old new result) at
    (set_then basis scene newest old between new plan bytes result seen next are (subst (λ (n : ℕ). NameSet (log_name n) (Some []) old between) (sym at) set)
    (subst (λ (n : Name). AppendKeeps n bytes between new result) (named ∙ ap log_name (sym at)) tells))

pub doubt_keeps : {T E U F G : Type 0} (number : ℕ) (old new : View) (bytes : List ℕ) (result : Result T E) (mapped : Result T F) (e : F) (answer : Result U G) → is_ok mapped ≡ is_ok result → mapped ≡ Err e → IsErr answer
    → OnErr result (NameInDoubt (log_name number) (Some []) old new) → BeginKeeps number bytes old new answer
doubt_keeps number old new bytes result mapped e answer same is error doubt basis scene newest plan seen next at are =
    wrote_error basis scene number (map known_of scene.tracks ++ known_of (begun_track plan) ∷ []) scene.tracks plan old new answer error
    (subst (λ (n : ℕ). Goes basis scene n (map known_of scene.tracks ++ known_of (begun_track plan) ∷ []) old new (IsAsSure scene)) at
    (doubt_goes basis scene newest old new plan seen next (subst (λ (n : ℕ). NameInDoubt (log_name n) (Some []) old new) (sym at) (of_error result mapped e _ same is doubt))))

-- what a call answers goes on with another answer of the same variant
pub begin_by : {T E U F : Type 0} (number : ℕ) (old new : View) (bytes : List ℕ) (result : Result T E) (answer : Result U F) → is_ok answer ≡ is_ok result → BeginKeeps number bytes old new result
    → BeginKeeps number bytes old new answer
begin_by number old new bytes result answer same tells basis scene newest plan seen next at are =
    let wrote = tells basis scene newest plan seen next at are in
    by_variant result answer _ _ same wrote.0 wrote.1
