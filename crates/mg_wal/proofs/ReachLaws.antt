-- What a sync, a reserved record and a pushed one make of what the state reaches.
use Rattle.std.proofs.Common.{◌≡◌, ℕ, ◌+◌, ◌<◌, ◌≤◌, ◌^◌, ◌⊎◌, inl, inr, List, [], ◌∷◌, ◌++◌, length, map, take, drop, Option, None, Some, refl, sym, ap, subst, ◌∙◌, arith, append_assoc, Result, Ok, Err}
use Rattle.std.proofs.lemmas.List.{append-nil, drop-append-le, drop_at, length-append, length-drop, map-append, take_at, drop-map, length-map}
use Rattle.std.specs.Prelude.{IfSome, OnOk, OnErr}
use Rattle.mg_disk.specs.Images.{HoldsBytes, Image, View}
use Rattle.mg_frame.specs.Frame.{frame}
use Rattle.mg_frame.specs.Frames.{frames}
use Rattle.mg_frame.proofs.FramesLaws.{frames-append}
use Rattle.mg_types.specs.declared.names.Name.{Name}
use Rattle.mg_wal_format.specs.declared.record.Rec.{Rec}
use Rattle.mg_wal_format.specs.Chains.{IsFor}
use Rattle.mg_wal_format.specs.Heads.{head_bytes, IsSoundHead}
use Rattle.mg_wal_format.specs.Logs.{counts_after, entry_of, InOrder}
use Rattle.mg_wal_format.specs.Records.{counts_in}
use Rattle.mg_wal_format.specs.Recovery.{log_name, ByNoChance}
use Rattle.mg_wal_format.specs.Torn.{plan_entries, Plan}
use Rattle.mg_wal_format.proofs.ReadingLaws.{none_is_not_found}
use Rattle.mg_wal.specs.Book.{after_push, after_reserve, synced_of, Book, Entry}
use Rattle.mg_wal.specs.declared.known.KnownLog.{KnownLog}
use Rattle.mg_wal.specs.Lists.{all_recs, before_unsynced, next_of, unsynced, Basis, Books, IsEmpty, IsNextOf}
use Rattle.mg_wal.specs.Moves.{begun_track, grown_track, synced_track, IsGrowing, IsNextPlan}
use Rattle.mg_wal.specs.Scenes.{reach_from, scene_reach, sure_in, AreTracks, LeavesPrefix, Scene, Track, known_of, left_of, HasSure}
use Rattle.mg_wal.specs.Stories.{AppendKeeps, BeginKeeps, ExtendKeeps, Goes, IsAsSure, IsOpenLog, IsStory, IsWhole, KeepsReach, KeepsReachWith, Reaches, Wrote}
use Rattle.mg_wal.specs.Syncs.{begun_bytes, head_for, synced_in, begun_in, next_log}
use Rattle.mg_wal.specs.Times.{IsSeen, Since, KeepsAnchors}
use Rattle.mg_wal.proofs.BookLaws.{push_keeps_each}
use Rattle.mg_wal.proofs.MoveLaws.{longer_move, reach_append, scene_with}
use Rattle.mg_wal.proofs.SceneLaws.{split_at}
use Rattle.mg_wal.proofs.StoryLaws.{sure_append}
use Rattle.mg_wal.proofs.StepLaws.{sure_last}
use Rattle.mg_wal.proofs.SyncLaws.{noted}
use Rattle.mg_wal.proofs.TimeLaws.{SinceNow, SinceOpens}

-- ---- what is not synced

-- the list's records are not fewer than the synced ones, which begin with the first
synced_among : (basis : Basis) (list : List Entry) (book : Book) → Books basis list book → (basis.first ≤ synced_of book + 1) × (before_unsynced basis book ≤ length (all_recs basis list))
synced_among basis list book books = among books.reached
  where
    among : IsEmpty basis ⊎ (basis.reached ≡ next_of basis) → (basis.first ≤ synced_of book + 1) × (before_unsynced basis book ≤ length (all_recs basis list))
    among (inl none) = (omega (arith, none.1), omega (arith, books.reach.1, books.last))
    among (inr found) = (omega (arith, found, books.reach.0, books.first), omega (arith, books.reach.1, books.last))

-- a part of a list by its place
behind_all : (all mine recs more : List Rec) (count : ℕ) → all ≡ mine ++ (recs ++ more) → count ≡ length mine + length recs → more ≡ drop count all
behind_all all mine recs more count is at =
    sym (ap (drop count) (is ∙ sym (append_assoc mine recs more)) ∙ drop_at (mine ++ recs) more count (omega (arith, at, length-append mine recs)))

-- ---- all of the newest log is sure

whole_sure : (basis : Basis) (next : Scene) (newest : ℕ) (new : View) (older : List Track) (plan : Plan) → IsSeen basis next newest new → next.tracks ≡ older ++ synced_track (begun_track plan) ∷ []
    → (sure_in next.tracks ≡ sure_in older + length plan.recs) × (scene_reach next ≡ basis.first + sure_in older + length plan.recs)
whole_sure basis next newest new older plan seen tracks =
    let last = synced_track (begun_track plan) in
    let all = all_recs basis next.list in
    let at = split_at (counts_in basis.low) basis.first all older (last ∷ []) (subst (AreTracks (counts_in basis.low) basis.first all) tracks seen.is.tracks) in
    let kept : next.removed ≤ length older = let r = seen.is.remains in omega (arith, r, ap length tracks, length-append older (last ∷ [])) in
    let reach : scene_reach next ≡ plan.head.first + length plan.recs =
    ap (reach_from 0) (ap (drop next.removed) tracks ∙ drop-append-le next.removed older (last ∷ []) kept) ∙ reach_append 0 (drop next.removed older) (last ∷ []) in
    (omega (arith, ap sure_in tracks, sure_append older (last ∷ [])), omega (arith, reach, at.are.0.first, at.mine_are))

-- the logs behind those that are gone
logs_of : (scene next : Scene) (known logs : List KnownLog) → next.gone ≡ scene.gone → map known_of next.tracks ≡ known → drop scene.gone known ≡ logs → map known_of (drop next.gone next.tracks) ≡ logs
logs_of scene next known logs gone same are =
    sym (drop-map known_of next.gone next.tracks) ∙ ap (drop next.gone) same ∙ ap (λ (n : ℕ). drop n known) gone ∙ are

-- the newest log is sure
sure_newest : (basis : Basis) (next : Scene) (newest : ℕ) (new : View) (older : List Track) (plan : Plan) → IsSeen basis next newest new → next.tracks ≡ older ++ synced_track (begun_track plan) ∷ [] → plan.number ≡ newest
    → HasSure newest (left_of next)
sure_newest basis next newest new older plan seen tracks at =
    let last = synced_track (begun_track plan) in
    let kept : next.removed ≤ length older = let r = seen.is.remains in omega (arith, r, ap length tracks, length-append older (last ∷ [])) in
    subst (HasSure newest) (sym (ap (drop next.removed) tracks ∙ drop-append-le next.removed older (last ∷ []) kept)) (sure_last newest (drop next.removed older) (last ∷ []) (inl (at, omega arith)))

anchor_kept : (reach anchor : ℕ) (scene next : Scene) → KeepsAnchors scene next → ((reach ≡ 0) × (anchor ≡ 0)) ⊎ HasSure anchor (left_of scene) → ((reach ≡ 0) × (anchor ≡ 0)) ⊎ HasSure anchor (left_of next)
anchor_kept reach anchor scene next keeps (inl none) = inl none
anchor_kept reach anchor scene next keeps (inr has) = inr (keeps anchor has)

whole_story : (basis : Basis) (list : List Entry) (book : Book) (scene : Scene) (newest len : ℕ) (known logs : List KnownLog) (old new : View) (older : List Track) (plan : Plan) → drop scene.gone known ≡ logs → Books basis list book → IsStory basis list book old scene
    → plan.number ≡ newest → len ≡ length (frames (plan_entries plan)) → sure_in older + length plan.recs ≡ length (all_recs basis list) → (goes : Goes basis scene newest known old new (λ next. IsWhole next new.contents older plan))
    → IsStory basis list (synced_in newest len (record book { logs = logs })) new goes.next
whole_story basis list book scene newest len known logs old new older plan are books story at size all goes =
    let sure = whole_sure basis goes.next newest new older plan goes.seen goes.then.tracks in
    record {
      seen = goes.seen;
      list = goes.list ∙ story.list;
      released = goes.released ∙ story.released;
      sure = omega (arith, sure.0, all, books.last, books.first);
      reach = omega (arith, sure.1, all, books.last);
      logs = logs_of scene goes.next known logs goes.gone goes.logs are;
      anchor = inr (sure_newest basis goes.next newest new older plan goes.seen goes.then.tracks at);
      writing = record { older = older; plan = plan; number = at; whole = goes.then; size = size };
    }

-- as much is sure as before
same_story : (basis : Basis) (list : List Entry) (book : Book) (scene : Scene) (newest : ℕ) (known logs : List KnownLog) (old new : View) → drop scene.gone known ≡ logs → IsStory basis list book old scene
    → (goes : Goes basis scene newest known old new (IsAsSure scene)) → IsStory basis list (record book { writing = None; newest = newest; logs = logs }) new goes.next
same_story basis list book scene newest known logs old new are story goes =
    record {
      seen = goes.seen;
      list = goes.list ∙ story.list;
      released = goes.released ∙ story.released;
      sure = goes.then.0 ∙ story.sure;
      reach = goes.then.1 ∙ story.reach;
      logs = logs_of scene goes.next known logs goes.gone goes.logs are;
      anchor = anchor_kept book.reach book.anchor scene goes.next goes.anchors story.anchor;
      writing = tt;
    }

-- ---- the newest log goes on

abbrev extended : Basis → List Entry → Book → Plan → List Rec
extended basis list book plan = plan.recs ++ unsynced basis list book

extended_frames : (basis : Basis) (list : List Entry) (book : Book) (plan : Plan) → Books basis list book
    → frames (plan_entries (grown_track (synced_track (begun_track plan)) (extended basis list book plan)).plan) ≡ frames (plan_entries plan) ++ book.waiting
extended_frames basis list book plan books =
    let more = unsynced basis list book in
    ap (λ (es : List (ℕ × List ℕ)). frames ((plan.number, head_bytes plan.head) ∷ es)) (map-append entry_of plan.recs more) ∙ frames-append (plan_entries plan) (map entry_of more)
    ∙ ap (λ (l : List ℕ). frames (plan_entries plan) ++ l) (sym books.waiting)

-- behind the older logs stand the records of the newest and those that are not synced
rest_of : (basis : Basis) (list : List Entry) (book : Book) (scene : Scene) (old : View) (older : List Track) (plan : Plan) → Books basis list book → IsStory basis list book old scene
    → scene.tracks ≡ older ++ synced_track (begun_track plan) ∷ [] → (mine rest : List Rec) → all_recs basis scene.list ≡ mine ++ rest → length mine ≡ sure_in older
    → rest ≡ extended basis list book plan ++ []
rest_of basis list book scene old older plan books story tracks mine rest split mine_are =
    let last = synced_track (begun_track plan) in
    let all = all_recs basis scene.list in
    let at = split_at (counts_in basis.low) basis.first all older (last ∷ []) (subst (AreTracks (counts_in basis.low) basis.first all) tracks story.seen.is.tracks) in
    let here : rest ≡ at.others = sym (drop_at mine rest (length mine) refl) ∙ ap (drop (length mine)) (sym split ∙ at.split) ∙ drop_at at.mine at.others (length mine) (omega (arith, mine_are, at.mine_are)) in
    let front : at.others ≡ plan.recs ++ at.are.0.more = at.are.0.front in
    let count : before_unsynced basis book ≡ length at.mine + length plan.recs = omega (arith, story.sure, ap sure_in tracks, sure_append older (last ∷ []), at.mine_are) in
    let more : at.are.0.more ≡ unsynced basis list book =
    behind_all all at.mine plan.recs at.are.0.more (before_unsynced basis book) (at.split ∙ ap (λ (rs : List Rec). at.mine ++ rs) front) count
    ∙ ap (λ (l : List Entry). drop (before_unsynced basis book) (all_recs basis l)) story.list in
    here ∙ front ∙ ap (λ (rs : List Rec). plan.recs ++ rs) more ∙ sym (append-nil (extended basis list book plan))

extend_growing : (basis : Basis) (list : List Entry) (book : Book) (scene : Scene) (old : View) (older : List Track) (plan : Plan) → Books basis list book → IsStory basis list book old scene
    → IsWhole scene old.contents older plan → IsGrowing basis scene older (synced_track (begun_track plan)) (extended basis list book plan) book.waiting
extend_growing basis list book scene old older plan books story whole =
    record {
      tracks = whole.tracks;
      begun = refl;
      extra = unsynced basis list book;
      longer = refl;
      is_front = λ mine rest split mine_are. ([], rest_of basis list book scene old older plan books story whole.tracks mine rest split mine_are);
      behind = [];
      written = extended_frames basis list book plan books ∙ ap (λ (l : List ℕ). l ++ book.waiting) (sym whole.written) ∙ sym (append-nil (scene.written (log_name plan.number) ++ book.waiting));
    }

extend_wrote : {T E : Type 0} (basis : Basis) (list : List Entry) (book : Book) (name : Name) (bytes : List ℕ) (scene : Scene) (old new : View) (result : Result T E) → Books basis list book → IsStory basis list book old scene
    → (len : ℕ) → (opened : IsOpenLog scene old.contents book.newest len) → name ≡ log_name book.newest → bytes ≡ book.waiting → AppendKeeps name bytes old new result
    → Wrote basis scene book.newest (map known_of scene.tracks) opened.older (grown_track (synced_track (begun_track opened.plan)) (extended basis list book opened.plan)).plan old new result
extend_wrote basis list book name bytes scene old new result books story len opened named are tells =
    let plan = opened.plan in
    let whole = opened.whole in
    let at : name ≡ log_name plan.number = named ∙ ap log_name (sym opened.number) in
    let there : old.contents name ≡ Some (scene.written name) = subst (λ (n : Name). old.contents n ≡ Some (scene.written n)) (sym at) (whole.contents ∙ ap (λ (l : List ℕ). Some l) (sym whole.written)) in
    let all : frames (plan_entries plan) ++ book.waiting ≡ scene.written name ++ bytes =
    ap (λ (l : List ℕ). l ++ book.waiting) (sym whole.written) ∙ ap (λ (n : Name). scene.written n ++ book.waiting) (sym at) ∙ ap (λ (l : List ℕ). scene.written name ++ l) (sym are) in
    tells basis scene book.newest opened.older (synced_track (begun_track plan)) (extended basis list book plan) story.seen
    (subst (IsGrowing basis scene opened.older (synced_track (begun_track plan)) (extended basis list book plan)) (sym are) (extend_growing basis list book scene old opened.older plan books story whole)) at there
    (extended_frames basis list book plan books ∙ all)

extended_all : (basis : Basis) (list : List Entry) (book : Book) (scene : Scene) (old : View) (older : List Track) (plan : Plan) → Books basis list book → IsStory basis list book old scene
    → scene.tracks ≡ older ++ synced_track (begun_track plan) ∷ [] → sure_in older + length (extended basis list book plan) ≡ length (all_recs basis list)
extended_all basis list book scene old older plan books story tracks =
    let among = synced_among basis list book books in
    omega (
      arith,
      story.sure,
      ap sure_in tracks,
      sure_append older (synced_track (begun_track plan) ∷ []),
      length-append plan.recs (unsynced basis list book),
      length-drop (before_unsynced basis book) (all_recs basis list),
      among.1,
    )

pub extend_reaches : {T E : Type 0} (book next : Book) (name : Name) (bytes : List ℕ) (len : ℕ) (old new : View) (result : Result T E) → name ≡ log_name book.newest → bytes ≡ book.waiting → AppendKeeps name bytes old new result
    → OnOk result (next ≡ synced_in book.newest (len + length bytes) book) → OnErr result (next ≡ record book { writing = None }) → ExtendKeeps len book next old new
extend_reaches {T} {E} book next name bytes len old new (Ok x) named are tells is same basis list time reach books scene story opened since =
    let wrote = extend_wrote {T = T} {E = E} basis list book name bytes scene old new (Ok x) books story len opened named are tells in
    let all = extended_all basis list book scene old opened.older opened.plan books story opened.whole.tracks in
    let size : len + length bytes ≡ length (frames (plan_entries (grown_track (synced_track (begun_track opened.plan)) (extended basis list book opened.plan)).plan)) =
    omega (arith, opened.size, ap length (extended_frames basis list book opened.plan books), length-append (frames (plan_entries opened.plan)) book.waiting, ap length are) in
    subst (λ (b : Book). Reaches basis list time reach b new) (sym is)
    (wrote.0.next, whole_story basis list book scene book.newest (len + length bytes) (map known_of scene.tracks) book.logs old new opened.older _ (drop-map known_of scene.gone scene.tracks ∙ story.logs) books story opened.number size all wrote.0, wrote.0.keeps time reach since)
extend_reaches {T} {E} book next name bytes len old new (Err e) named are tells is same basis list time reach books scene story opened since =
    let wrote = extend_wrote {T = T} {E = E} basis list book name bytes scene old new (Err e) books story len opened named are tells in
    subst (λ (b : Book). Reaches basis list time reach b new) (sym same) (wrote.1.next, same_story basis list book scene book.newest (map known_of scene.tracks) book.logs old new (drop-map known_of scene.gone scene.tracks ∙ story.logs) story wrote.1, wrote.1.keeps time reach since)

-- ---- a log is begun

abbrev next_plan : Basis → List Entry → Book → Plan
next_plan basis list book = record { number = book.newest + 1; head = head_for book; recs = unsynced basis list book }

begun_for : (basis : Basis) (list : List Entry) (book : Book) (scene : Scene) (old : View) → Books basis list book → IsStory basis list book old scene → (mine rest : List Rec)
    → all_recs basis scene.list ≡ mine ++ rest → length mine ≡ sure_in scene.tracks → IsFor (counts_after (counts_in basis.low) mine) (basis.first + length mine) rest (next_plan basis list book)
begun_for basis list book scene old books story mine rest split mine_are =
    let among = synced_among basis list book books in
    let count : length mine ≡ before_unsynced basis book = mine_are ∙ story.sure in
    let here : all_recs basis list ≡ mine ++ rest = ap (all_recs basis) (sym story.list) ∙ split in
    let front : take (before_unsynced basis book) (all_recs basis list) ≡ mine = ap (take (before_unsynced basis book)) here ∙ take_at mine rest (before_unsynced basis book) count in
    let behind : drop (before_unsynced basis book) (all_recs basis list) ≡ rest = ap (drop (before_unsynced basis book)) here ∙ drop_at mine rest (before_unsynced basis book) count in
    record {
      first = omega (arith, count, among.0);
      gives = λ part. books.synced part ∙ ap (λ (rs : List Rec). counts_after (counts_in basis.low) rs part) front;
      more = [];
      front = sym behind ∙ sym (append-nil (unsynced basis list book));
    }

begun_plan : (basis : Basis) (list : List Entry) (book : Book) (scene : Scene) (old : View) → Books basis list book → IsStory basis list book old scene → book.newest + 1 < 2 ^ 62 → IsSoundHead (head_for book)
    → IsNextPlan basis scene book.newest (next_plan basis list book)
begun_plan basis list book scene old books story kept sound =
    record {
      above = omega arith;
      number = kept;
      head = sound;
      counts = books.synced_parts ∙ books.parts;
      is_for = begun_for basis list book scene old books story;
    }

begun_frames : (basis : Basis) (list : List Entry) (book : Book) → Books basis list book → begun_bytes book ≡ frames (plan_entries (next_plan basis list book))
unfolding frames
begun_frames basis list book books = ap (λ (l : List ℕ). frame (book.newest + 1) (head_bytes (head_for book)) ++ l) books.waiting

begun_all : (basis : Basis) (list : List Entry) (book : Book) (scene : Scene) (old : View) → Books basis list book → IsStory basis list book old scene
    → sure_in scene.tracks + length (unsynced basis list book) ≡ length (all_recs basis list)
begun_all basis list book scene old books story =
    let among = synced_among basis list book books in
    omega (arith, story.sure, length-drop (before_unsynced basis book) (all_recs basis list), among.1)

abbrev begun_known : Basis → List Entry → Book → Scene → List KnownLog
begun_known basis list book scene = map known_of scene.tracks ++ known_of (begun_track (next_plan basis list book)) ∷ []

begun_logs : (basis : Basis) (list : List Entry) (book : Book) (scene : Scene) (old : View) → IsStory basis list book old scene → drop scene.gone (begun_known basis list book scene) ≡ book.logs ++ next_log book ∷ []
begun_logs basis list book scene old story =
    let few : scene.gone ≤ length (map known_of scene.tracks) = let r = story.seen.is.remains in omega (arith, story.seen.is.gone_among, r, length-map scene.tracks known_of) in
    drop-append-le scene.gone (map known_of scene.tracks) (next_log book ∷ []) few ∙ ap (λ (ks : List KnownLog). ks ++ next_log book ∷ []) (drop-map known_of scene.gone scene.tracks ∙ story.logs)

pub begin_reaches : {T E : Type 0} (book next : Book) (number : ℕ) (bytes : List ℕ) (len : ℕ) (old new : View) (result : Result T E) → number ≡ book.newest + 1 → number < 2 ^ 62 → bytes ≡ begun_bytes book → len ≡ length bytes
    → IsSoundHead (head_for book) → BeginKeeps number bytes old new result → OnOk result (next ≡ synced_in number len (begun_in book)) → OnErr result (next ≡ record book { writing = None; newest = number; logs = book.logs ++ next_log book ∷ [] })
    → KeepsReach book next old new
begin_reaches book next number bytes len old new (Ok x) at kept are size sound tells is same basis list time reach books before =
    let scene = before.0 in
    let story = before.1 in
    let wrote = tells basis scene book.newest (next_plan basis list book) story.seen (begun_plan basis list book scene old books story (omega (arith, at, kept)) sound) (sym at) (are ∙ begun_frames basis list book books) in
    let all = begun_all basis list book scene old books story in
    subst (λ (b : Book). Reaches basis list time reach b new) (sym is)
    (wrote.0.next, whole_story basis list book scene number len (begun_known basis list book scene) (book.logs ++ next_log book ∷ []) old new scene.tracks (next_plan basis list book) (begun_logs basis list book scene old story) books story (sym at) (size ∙ ap length (are ∙ begun_frames basis list book books)) all wrote.0, wrote.0.keeps time reach before.2)
begin_reaches book next number bytes len old new (Err e) at kept are size sound tells is same basis list time reach books before =
    let scene = before.0 in
    let story = before.1 in
    let wrote = tells basis scene book.newest (next_plan basis list book) story.seen (begun_plan basis list book scene old books story (omega (arith, at, kept)) sound) (sym at) (are ∙ begun_frames basis list book books) in
    subst (λ (b : Book). Reaches basis list time reach b new) (sym same) (wrote.1.next, same_story basis list book scene number (begun_known basis list book scene) (book.logs ++ next_log book ∷ []) old new (begun_logs basis list book scene old story) story wrote.1, wrote.1.keeps time reach before.2)

-- ---- the next sync begins a log

unwritten : (basis : Basis) (list : List Entry) (book : Book) (view : View) (scene : Scene) → IsStory basis list book view scene → IsStory basis list (record book { writing = None }) view scene
unwritten basis list book view scene story =
    record { seen = story.seen; list = story.list; released = story.released; sure = story.sure; reach = story.reach; logs = story.logs; anchor = story.anchor; writing = tt }

-- ---- reserve and push

reserved_story : (basis : Basis) (list : List Entry) (book : Book) (e : Entry) (view : View) (scene : Scene) → IsStory basis list book view scene → IsStory basis list (after_reserve e book) view scene
reserved_story basis list book e view scene story =
    record { seen = story.seen; list = story.list; released = story.released; sure = story.sure; reach = story.reach; logs = story.logs; anchor = story.anchor; writing = story.writing }

pub reserve_reaches : {T E : Type 0} (result : Result T E) (book next : Book) (e : Entry) (view : View) → OnOk result (next ≡ after_reserve e book) → OnErr result (next ≡ book) → KeepsReach book next view view
reserve_reaches (Ok x) book next e view is same basis list time reach books before =
    subst (λ (b : Book). Reaches basis list time reach b view) (sym is) (before.0, reserved_story basis list book e view before.0 before.1, before.2)
reserve_reaches (Err f) book next e view is same basis list time reach books before = subst (λ (b : Book). Reaches basis list time reach b view) (sym same) before

pushed_story : (basis : Basis) (list : List Entry) (book : Book) (e : Entry) (view : View) (scene : Scene) → IsStory basis list book view scene → Books basis (list ++ e ∷ []) (after_push e book)
    → IsSeen basis (scene_with scene (scene.list ++ e ∷ [])) book.newest view → IsStory basis (list ++ e ∷ []) (after_push e book) view (scene_with scene (scene.list ++ e ∷ []))
pushed_story basis list book e view scene story books seen =
    record {
      seen = seen;
      list = ap (λ (l : List Entry). l ++ e ∷ []) story.list;
      released = story.released;
      sure = story.sure;
      reach = story.reach;
      logs = story.logs;
      anchor = story.anchor;
      writing = writing_same book.writing scene (scene.list ++ e ∷ []) view book.newest story.writing;
    }
  where
    writing_same : (writing : Option ℕ) (scene : Scene) (list : List Entry) (view : View) (newest : ℕ) → IfSome writing (λ len. IsOpenLog scene view.contents newest len)
        → IfSome writing (λ len. IsOpenLog (scene_with scene list) view.contents newest len)
    writing_same None scene list view newest opened = tt
    writing_same (Some len) scene list view newest opened =
        record { older = opened.older; plan = opened.plan; number = opened.number; whole = record { tracks = opened.whole.tracks; contents = opened.whole.contents; written = opened.whole.written }; size = opened.size }

pub push_reaches : (book next : Book) (e : Entry) (view : View) → next ≡ after_push e book → IsNextOf book e → KeepsReachWith e book next view view
push_reaches book next e view is is_next basis list time reach books before =
    let scene = before.0 in
    let story = before.1 in
    let books' : Books basis (list ++ e ∷ []) (after_push e book) = push_keeps_each book (after_push e book) e refl is_next basis list books in
    let moved = longer_move basis scene book.newest view (e ∷ []) story.seen
    (subst (λ (l : List Entry). InOrder (length basis.low) (counts_in basis.low) basis.first (all_recs basis (l ++ e ∷ []))) (sym story.list) books'.in_order) in
    subst (λ (b : Book). Reaches basis (list ++ e ∷ []) time reach b view) (sym is)
    (scene_with scene (scene.list ++ e ∷ []), pushed_story basis list book e view scene story books' moved.0, moved.1 time reach before.2)

-- ---- the next sync goes on with the newest log

opened_log : (writing : Option ℕ) (len : ℕ) (scene : Scene) (image : Image) (newest : ℕ) → writing ≡ Some len → IfSome writing (λ n. IsOpenLog scene image newest n) → IsOpenLog scene image newest len
opened_log None len scene image newest is opened = absurd (none_is_not_found None refl len is)
opened_log (Some len') len scene image newest is opened =
    let same : len' ≡ len = cc in subst (IsOpenLog scene image newest) same opened

pub write_reaches : (book next : Book) (len : ℕ) (writing : Option ℕ) (old new : View) → book.writing ≡ Some len → writing ≡ None → ExtendKeeps len (record book { writing = writing }) next old new → KeepsReach book next old new
write_reaches book next len writing old new was none extends basis list time reach books before =
    let taken : (w : Option ℕ) → Book = λ w. let b : Book = record book { writing = w } in b in
    let books' = subst (λ (w : Option ℕ). Books basis list (taken w)) (sym none) (noted basis list book book.newest book.logs (omega arith) books) in
    let story = subst (λ (w : Option ℕ). IsStory basis list (taken w) old before.0) (sym none) (unwritten basis list book old before.0 before.1) in
    extends basis list time reach books' before.0 story (opened_log book.writing len before.0 old.contents book.newest was before.1.writing) before.2

-- the same of an equal book and an equal view
pub reaches_same : (book next other : Book) (old new view : View) → other ≡ next → view ≡ new → KeepsReach book next old new → KeepsReach book other old view
reaches_same book next other old new view is same keeps basis list time reach books before =
    subst (λ (b : Book). Reaches basis list time reach b view) (sym is) (subst (Reaches basis list time reach next) (sym same) (keeps basis list time reach books before))

-- ---- what is before

pub reaches_opens : (basis : Basis) (list : List Entry) (time reach : ℕ) (book : Book) (view : View) (image : Image) → Reaches basis list time reach book view → view.left_since time image → HoldsBytes image
    → ByNoChance image view.written → LeavesPrefix basis book.released list reach image
reaches_opens basis list time reach book view image before left bytes chance =
    let scene = before.0 in
    let story = before.1 in
    let opens = SinceOpens basis scene view time reach image before.2 left bytes (subst (ByNoChance image) (sym story.seen.written) chance) in
    subst (λ (l : List Entry). LeavesPrefix basis book.released l reach image) story.list (subst (λ (r : List ℕ). LeavesPrefix basis r scene.list reach image) story.released opens)

pub reaches_now : (basis : Basis) (list : List Entry) (time reach : ℕ) (book : Book) (view : View) → ((image : Image) → view.left_since view.moment image → view.may_leave image) → Reaches basis list time reach book view
    → Reaches basis list view.moment book.reach book view
reaches_now basis list time reach book view only before =
    let scene = before.0 in
    let story = before.1 in
    (scene, story, subst (Since basis scene view view.moment) story.reach (SinceNow basis scene book.newest view story.seen only))
