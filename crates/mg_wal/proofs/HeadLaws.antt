-- What the heads of logs are, as their first frames spell them, what they are refused for, and the counts before the oldest log.
use Rattle.std.proofs.Common.{◌≡◌, ℕ, zero, suc, ◌+◌, ◌-◌, ◌<◌, ◌≤◌, ◌^◌, ◌⊎◌, inl, inr, List, [], ◌∷◌, ◌++◌, length, map, get_or, take, drop, replicate, drop-cons, Global, Vec, Result, Ok, Err, None, Some, refl, sym, ap, subst, ◌∙◌, arith}
use Rattle.std.specs.Prelude.{IfErr, IfOk}
use Rattle.std.specs.List.{slice_get, AllByRecursion}
use Rattle.std.proofs.lemmas.List.{map-append, take-append-drop, take_all, take_more}
use Rattle.std.proofs.lemmas.List.Elements.{All-from_recursion}
use Rattle.mg_types.specs.declared.faults.Fault.{Fault}
use Rattle.mg_types.specs.declared.faults.Fault.TheVariants.{NoMemory}
use Rattle.mg_types.specs.declared.names.FileId.{FileId}
use Rattle.mg_wal_format.specs.declared.head.Head.{Head}
use Rattle.mg_wal_format.specs.Faults.{IsHeadRefused, IsNewestHeadFine, IsNewestHeadRefused}
use Rattle.mg_wal_format.specs.Heads.{head_bytes, parts_of, IsSoundHead}
use Rattle.mg_wal_format.specs.Logs.{HeadsRise, Log}
use Rattle.mg_wal_format.specs.Recovery.{found_of, log_file, Falls, Found, HasHeads, HasRoom, IsHeadFault, IsHeadsFault, IsNewestFine, IsNewestRefused, IsSoundLog}
use Rattle.mg_wal_format.proofs.FoundLaws.{cons_same}
use Rattle.mg_wal_format.proofs.ReadingLaws.{or_else}
use Rattle.mg_wal_format.proofs.SpellingLaws.{one_head}
use Rattle.mg_wal.specs.declared.finding.HeadFrame.{HeadFrame}
use Rattle.mg_wal.specs.declared.known.KnownLog.{KnownLog}
use Rattle.mg_wal.specs.Book.{AreKept}
use Rattle.mg_wal.proofs.RefusalLaws.{named_log, refusal_by, refusal_of_head, refusal_of_newest}
use Rattle.mg_wal.specs.Findings.{head_frame, AreKnown, IsLogFault, IsRefusalBy}
use Rattle.mg_wal.specs.Openings.{log_known}
use Rattle.mg_wal.proofs.StepLaws.{all_append}

-- ---- lists

-- an element of a list, with what stands before and behind it, that a function takes to these
record Mapped {X Y : Type 0} (f : X → Y) (xs : List X) (front : List Y) (y : Y) (behind : List Y) : Type 0 where
  pub before : List X
  pub here : X
  pub after : List X
  pub split : xs ≡ before ++ here ∷ after
  pub fronts : map f before ≡ front
  pub is : f here ≡ y
  pub behinds : map f after ≡ behind

mapped_at : {X Y : Type 0} (f : X → Y) (xs : List X) (front : List Y) (y : Y) (behind : List Y) → map f xs ≡ front ++ y ∷ behind → Mapped f xs front y behind
mapped_at f [] [] y behind same = absurd cc
mapped_at f [] (z ∷ front) y behind same = absurd cc
mapped_at f (x ∷ xs) [] y behind same =
    let parts = cons_same (f x) y (map f xs) behind same in
    record { before = []; here = x; after = xs; split = refl; fronts = refl; is = parts.0; behinds = parts.1 }
mapped_at {X} {Y} f (x ∷ xs) (z ∷ front) y behind same =
    let parts = cons_same (f x) z (map f xs) (front ++ y ∷ behind) same in
    let others = mapped_at f xs front y behind parts.1 in
    record {
      before = x ∷ others.before;
      here = others.here;
      after = others.after;
      split = ap (λ (l : List X). x ∷ l) others.split;
      fronts = ap (λ (z' : Y). z' ∷ map f others.before) parts.0 ∙ ap (λ (l : List Y). z ∷ l) others.fronts;
      is = others.is;
      behinds = others.behinds;
    }

none_mapped : {X Y : Type 0} (f : X → Y) (xs : List X) → map f xs ≡ [] → xs ≡ []
none_mapped f [] same = refl
none_mapped f (x ∷ xs) same = absurd cc

-- the last element that a function takes to the last
mapped_last : {X Y : Type 0} (f : X → Y) (xs : List X) (front : List Y) (y : Y) → map f xs ≡ front ++ y ∷ [] → (before : List X) × (here : X) × (xs ≡ before ++ here ∷ []) × (map f before ≡ front) × (f here ≡ y)
mapped_last {X} {Y} f xs front y same =
    let m = mapped_at f xs front y [] same in
    (m.before, m.here, m.split ∙ ap (λ (l : List X). m.before ++ m.here ∷ l) (none_mapped f m.after m.behinds), m.fronts, m.is)

-- lists with the same last element
one_last : {X : Type 0} (xs ys : List X) (x y : X) → xs ++ x ∷ [] ≡ ys ++ y ∷ [] → x ≡ y
one_last [] [] x y same = (cons_same x y [] [] same).0
one_last [] (z ∷ []) x y same = absurd cc
one_last [] (z ∷ z' ∷ ys) x y same = absurd cc
one_last (z ∷ []) [] x y same = absurd cc
one_last (z ∷ z' ∷ xs) [] x y same = absurd cc
one_last (z ∷ xs) (z' ∷ ys) x y same = one_last xs ys x y (cons_same z z' (xs ++ x ∷ []) (ys ++ y ∷ []) same).1

-- a list with a last element is none without
some_last : {X : Type 0} (xs : List X) (x : X) → [] ≡ xs ++ x ∷ [] → ⊥
some_last [] x same = cc
some_last (y ∷ xs) x same = cc

last_behind : {X : Type 0} (y : X) (xs : List X) (x : X) → Some x ≡ slice_get (y ∷ xs) (length xs) → (front : List X) × (y ∷ xs ≡ front ++ x ∷ [])
last_behind {X} y [] x is = let one : y ≡ x = cc in ([], ap (λ (z : X). z ∷ []) one)
last_behind {X} y (z ∷ xs) x is = let others = last_behind z xs x is in (y ∷ others.0, ap (λ (l : List X). y ∷ l) others.1)

-- the last element, at its place
split_last : {X : Type 0} (xs : List X) (x : X) → Some x ≡ slice_get xs (length xs - 1) → (front : List X) × (xs ≡ front ++ x ∷ [])
split_last [] x is = absurd cc
split_last (y ∷ xs) x is = let count : length (y ∷ xs) - 1 ≡ length xs = omega arith in last_behind y xs x (is ∙ ap (slice_get (y ∷ xs)) count)

some_behind : {X : Type 0} (y : X) (xs : List X) → None ≡ slice_get (y ∷ xs) (length xs) → ⊥
some_behind y [] is = cc
some_behind y (z ∷ xs) is = some_behind z xs is

-- a list without a last element is empty
no_last : {X : Type 0} (xs : List X) → None ≡ slice_get xs (length xs - 1) → xs ≡ []
no_last [] is = refl
no_last (y ∷ xs) is = let count : length (y ∷ xs) - 1 ≡ length xs = omega arith in absurd (some_behind y xs (is ∙ ap (slice_get (y ∷ xs)) count))

-- ---- heads that rise

-- the last of known logs is the last log
last_known : (known : List KnownLog) (logs : List Log) (last : KnownLog) → AreKnown known logs → Some last ≡ slice_get known (length known - 1)
    → (older : List Log) × (log : Log) × (logs ≡ older ++ log ∷ []) × (log_known log ≡ last)
last_known known logs last are is =
    let front = split_last known last is in
    let m = mapped_last log_known logs front.0 last (are ∙ front.1) in
    (m.0, m.1, m.2, m.4)

-- the head falls against the last head
pub falls_by : (known : List KnownLog) (logs : List Log) (last : KnownLog) (head : Head) → AreKnown known logs → Some last ≡ slice_get known (length known - 1)
    → (head.first < last.head.first) ⊎ (parts_of head < parts_of last.head) → Falls logs head
falls_by known logs last head are is less =
    let m = last_known known logs last are is in
    (m.0, m.1, m.2, subst (λ (k : KnownLog). (head.first < k.head.first) ⊎ (parts_of head < parts_of k.head)) (sym m.3) less)

not_below : (n m : ℕ) → (m < n → ⊥) → n ≤ m
not_below n m not = omega (arith, not)

rise_more : (logs : List Log) (log : Log) → HeadsRise logs → (Falls logs log.head → ⊥) → HeadsRise (logs ++ log ∷ [])
rise_more [] log rise not = tt
rise_more (last ∷ []) log rise not =
    (not_below last.head.first log.head.first (λ less. not ([], last, refl, inl less)), not_below (parts_of last.head) (parts_of log.head) (λ less. not ([], last, refl, inr less)), tt)
rise_more (first ∷ next ∷ logs) log rise not =
    (rise.0, rise.1, rise_more (next ∷ logs) log rise.2 (λ falls. not (first ∷ falls.0, falls.1, ap (λ (l : List Log). first ∷ l) falls.2, falls.3)))

-- ---- heads that were read

-- known logs are those whose first frames these are
abbrev pub AreHeads : List HeadFrame → List KnownLog → Type 0
AreHeads frames known = (found : List Found) → map head_frame found ≡ frames → (logs : List Log) × (found ≡ map found_of logs) × AreKnown known logs × HasHeads logs

pub heads_none : (frames : List HeadFrame) (known : List KnownLog) → frames ≡ [] → known ≡ [] → AreHeads frames known
heads_none frames known no_frames no_known found same = ([], none_mapped head_frame found (same ∙ no_frames), sym no_known, (tt, tt))

-- one log more
heads_more : (frames : List HeadFrame) (frame : HeadFrame) (known : List KnownLog) (head : Head) → AreHeads frames known → frame.number < 2 ^ 62 → IsSoundHead head → frame.body ≡ head_bytes head
    → ((logs : List Log) → AreKnown known logs → Falls logs head → ⊥) → AreHeads (frames ++ frame ∷ []) (known ++ record { number = frame.number; head = head } ∷ [])
heads_more frames frame known head heads kept sound spelled rises found same =
    let m = mapped_last head_frame found frames frame same in
    let older = heads m.0 m.3 in
    let log : Log = record { number = frame.number; head = head; rest = m.1.rest } in
    let here : m.1 ≡ found_of log =
    ap (λ (f : HeadFrame). let it : Found = record { number = f.number; body = f.body; rest = m.1.rest } in it) m.4
    ∙ ap (λ (b : List ℕ). let it : Found = record { number = frame.number; body = b; rest = m.1.rest } in it) spelled in (
      older.0 ++ log ∷ [],
      m.2 ∙ ap (λ (f : Found). m.0 ++ f ∷ []) here ∙ ap (λ (fs : List Found). fs ++ found_of log ∷ []) older.1 ∙ sym (map-append found_of older.0 (log ∷ [])),
      map-append log_known older.0 (log ∷ []) ∙ ap (λ (ks : List KnownLog). ks ++ log_known log ∷ []) older.2,
      (all_append IsSoundLog older.0 (log ∷ []) older.3.0 ((kept, sound), tt), rise_more older.0 log older.3.1 (rises older.0 older.2)),
    )

-- one frame more
pub heads_step : (frames : List HeadFrame) (i : ℕ) (frame : HeadFrame) (known now : List KnownLog) (head : Head) → i < length frames → frame ≡ get_or frames i frame → AreHeads (take i frames) known
    → frame.number < 2 ^ 62 → IsSoundHead head → frame.body ≡ head_bytes head → ((logs : List Log) → AreKnown known logs → Falls logs head → ⊥)
    → now ≡ known ++ record { number = frame.number; head = head } ∷ [] → AreHeads (take (i + 1) frames) now
heads_step frames i frame known now head within is heads kept sound spelled rises more =
    let front : take (i + 1) frames ≡ take i frames ++ frame ∷ [] = take_more frames i frame within ∙ ap (λ (f : HeadFrame). take i frames ++ f ∷ []) (sym is) in
    subst (λ (fs : List HeadFrame). AreHeads fs now) (sym front) (subst (AreHeads (take i frames ++ frame ∷ [])) (sym more) (heads_more (take i frames) frame known head heads kept sound spelled rises))

pub heads_all : (frames : List HeadFrame) (i : ℕ) (known : List KnownLog) → length frames ≤ i → AreHeads (take i frames) known → AreHeads frames known
heads_all frames i known enough heads = subst (λ (fs : List HeadFrame). AreHeads fs known) (take_all i frames enough) heads

-- the first that is refused
heads_fault : (frames front behind : List HeadFrame) (frame : HeadFrame) (known : List KnownLog) (fault : Fault) → frames ≡ front ++ frame ∷ behind → AreHeads front known
    → ((logs : List Log) (found : Found) → AreKnown known logs → head_frame found ≡ frame → IsHeadFault logs found fault)
    → (found : List Found) → map head_frame found ≡ frames → IsHeadsFault found fault
heads_fault frames front behind frame known fault split heads why found same =
    let m = mapped_at head_frame found front frame behind (same ∙ split) in
    let older = heads m.before m.fronts in
    record {
      before = older.0;
      bad = m.here;
      behind = m.after;
      split = m.split ∙ ap (λ (fs : List Found). fs ++ m.here ∷ m.after) older.1;
      fine = older.3;
      why = why older.0 m.here older.2 m.is;
    }

-- the frame at this place is the first that is refused
pub heads_stop : (frames : List HeadFrame) (i : ℕ) (frame : HeadFrame) (known : List KnownLog) (fault : Fault) → i < length frames → frame ≡ get_or frames i frame → AreHeads (take i frames) known
    → IsLogFault fault × ((logs : List Log) (found : Found) → AreKnown known logs → head_frame found ≡ frame → IsHeadFault logs found fault)
    → IsLogFault fault × ((found : List Found) → map head_frame found ≡ frames → IsHeadsFault found fault)
heads_stop frames i frame known fault within is heads why =
    let split : frames ≡ take i frames ++ frame ∷ drop (suc i) frames =
    sym (take-append-drop i frames) ∙ ap (λ (fs : List HeadFrame). take i frames ++ fs) (drop-cons frames i frame within ∙ ap (λ (f : HeadFrame). f ∷ drop (suc i) frames) (sym is)) in
    (why.0, heads_fault frames (take i frames) (drop (suc i) frames) frame known fault split heads why.1)

-- ---- why a head is refused

-- a head that is refused
head_bad : (logs : List Log) (found : Found) (frame : HeadFrame) (fault : Fault) → head_frame found ≡ frame → IsHeadRefused (log_file frame.number) frame.body fault → IsHeadFault logs found fault
head_bad logs found frame fault same refused = inl (subst (λ (f : HeadFrame). IsHeadRefused (log_file f.number) f.body fault) (sym same) refused)

-- a body that is refused is the fault of its log, whatever stands before it
pub frame_refused : (file : FileId) (body : List ℕ) (frame : HeadFrame) (known : List KnownLog) (fault : Fault) → file ≡ log_file frame.number → body ≡ frame.body → IsHeadRefused file body fault
    → IsLogFault fault × ((logs : List Log) (found : Found) → AreKnown known logs → head_frame found ≡ frame → IsHeadFault logs found fault)
frame_refused file body frame known fault file_is body_is refused =
    let here : IsHeadRefused (log_file frame.number) frame.body fault = subst (λ (f : FileId). IsHeadRefused f frame.body fault) file_is (subst (λ (b : List ℕ). IsHeadRefused file b fault) body_is refused) in
    (refusal_of_head file body fault (named_log file frame.number file_is) refused, λ logs found are same. head_bad logs found frame fault same here)

-- ---- the newest head

-- the first frame of the newest log, at its place
newest_at : (frames : List HeadFrame) (newest : HeadFrame) (found : List Found) → Some newest ≡ slice_get frames (length frames - 1) → map head_frame found ≡ frames
    → (older : List Found) × (last : Found) × (found ≡ older ++ last ∷ []) × (head_frame last ≡ newest)
newest_at frames newest found is same =
    let front = split_last frames newest is in
    let m = mapped_last head_frame found front.0 newest (same ∙ front.1) in
    (m.0, m.1, m.2, m.4)

pub newest_refused : (file : FileId) (body : List ℕ) (frames : List HeadFrame) (newest : HeadFrame) (parts : ℕ) (fault : Fault) → Some newest ≡ slice_get frames (length frames - 1)
    → file ≡ log_file newest.number → body ≡ newest.body → IsNewestHeadRefused file parts body fault
    → IsRefusalBy parts fault × ((found : List Found) → map head_frame found ≡ frames → IsNewestRefused parts found fault ⊎ (IsNewestFine parts found × IsHeadsFault found fault))
newest_refused file body frames newest parts fault is file_is body_is refused =
    let here : IsNewestHeadRefused (log_file newest.number) parts newest.body fault =
    subst (λ (f : FileId). IsNewestHeadRefused f parts newest.body fault) file_is (subst (λ (b : List ℕ). IsNewestHeadRefused file parts b fault) body_is refused) in (
      refusal_of_newest file parts body fault (named_log file newest.number file_is) refused,
      λ found same.
          let m = newest_at frames newest found is same in
          inl (m.0, m.1, m.2, subst (λ (f : HeadFrame). IsNewestHeadRefused (log_file f.number) parts f.body fault) (sym m.3) here),
    )

newest_fine : (body : List ℕ) (frames : List HeadFrame) (newest : HeadFrame) (parts : ℕ) (found : List Found) → Some newest ≡ slice_get frames (length frames - 1) → body ≡ newest.body
    → IsNewestHeadFine parts body → map head_frame found ≡ frames → IsNewestFine parts found
newest_fine body frames newest parts found is body_is fine same =
    let m = newest_at frames newest found is same in
    (m.0, m.1, m.2, subst (IsNewestHeadFine parts) (body_is ∙ ap (λ (f : HeadFrame). f.body) (sym m.3)) fine)

last_sound : (older : List Log) (last : Log) → AllByRecursion IsSoundLog (older ++ last ∷ []) → IsSoundLog last
last_sound [] last all = all.0
last_sound (log ∷ older) last all = last_sound older last all.1

-- the newest head that is read is the one that has room
newest_room : (parts : ℕ) (logs : List Log) → IsNewestFine parts (map found_of logs) → HasHeads logs → HasRoom parts logs
newest_room parts logs fine heads older last is =
    let sound : IsSoundLog last = last_sound older last (subst (AllByRecursion IsSoundLog) is heads.0) in
    let ends : map found_of older ++ found_of last ∷ [] ≡ fine.0 ++ fine.1 ∷ [] = sym (ap (map found_of) is ∙ map-append found_of older (last ∷ [])) ∙ fine.2 in
    let here : found_of last ≡ fine.1 = one_last (map found_of older) fine.0 (found_of last) fine.1 ends in
    let head : last.head ≡ fine.3.0 = one_head last.head fine.3.0 sound.1.fits fine.3.1 (ap (λ (f : Found). f.body) here ∙ fine.3.2) in
    subst (λ (h : Head). parts_of h ≤ parts) (sym head) fine.3.3

-- ---- all heads

-- known logs are those whose first frames these are, and so many partitions have room for them
abbrev AreJudged : ℕ → List HeadFrame → List KnownLog → Type 0
AreJudged parts frames known = (found : List Found) → map head_frame found ≡ frames → (logs : List Log) × (found ≡ map found_of logs) × AreKnown known logs × HasHeads logs × HasRoom parts logs

pub judged_none : (parts : ℕ) (frames : List HeadFrame) (known : List KnownLog) → None ≡ slice_get frames (length frames - 1) → known ≡ [] → AreJudged parts frames known
judged_none parts frames known is no_known found same =
    ([], none_mapped head_frame found (same ∙ no_last frames is), sym no_known, (tt, tt), λ older newest ends. absurd (some_last older newest ends))

judged : (body : List ℕ) (frames : List HeadFrame) (newest : HeadFrame) (parts : ℕ) (known : List KnownLog) → Some newest ≡ slice_get frames (length frames - 1) → body ≡ newest.body
    → IsNewestHeadFine parts body → AreHeads frames known → AreJudged parts frames known
judged body frames newest parts known is body_is fine heads found same =
    let read = heads found same in
    (read.0, read.1, read.2, read.3, newest_room parts read.0 (subst (IsNewestFine parts) read.1 (newest_fine body frames newest parts found is body_is fine same)) read.3)

pub judged_ok : {E : Type 0} (result : Result (Vec KnownLog Global) E) (body : List ℕ) (frames : List HeadFrame) (newest : HeadFrame) (parts : ℕ) → Some newest ≡ slice_get frames (length frames - 1) → body ≡ newest.body
    → IsNewestHeadFine parts body → IfOk result (λ known. AreHeads frames known.items) → IfOk result (λ known. AreJudged parts frames known.items)
judged_ok (Ok known) body frames newest parts is body_is fine heads = judged body frames newest parts known.items is body_is fine heads
judged_ok (Err e) body frames newest parts is body_is fine heads = heads

pub judged_err : {T : Type 0} (result : Result T Fault) (body : List ℕ) (frames : List HeadFrame) (newest : HeadFrame) (parts : ℕ) → Some newest ≡ slice_get frames (length frames - 1) → body ≡ newest.body
    → IsNewestHeadFine parts body → IfErr result (λ fault. (fault ≡ NoMemory) ⊎ (IsLogFault fault × ((found : List Found) → map head_frame found ≡ frames → IsHeadsFault found fault)))
    → IfErr result (λ fault. (fault ≡ NoMemory) ⊎ (IsRefusalBy parts fault × ((found : List Found) → map head_frame found ≡ frames → IsNewestRefused parts found fault ⊎ (IsNewestFine parts found × IsHeadsFault found fault))))
judged_err (Ok known) body frames newest parts is body_is fine refused = refused
judged_err (Err fault) body frames newest parts is body_is fine refused =
    or_else (λ why. (refusal_by parts fault why.0, λ found same. inr (newest_fine body frames newest parts found is body_is fine same, why.1 found same))) refused

-- ---- the counts before the oldest log

-- the first of known logs is the first log
first_known : (known : List KnownLog) (logs : List Log) (oldest : KnownLog) → AreKnown known logs → Some oldest ≡ slice_get known 0 → (log : Log) × (newer : List Log) × (logs ≡ log ∷ newer) × (log_known log ≡ oldest)
first_known known [] oldest are is = absurd (let none : Some oldest ≡ slice_get [] 0 = is ∙ ap (λ (ks : List KnownLog). slice_get ks 0) (sym are) in cc)
first_known known (log ∷ newer) oldest are is =
    let some : Some oldest ≡ Some (log_known log) = is ∙ ap (λ (ks : List KnownLog). slice_get ks 0) (sym are) in
    let same : log_known log ≡ oldest = cc in
    (log, newer, refl, same)

-- the oldest head counts no more partitions than the newest
oldest_fits : (parts : ℕ) (log : Log) (newer : List Log) → HeadsRise (log ∷ newer) → HasRoom parts (log ∷ newer) → parts_of log.head ≤ parts
oldest_fits parts log [] rise room = room [] log refl
oldest_fits parts log (next ∷ newer) rise room =
    omega (arith, rise.1, oldest_fits parts next newer rise.2 (λ older newest is. room (log ∷ older) newest (ap (λ (ls : List Log). log ∷ ls) is)))

pub oldest_room : (known : List KnownLog) (oldest : KnownLog) (counts : List ℕ) (parts : ℕ) (logs : List Log) → Some oldest ≡ slice_get known 0 → counts ≡ oldest.head.before
    → AreKnown known logs → HasRoom parts logs → HasHeads logs → length counts ≤ parts
oldest_room known oldest counts parts logs is counts_are are room heads =
    let first = first_known known logs oldest are is in
    let rise : HeadsRise (first.0 ∷ first.1) = subst HeadsRise first.2 heads.1 in
    let fits : parts_of first.0.head ≤ parts = oldest_fits parts first.0 first.1 rise (subst (HasRoom parts) first.2 room) in
    subst (λ (l : List ℕ). length l ≤ parts) (ap (λ (k : KnownLog). k.head.before) first.3 ∙ sym counts_are) fits

pub oldest_kept : (known : List KnownLog) (oldest : KnownLog) (counts : List ℕ) (logs : List Log) → Some oldest ≡ slice_get known 0 → counts ≡ oldest.head.before
    → AreKnown known logs → HasHeads logs → AreKept counts
oldest_kept known oldest counts logs is counts_are are heads =
    let first = first_known known logs oldest are is in
    let sound : AllByRecursion IsSoundLog (first.0 ∷ first.1) = subst (AllByRecursion IsSoundLog) first.2 heads.0 in
    subst AreKept (ap (λ (k : KnownLog). k.head.before) first.3 ∙ sym counts_are) (All-from_recursion (λ (n : ℕ). n < 2 ^ 62) first.0.head.before sound.0.1.before_are_kept)

zeros : (count part : ℕ) → get_or (replicate count zero) part zero ≡ zero
zeros zero part = refl
zeros (suc count) zero = refl
zeros (suc count) (suc part) = zeros count part

padded : (counts : List ℕ) (count part : ℕ) → get_or (counts ++ replicate count 0) part 0 ≡ get_or counts part 0
padded [] count part = zeros count part
padded (n ∷ counts) count zero = refl
padded (n ∷ counts) count (suc part) = padded counts count part

-- zeros behind counts say nothing more
pub low_padded : (counts low : List ℕ) (parts count part : ℕ) → low ≡ take parts counts ++ replicate count 0 → length counts ≤ parts → get_or low part 0 ≡ get_or counts part 0
low_padded counts low parts count part is fits =
    ap (λ (l : List ℕ). get_or l part 0) (is ∙ ap (λ (l : List ℕ). l ++ replicate count 0) (take_all parts counts fits)) ∙ padded counts count part
