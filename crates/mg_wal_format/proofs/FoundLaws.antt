-- The logs of an image are one list, and so are their heads.
use Rattle.std.proofs.Common.{◌≡◌, ℕ, zero, suc, ◌<◌, ◌^◌, ◌⊎◌, inl, inr, List, [], ◌∷◌, ◌++◌, length, map, take, None, Some, refl, sym, ap, subst, ◌∙◌, arith}
use Rattle.std.proofs.lemmas.List.{append_cancel_left, take_at}
use Rattle.std.specs.List.{AllByRecursion, Contains}
use Rattle.mg_disk.specs.Images.{Image}
use Rattle.mg_frame.specs.BigEndian.{big_endian}
use Rattle.mg_frame.specs.Frame.{covered, digest, frame, said_length, NoFrame}
use Rattle.mg_frame.proofs.FrameLaws.{covered_parts, frame_covered, said_length-frame}
use Rattle.mg_types.specs.declared.names.Name.{Name}
use Rattle.mg_wal_format.specs.declared.head.Head.{Head}
use Rattle.mg_wal_format.specs.Logs.{Log}
use Rattle.mg_wal_format.specs.Opening.{OneLogsLaw}
use Rattle.mg_wal_format.specs.Recovery.{found_of, log_bytes, log_name, AreLogs, Found, IsLess, IsSoundLog, IsStray, NumbersRise}
use Rattle.mg_wal_format.proofs.SpellingLaws.{one_head}

-- ---- one log

-- what a first frame has, whatever its number is
pub one_frame : (number : ℕ) (body other rest rest' : List ℕ) → length body < 2 ^ 32 → length other < 2 ^ 32 → frame number body ++ rest ≡ frame number other ++ rest' → (body ≡ other) × (rest ≡ rest')
one_frame number body other rest rest' fits fits' same =
    let len : length body ≡ length other = sym (said_length-frame number body rest fits) ∙ ap said_length same ∙ said_length-frame number other rest' fits' in
    let x = digest (covered number body) ++ rest in
    let y = digest (covered number other) ++ rest' in
    let left : frame number body ++ rest ≡ big_endian 4 (length body) ++ (big_endian 8 number ++ (body ++ x)) = frame_covered number body rest ∙ covered_parts number body x in
    let right : frame number other ++ rest' ≡ big_endian 4 (length body) ++ (big_endian 8 number ++ (other ++ y)) =
    frame_covered number other rest' ∙ covered_parts number other y ∙ ap (λ (n : ℕ). big_endian 4 n ++ (big_endian 8 number ++ (other ++ y))) (sym len) in
    let from_body : body ++ x ≡ other ++ y = append_cancel_left (big_endian 8 number) _ _ (append_cancel_left (big_endian 4 (length body)) _ _ (sym left ∙ same ∙ right)) in
    let bodies : body ≡ other = sym (take_at body x (length body) refl) ∙ ap (take (length body)) from_body ∙ take_at other y (length body) (sym len) in
    (bodies, append_cancel_left (frame number body) rest rest' (same ∙ ap (λ (b : List ℕ). frame number b ++ rest') (sym bodies)))

same_found : (found other : Found) → found.number ≡ other.number → found.body ≡ other.body → found.rest ≡ other.rest → found ≡ other
same_found found other number body rest =
    ap (λ (n : ℕ). let f : Found = record { number = n; body = found.body; rest = found.rest } in f) number
    ∙ ap (λ (b : List ℕ). let f : Found = record { number = other.number; body = b; rest = found.rest } in f) body
    ∙ ap (λ (r : List ℕ). let f : Found = record { number = other.number; body = other.body; rest = r } in f) rest

same_log : (log other : Log) → log.number ≡ other.number → log.head ≡ other.head → log.rest ≡ other.rest → log ≡ other
same_log log other number head rest =
    ap (λ (n : ℕ). let l : Log = record { number = n; head = log.head; rest = log.rest } in l) number
    ∙ ap (λ (h : Head). let l : Log = record { number = other.number; head = h; rest = log.rest } in l) head
    ∙ ap (λ (r : List ℕ). let l : Log = record { number = other.number; head = other.head; rest = r } in l) rest

pub some_same : {X : Type 0} (x y : X) → Some x ≡ Some y → x ≡ y
some_same x y same = cc

-- ---- rising numbers

-- an element of a list, by recursion
abbrev pub Among : {X : Type 0} → X → List X → Type 0
Among x [] = ⊥
Among x (y ∷ ys) = (x ≡ y) ⊎ Among x ys

-- each element of the one is in the other
abbrev Covers : List Found → List Found → Type 0
Covers xs ys = (x : Found) → Among x xs → Among x ys

pub among : {X : Type 0} (xs : List X) (x : X) → Contains xs x → Among x xs
among [] x (k, within, is) = absurd (omega (arith, within))
among (y ∷ ys) x (zero, within, is) = inl (sym is)
among (y ∷ ys) x (suc k, within, is) = inr (among ys x (k, omega (arith, within), is))

pub all_among : {X : Type 0} (P : X → Type 0) (xs : List X) (x : X) → AllByRecursion P xs → Among x xs → P x
all_among P [] x all none = absurd none
all_among P (y ∷ ys) x all (inl same) = subst P (sym same) all.0
all_among P (y ∷ ys) x all (inr behind) = all_among P ys x all.1 behind

rise_behind : (x : Found) (xs : List Found) → NumbersRise (x ∷ xs) → NumbersRise xs
rise_behind x [] rise = tt
rise_behind x (y ∷ ys) rise = rise.1

below : (x : Found) (xs : List Found) (z : Found) → NumbersRise (x ∷ xs) → Among z xs → x.number < z.number
below x [] z rise none = absurd none
below x (y ∷ ys) z rise (inl same) = omega (arith, rise.0, ap (λ (f : Found). f.number) same)
below x (y ∷ ys) z rise (inr behind) = omega (arith, rise.0, below y ys z rise.1 behind)

-- the first of two rising lists of the same elements
same_first : (x y : Found) (xs ys : List Found) → NumbersRise (x ∷ xs) → NumbersRise (y ∷ ys) → Among x (y ∷ ys) → Among y (x ∷ xs) → x ≡ y
same_first x y xs ys rise rise' (inl same) other = same
same_first x y xs ys rise rise' (inr behind) (inl same) = sym same
same_first x y xs ys rise rise' (inr behind) (inr behind') = absurd (omega (arith, below y ys x rise' behind, below x xs y rise behind'))

-- one that is above the first is among the others
among_others : (x y z : Found) (ys : List Found) → x ≡ y → x.number < z.number → Among z (y ∷ ys) → Among z ys
among_others x y z ys first above (inl same) = absurd (omega (arith, above, ap (λ (f : Found). f.number) same, ap (λ (f : Found). f.number) first))
among_others x y z ys first above (inr behind) = behind

same_rising : (xs ys : List Found) → NumbersRise xs → NumbersRise ys → Covers xs ys → Covers ys xs → xs ≡ ys
same_rising [] [] rise rise' covers covers' = refl
same_rising [] (y ∷ ys) rise rise' covers covers' = absurd (covers' y (inl refl))
same_rising (x ∷ xs) [] rise rise' covers covers' = absurd (covers x (inl refl))
same_rising (x ∷ xs) (y ∷ ys) rise rise' covers covers' =
    let first : x ≡ y = same_first x y xs ys rise rise' (covers x (inl refl)) (covers' y (inl refl)) in
    let others : xs ≡ ys = same_rising xs ys (rise_behind x xs rise) (rise_behind y ys rise')
    (λ z in_xs. among_others x y z ys first (below x xs z rise in_xs) (covers z (inr in_xs)))
    (λ z in_ys. among_others y x z xs (sym first) (below y ys z rise' in_ys) (covers' z (inr in_ys))) in
    ap (λ (f : Found). f ∷ xs) first ∙ ap (λ (fs : List Found). y ∷ fs) others

-- ---- the logs of an image

-- a log stands in the image under its number, and its first frame is whole
abbrev Stands : Image → Found → Type 0
Stands image found = (length found.body < 2 ^ 32) × (image (log_name found.number) ≡ Some (log_bytes found))

headed : (found : Found) → length found.body < 2 ^ 32 → NoFrame found.number (log_bytes found) → ⊥
unfolding NoFrame
headed found fits none = none found.body found.rest fits refl

one_found : (image : Image) (found other : Found) → Stands image found → Stands image other → other.number ≡ found.number → found ≡ other
one_found image found other stands stands' numbers =
    let bytes : log_bytes found ≡ log_bytes other = some_same _ _ (sym stands.1 ∙ ap (λ (n : ℕ). image (log_name n)) (sym numbers) ∙ stands'.1) in
    let parts = one_frame found.number found.body other.body found.rest other.rest stands.0 stands'.0 (bytes ∙ ap (λ (n : ℕ). frame n other.body ++ other.rest) numbers) in
    same_found found other (sym numbers) parts.0 parts.1

is_other : (image : Image) (others : List Found) (x : Found) → AllByRecursion (Stands image) others → Stands image x
    → ((found : Found) × Contains others found × (found.number ≡ x.number)) ⊎ NoFrame x.number (log_bytes x) → Among x others
is_other image others x all stands (inl (found, has, numbers)) =
    let in_others = among others found has in
    subst (λ (f : Found). Among f others) (sym (one_found image x found stands (all_among (Stands image) others found all in_others) numbers)) in_others
is_other image others x all stands (inr none) = absurd (headed x stands.0 none)

covered_by : (image : Image) (logs others : List Found) → AreLogs image logs → AreLogs image others → Covers logs others
covered_by image logs others are are' x in_logs =
    let stands = all_among (Stands image) logs x are.stand in_logs in
    is_other image others x are'.stand stands (are'.others x.number (log_bytes x) stands.1)

pub OneLogs : OneLogsLaw
OneLogs image logs others are are' = same_rising logs others are.rise are'.rise (covered_by image logs others are are') (covered_by image others logs are' are)

-- ---- strays

-- what a log stands for in an image it stands for in the same image without strays
kept_by : (old new : Image) (found : Found) → Stands old found → (new (log_name found.number) ≡ old (log_name found.number)) ⊎ (IsStray old (log_name found.number) × (new (log_name found.number) ≡ None)) → Stands new found
kept_by old new found stands (inl same) = (stands.0, same ∙ stands.1)
kept_by old new found stands (inr ((number, bytes, named, is, none), gone)) =
    let numbers : found.number ≡ number = ap (λ (n : Name). n.number) named in
    let one : log_bytes found ≡ bytes = some_same _ _ (sym stands.1 ∙ is) in
    absurd (headed found stands.0 (subst (λ (n : ℕ). NoFrame n (log_bytes found)) (sym numbers) (subst (NoFrame number) (sym one) none)))

all_kept : (old new : Image) (logs : List Found) → IsLess old new → AllByRecursion (Stands old) logs → AllByRecursion (Stands new) logs
all_kept old new [] less all = tt
all_kept old new (found ∷ logs) less all = (kept_by old new found all.0 (less (log_name found.number)), all_kept old new logs less all.1)

none_some : (bytes : List ℕ) → None ≡ Some bytes → ⊥
none_some bytes is = cc

was_there : (old new : Image) (name : Name) (bytes : List ℕ) → new name ≡ Some bytes → (new name ≡ old name) ⊎ (IsStray old name × (new name ≡ None)) → old name ≡ Some bytes
was_there old new name bytes is (inl same) = sym same ∙ is
was_there old new name bytes is (inr (stray, gone)) = absurd (none_some bytes (sym gone ∙ is))

pub AreLogs-less : (old new : Image) (logs : List Found) → IsLess old new → AreLogs old logs → AreLogs new logs
AreLogs-less old new logs less are =
    record {
      rise = are.rise;
      stand = all_kept old new logs less are.stand;
      others = λ number bytes is. are.others number bytes (was_there old new (log_name number) bytes is (less (log_name number)));
    }

-- ---- heads

pub cons_same : {X : Type 0} (x y : X) (xs ys : List X) → x ∷ xs ≡ y ∷ ys → (x ≡ y) × (xs ≡ ys)
cons_same x y xs ys same = (cc, cc)

-- one log, as it was found
pub log_found : (log other : Log) → IsSoundLog log → IsSoundLog other → found_of log ≡ found_of other → log ≡ other
log_found log other sound sound' same =
    same_log log other (ap (λ (f : Found). f.number) same) (one_head log.head other.head sound.1.fits sound'.1.fits (ap (λ (f : Found). f.body) same)) (ap (λ (f : Found). f.rest) same)

pub logs_found : (logs others : List Log) → AllByRecursion IsSoundLog logs → AllByRecursion IsSoundLog others → map found_of logs ≡ map found_of others → logs ≡ others
logs_found [] [] sound sound' same = refl
logs_found [] (log ∷ others) sound sound' same = absurd cc
logs_found (log ∷ logs) [] sound sound' same = absurd cc
logs_found (log ∷ logs) (other ∷ others) sound sound' same =
    let parts = cons_same (found_of log) (found_of other) (map found_of logs) (map found_of others) same in
    ap (λ (l : Log). l ∷ logs) (log_found log other sound.0 sound'.0 parts.0) ∙ ap (λ (ls : List Log). other ∷ ls) (logs_found logs others sound.1 sound'.1 parts.1)

-- the logs that were found as these
pub record FoundAs (logs : List Log) (older : List Found) (found : Found) (newer : List Found) : Type 0 where
  pub before : List Log
  pub log : Log
  pub behind : List Log
  pub split : logs ≡ before ++ log ∷ behind
  pub older_is : older ≡ map found_of before
  pub found_is : found ≡ found_of log
  pub newer_is : newer ≡ map found_of behind

pub found_as : (logs : List Log) (older : List Found) (found : Found) (newer : List Found) → map found_of logs ≡ older ++ found ∷ newer → FoundAs logs older found newer
found_as [] [] found newer same = absurd cc
found_as [] (first ∷ older) found newer same = absurd cc
found_as (log ∷ logs) [] found newer same =
    let parts = cons_same (found_of log) found (map found_of logs) newer same in
    record { before = []; log = log; behind = logs; split = refl; older_is = refl; found_is = sym parts.0; newer_is = sym parts.1 }
found_as (log ∷ logs) (first ∷ older) found newer same =
    let parts = cons_same (found_of log) first (map found_of logs) (older ++ found ∷ newer) same in
    let others = found_as logs older found newer parts.1 in
    record {
      before = log ∷ others.before;
      log = others.log;
      behind = others.behind;
      split = ap (λ (ls : List Log). log ∷ ls) others.split;
      older_is = ap (λ (f : Found). f ∷ older) (sym parts.0) ∙ ap (λ (fs : List Found). found_of log ∷ fs) others.older_is;
      found_is = others.found_is;
      newer_is = others.newer_is;
    }

pub sound_at : (before : List Log) (log : Log) (behind : List Log) → AllByRecursion IsSoundLog (before ++ log ∷ behind) → AllByRecursion IsSoundLog before × IsSoundLog log
sound_at [] log behind sound = (tt, sound.0)
sound_at (first ∷ before) log behind sound = let others = sound_at before log behind sound.1 in ((sound.0, others.0), others.1)
