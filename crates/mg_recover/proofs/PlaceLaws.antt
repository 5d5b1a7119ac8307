-- The place of a record that may not be made.
use Rattle.std.proofs.Common.{◌≡◌, ℕ, zero, suc, ◌+◌, ◌-◌, ◌^◌, ◌<◌, ◌≤◌, min, Bool, true, false, leb, if◌then◌else◌, List, [], ◌∷◌, ◌++◌, length, map, take, drop, IfSome, refl, sym, ap, subst, ◌∙◌, arith}
use Rattle.std.specs.List.{sum_by, AllByRecursion}
use Rattle.std.proofs.lemmas.List.{length-append, length-drop, take-append-drop}
use Rattle.std.proofs.lemmas.List.Sums.{sum_by-cons}
use Rattle.std.proofs.lemmas.Bool.Decides.{nat_tests}
use Rattle.mg_frame.specs.Frame.{frame}
use Rattle.mg_frame.specs.Frames.{frames}
use Rattle.mg_frame.proofs.FrameLaws.{length-frame}
use Rattle.mg_wal_format.specs.declared.record.Rec.{Rec}
use Rattle.mg_wal_format.specs.Heads.{head_bytes}
use Rattle.mg_wal_format.specs.Logs.{entry_of, one_more, Gives, HeadsRise, InOrder, Log}
use Rattle.mg_wal_format.specs.Records.{record_bytes, Counts}
use Rattle.mg_wal_format.specs.Recovery.{first_of, limit_of, log_file, low_of, offset_behind, HasHeads}
use Rattle.mg_wal_format.proofs.FoundLaws.{cons_same}
use Rattle.mg_wal_format.proofs.FrontLaws.{InOrder-behind, InOrder-front}
use Rattle.mg_wal_format.proofs.OrderLaws.{AllInOrder}
use Rattle.mg_wal_format.proofs.SpellingLaws.{length-head_bytes}
use Rattle.mg_recover.specs.Refusals.{IsPlacedAt}
use Rattle.mg_recover.specs.Replays.{offset_in, size_from, IsNewestAt}
use Rattle.mg_wal.specs.declared.known.KnownLog.{KnownLog}
use Rattle.mg_wal.specs.Openings.{log_known}

-- ---- the log

-- the logs of which these are known
record KnownAs (logs : List Log) (older : List KnownLog) (known : KnownLog) (newer : List KnownLog) : Type 0 where
  before : List Log
  log : Log
  behind : List Log
  split : logs ≡ before ++ log ∷ behind
  known_is : known ≡ log_known log
  newer_is : newer ≡ map log_known behind

known_as : (logs : List Log) (older : List KnownLog) (known : KnownLog) (newer : List KnownLog) → map log_known logs ≡ older ++ known ∷ newer → KnownAs logs older known newer
known_as [] [] known newer same = absurd cc
known_as [] (first ∷ older) known newer same = absurd cc
known_as (log ∷ logs) [] known newer same =
    let parts = cons_same (log_known log) known (map log_known logs) newer same in
    record { before = []; log = log; behind = logs; split = refl; known_is = sym parts.0; newer_is = sym parts.1 }
known_as (log ∷ logs) (first ∷ older) known newer same =
    let parts = cons_same (log_known log) first (map log_known logs) (older ++ known ∷ newer) same in
    let others = known_as logs older known newer parts.1 in
    record {
      before = log ∷ others.before;
      log = others.log;
      behind = others.behind;
      split = ap (λ (ls : List Log). log ∷ ls) others.split;
      known_is = others.known_is;
      newer_is = others.newer_is;
    }

-- the oldest log begins first
first_least : (older : List Log) (log : Log) (newer : List Log) → HeadsRise (older ++ log ∷ newer) → first_of (older ++ log ∷ newer) ≤ log.head.first
first_least [] log newer rise = omega arith
first_least (first ∷ []) log newer rise = rise.0
first_least (first ∷ next ∷ older) log newer rise = omega (arith, rise.0, first_least (next ∷ older) log newer rise.2)

-- no log behind begins at the number or before it
limit_above : (number : ℕ) (behind : List Log) → AllByRecursion (λ (other : KnownLog). number < other.head.first) (map log_known behind) → IfSome (limit_of behind) (λ first. number < first)
limit_above number [] later = tt
limit_above number (log ∷ behind) later = later.0

-- ---- the records that stand in it

size_all : (yes_is : Bool) (size : ℕ) → yes_is ≡ true → (if yes_is then size else 0) ≡ size
size_all true size is = refl
size_all false size is = absurd cc

size_none : (yes_is : Bool) (size : ℕ) → yes_is ≡ false → (if yes_is then size else 0) ≡ 0
size_none true size is = absurd cc
size_none false size is = refl

length_first : (rec : Rec) (recs : List Rec) → length (frames (map entry_of (rec ∷ recs))) ≡ length (record_bytes rec) + 20 + length (frames (map entry_of recs))
unfolding frames entry_of
length_first rec recs = omega (arith, length-append (frame rec.number (record_bytes rec)) (frames (map entry_of recs)), length-frame rec.number (record_bytes rec))

length_none : length (frames (map entry_of [])) ≡ 0
unfolding frames
length_none = refl

-- all records stand in it
sizes_all : (parts : ℕ) (counts : Counts) (number first : ℕ) (recs : List Rec) → InOrder parts counts number recs → first ≤ number → sum_by (size_from first) recs ≡ length (frames (map entry_of recs))
sizes_all parts counts number first [] ordered before = sym length_none
sizes_all parts counts number first (rec ∷ recs) ordered before =
    let numbered = ordered.0 in
    let there : leb first rec.number ≡ true = grind (arith, nat_tests) in
    omega (
      arith,
      sum_by-cons (size_from first) rec recs,
      size_all (leb first rec.number) (length (record_bytes rec) + 20) there,
      sizes_all parts (one_more counts rec.part) (number + 1) first recs ordered.3 (omega arith),
      length_first rec recs,
    )

-- those behind so many
sizes_behind : (parts : ℕ) (counts : Counts) (number count : ℕ) (recs : List Rec) → InOrder parts counts number recs → sum_by (size_from (number + count)) recs ≡ length (frames (map entry_of (drop count recs)))
sizes_behind parts counts number zero recs ordered = sizes_all parts counts number (number + 0) recs ordered (omega arith)
sizes_behind parts counts number (suc count) [] ordered = sym length_none
sizes_behind parts counts number (suc count) (rec ∷ recs) ordered =
    let numbered = ordered.0 in
    let first = number + suc count in
    let away : leb first rec.number ≡ false = grind (arith, nat_tests) in
    let same : number + 1 + count ≡ first = omega arith in
    let behind : sum_by (size_from first) recs ≡ length (frames (map entry_of (drop count recs))) =
    subst (λ (n : ℕ). sum_by (size_from n) recs ≡ length (frames (map entry_of (drop count recs)))) same (sizes_behind parts (one_more counts rec.part) (number + 1) count recs ordered.3) in
    omega (arith, sum_by-cons (size_from first) rec recs, size_none (leb first rec.number) (length (record_bytes rec) + 20) away, behind)

-- ---- the place

-- the number of the record behind these
number_behind : (parts : ℕ) (counts : Counts) (number : ℕ) (before : List Rec) (rec : Rec) (behind : List Rec) → InOrder parts counts number (before ++ rec ∷ behind) → rec.number ≡ number + length before
number_behind parts counts number before rec behind ordered = (InOrder-behind parts counts number before (rec ∷ behind) ordered).0

-- where the oldest log begins, the records are numbered from
ordered_from : (parts : ℕ) (found : List Log) (recs : List Rec) → Gives parts (low_of found) (first_of found) found recs → InOrder parts (low_of found) (first_of found) recs
ordered_from parts found recs gives = AllInOrder parts (low_of found) (first_of found) found recs gives

none_there : (before : List Rec) (rec : Rec) (behind : List Rec) → before ++ rec ∷ behind ≡ [] → ⊥
none_there [] rec behind is = cc
none_there (first ∷ before) rec behind is = cc

-- some log begins at a record's number or before it
pub some_log : (parts : ℕ) (found : List Log) (known : List KnownLog) (before : List Rec) (rec : Rec) (behind : List Rec) → map log_known found ≡ known
    → Gives parts (low_of found) (first_of found) found (before ++ rec ∷ behind) → AllByRecursion (λ (log : KnownLog). rec.number < log.head.first) known → ⊥
some_log parts [] known before rec behind are gives later = none_there before rec behind gives
some_log parts (log ∷ found) known before rec behind are gives later =
    let ordered = ordered_from parts (log ∷ found) (before ++ rec ∷ behind) gives in
    let all = subst (AllByRecursion (λ (k : KnownLog). rec.number < k.head.first)) (sym are) later in
    let first = all.0 in
    omega (arith, number_behind parts (low_of (log ∷ found)) log.head.first before rec behind ordered)

-- the offset behind a log's head and the records that stand in it
offset_is : (parts : ℕ) (counts : Counts) (number count : ℕ) (log : Log) (known : KnownLog) (before : List Rec) → known ≡ log_known log → InOrder parts counts number before → number + count ≡ log.head.first
    → offset_in known before ≡ offset_behind log (drop count before)
offset_is parts counts number count log known before is ordered begins =
    let sizes : sum_by (size_from log.head.first) before ≡ length (frames (map entry_of (drop count before))) =
    subst (λ (n : ℕ). sum_by (size_from n) before ≡ length (frames (map entry_of (drop count before)))) begins (sizes_behind parts counts number count before ordered) in
    let here : offset_in (log_known log) before ≡ offset_behind log (drop count before) = omega (arith, sizes, length-frame log.number (head_bytes log.head), length-head_bytes log.head) in
    ap (λ (k : KnownLog). offset_in k before) is ∙ here

-- the newest known log that begins at the record's number or before it is where the record stands
pub placed_at : (parts : ℕ) (found : List Log) (known : List KnownLog) (log : KnownLog) (before : List Rec) (rec : Rec) (behind : List Rec) (at : ℕ) → map log_known found ≡ known → HasHeads found
    → Gives parts (low_of found) (first_of found) found (before ++ rec ∷ behind) → IsNewestAt known rec.number log → at ≡ min (offset_in log before) (2 ^ 64 - 1) → IsPlacedAt found before rec (log_file log.number) at
placed_at parts found known log before rec behind at are heads gives newest at_is =
    let as_known = known_as found newest.older log newest.newer (are ∙ newest.split) in
    let mine = as_known.log in
    let ordered = ordered_from parts found (before ++ rec ∷ behind) gives in
    let count = mine.head.first - first_of found in
    let numbered = number_behind parts (low_of found) (first_of found) before rec behind ordered in
    let least : first_of found ≤ mine.head.first =
    subst (λ (ls : List Log). first_of ls ≤ mine.head.first) (sym as_known.split) (first_least as_known.before mine as_known.behind (subst HeadsRise as_known.split heads.1)) in
    let begins : mine.head.first ≤ rec.number = subst (λ (k : KnownLog). k.head.first ≤ rec.number) as_known.known_is newest.begins in
    let sum : first_of found + count ≡ mine.head.first = omega arith in
    record {
      older = as_known.before;
      log = mine;
      newer = as_known.behind;
      earlier = take count before;
      mine = drop count before;
      logs_are = as_known.split;
      before_are = sym (take-append-drop count before);
      begins = omega (arith, length-drop count before);
      newest = limit_above rec.number as_known.behind (subst (AllByRecursion (λ (other : KnownLog). rec.number < other.head.first)) as_known.newer_is newest.later);
      file_is = ap (λ (k : KnownLog). log_file k.number) as_known.known_is;
      at_is = at_is ∙ ap (λ (n : ℕ). min n (2 ^ 64 - 1)) (offset_is parts (low_of found) (first_of found) count mine log before as_known.known_is (InOrder-front parts (low_of found) (first_of found) before (rec ∷ behind) ordered) sum);
    }
