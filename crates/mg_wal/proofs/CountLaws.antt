-- What records give does not depend on how counts are written, and counts rise.
use Rattle.std.proofs.Common.{◌≡◌, ℕ, zero, suc, ◌+◌, ◌≤◌, Bool, true, false, eqb, if◌then◌else◌, List, [], ◌∷◌, length, take, ap, ◌∙◌, arith}
use Rattle.mg_wal_format.specs.declared.record.Rec.{Rec}
use Rattle.mg_wal_format.specs.Logs.{counts_after, one_more, BeginsWith, Gives, InOrder, Log}
use Rattle.mg_wal_format.specs.Records.{Counts}
use Rattle.mg_wal_format.proofs.LogLaws.{IsNext-same}

-- the same count of each partition
abbrev pub Same : Counts → Counts → Type 0
Same counts others = (part : ℕ) → counts part ≡ others part

one_more-same : (counts others : Counts) (part : ℕ) → Same counts others → Same (one_more counts part) (one_more others part)
one_more-same counts others part same other = ap (λ (n : ℕ). if eqb other part then n + 1 else n) (same other)

pub counts_after-same : (counts others : Counts) (recs : List Rec) → Same counts others → Same (counts_after counts recs) (counts_after others recs)
counts_after-same counts others [] same = same
counts_after-same counts others (rec ∷ recs) same = counts_after-same (one_more counts rec.part) (one_more others rec.part) recs (one_more-same counts others rec.part same)

pub InOrder-same : (parts : ℕ) (counts others : Counts) (number : ℕ) (recs : List Rec) → Same counts others → InOrder parts counts number recs → InOrder parts others number recs
InOrder-same parts counts others number [] same ordered = tt
InOrder-same parts counts others number (rec ∷ recs) same ordered = (
  ordered.0,
  ordered.1,
  IsNext-same parts counts others rec same ordered.2,
  InOrder-same parts (one_more counts rec.part) (one_more others rec.part) (number + 1) recs (one_more-same counts others rec.part same) ordered.3,
)

pub BeginsWith-same : (parts : ℕ) (counts others : Counts) (number : ℕ) (bytes : List ℕ) (recs : List Rec) (rest : List ℕ) → Same counts others → BeginsWith parts counts number bytes recs rest
    → BeginsWith parts others number bytes recs rest
BeginsWith-same parts counts others number bytes recs rest same begins = record { in_order = InOrder-same parts counts others number recs same begins.in_order; spelled = begins.spelled }

pub Gives-same : (parts : ℕ) (counts others : Counts) (number : ℕ) (logs : List Log) (recs : List Rec) → ((part : ℕ) → counts part ≡ others part) → Gives parts counts number logs recs → Gives parts others number logs recs
Gives-same parts counts others number [] recs same gives = gives
Gives-same parts counts others number (log ∷ []) recs same gives = (gives.0, BeginsWith-same parts counts others number log.rest recs gives.0 same gives.1, gives.2)
Gives-same parts counts others number (log ∷ next ∷ logs) recs same gives =
    let mine = gives.0 in
    let after : Same (counts_after counts mine) (counts_after others mine) = counts_after-same counts others mine same in (
      mine,
      gives.1,
      gives.2,
      gives.3,
      BeginsWith-same parts counts others number log.rest mine gives.2 same gives.4,
      gives.5,
      λ part. gives.6 part ∙ after part,
      Gives-same parts (counts_after counts mine) (counts_after others mine) (number + length mine) (next ∷ logs) gives.1 after gives.7,
    )

no_less : (is : Bool) (n : ℕ) → n ≤ (if is then n + 1 else n)
no_less true n = omega arith
no_less false n = omega arith

counts_grow : (counts : Counts) (recs : List Rec) (part : ℕ) → counts part ≤ counts_after counts recs part
counts_grow counts [] part = omega arith
counts_grow counts (rec ∷ recs) part = omega (arith, no_less (eqb part rec.part) (counts part), counts_grow (one_more counts rec.part) recs part)

-- the counts behind a front of a list are at most those behind a longer one
pub counts_rise : (counts : Counts) (recs : List Rec) (less more : ℕ) (part : ℕ) → less ≤ more → counts_after counts (take less recs) part ≤ counts_after counts (take more recs) part
counts_rise counts recs zero more part less = counts_grow counts (take more recs) part
counts_rise counts recs (suc less) zero part fewer = absurd (omega (arith, fewer))
counts_rise counts [] (suc less) (suc more) part fewer = omega arith
counts_rise counts (rec ∷ recs) (suc less) (suc more) part fewer = counts_rise (one_more counts rec.part) recs less more part (omega (arith, fewer))
