-- A log that is read in pieces.
use Rattle.std.proofs.Common.{◌≡◌, ℕ, zero, suc, ◌+◌, ◌-◌, ◌<◌, ◌≤◌, ◌⊎◌, inl, inr, List, [], ◌∷◌, ◌++◌, length, map, take, drop, get_or, min, Option, Some, Result, Ok, Err, refl, sym, ap, subst, ◌∙◌, arith, append_assoc}
use Rattle.std.proofs.lemmas.Bool.{cases_lt}
use Rattle.std.proofs.lemmas.List.{drop-append-le, drop-drop, length-append, length-drop, length-take, map-append, take-append-drop}
use Rattle.std.specs.Prelude.{IfOk, IfSome}
use Rattle.mg_disk.specs.Images.{Image}
use Rattle.mg_frame.specs.Frame.{frame, said_length, taken, Means, NoFrame}
use Rattle.mg_frame.specs.Frames.{frames}
use Rattle.mg_frame.specs.declared.frame.Taken.{Taken}
use Rattle.mg_frame.specs.declared.frame.Taken.TheVariants.{Whole, End, Short, Number, Torn}
use Rattle.mg_frame.proofs.FrameLaws.{length-frame, said_length-frame}
use Rattle.mg_frame.proofs.FramesLaws.{frames-append}
use Rattle.mg_frame.proofs.FrontLaws.{none_if_less, said_length-front, too_few, IsTooFew}
use Rattle.mg_types.specs.declared.faults.Fault.{Fault}
use Rattle.mg_types.specs.declared.names.FileId.{FileId}
use Rattle.mg_types.specs.declared.names.Name.{Name}
use Rattle.mg_wal_format.specs.declared.record.Rec.{Rec}
use Rattle.mg_wal_format.specs.Faults.{IsRecordRefused}
use Rattle.mg_wal_format.specs.Judging.{GivesUpTo, HasRecords, IsLogRefused}
use Rattle.mg_wal_format.specs.Logs.{counts_after, entry_of, InOrder}
use Rattle.mg_wal_format.specs.Records.{counts_in, Counts}
use Rattle.mg_wal_format.specs.Recovery.{log_name}
use Rattle.mg_wal_format.proofs.LogLaws.{counts_after-append, HasRecords-none, IsRecordRefused-same}
use Rattle.mg_wal_format.proofs.OrderLaws.{InOrder-append}
use Rattle.mg_wal.specs.declared.known.KnownLog.{KnownLog}
use Rattle.mg_wal.specs.Streams.{head_end, IsWindow}
use Rattle.mg_wal.proofs.CountLaws.{counts_after-same, InOrder-same}

-- ---- a window

-- where a front that has all of the frame is none, the bytes begin with none
none_by_long : (number count : ℕ) (bytes : List ℕ) → said_length bytes + 20 ≤ count → NoFrame number (take count bytes) → NoFrame number bytes
unfolding NoFrame
none_by_long number count bytes enough none = λ body rest fits is.
    let said : said_length bytes ≡ length body = ap said_length is ∙ said_length-frame number body rest fits in
    let len : length (frame number body) ≤ count = omega (arith, length-frame number body, said, enough) in
    none body (take (count - length (frame number body)) rest) fits (ap (take count) is ∙ take_more (frame number body) rest count len)
  where
    take_more : (front rest : List ℕ) (count : ℕ) → length front ≤ count → take count (front ++ rest) ≡ front ++ take (count - length front) rest
    take_more [] rest count less = ap (λ (n : ℕ). take n rest) (omega arith)
    take_more (x ∷ front) rest zero less = absurd (omega (arith, less))
    take_more (x ∷ front) rest (suc count) less =
        let same : count - length front ≡ suc count - length (x ∷ front) = omega arith in
        ap (λ (l : List ℕ). x ∷ l) (take_more front rest count (omega (arith, less))) ∙ ap (λ (n : ℕ). x ∷ (front ++ take n rest)) same

module _ (number size : ℕ) (bytes : List ℕ) (sized : size ≡ min (length bytes) 65536) where
  piece_len : length (take size bytes) ≡ size
  piece_len = length-take size bytes ∙ omega (arith, sized)

  -- a piece that does not tell how long the frame is, or that it is longer than what is left
  less_left : said_length (take size bytes) + 20 ≡ said_length bytes + 20 ⊎ (size < 4)
  less_left = elim (cases_lt size 4) [
    | inl few ↦ inr few
    | inr enough ↦ inl (ap (λ (n : ℕ). n + 20) (said_length-front size bytes enough))
  ]

  -- a piece that is asked to be longer
  pub longer_decides : (want have : ℕ) → Means (take size bytes) 0 number (Short want have) → want ≤ length bytes → NoFrame number (take want bytes) → NoFrame number bytes
  longer_decides want have means enough none = by_want means.2
    where
      by_want : ((want ≡ 12) ⊎ (want ≡ said_length (take size bytes) + 20)) → NoFrame number bytes
      by_want (inl twelve) = absurd (omega (arith, twelve, means.0, means.1, piece_len, sized, enough))
      by_want (inr said) = elim less_left [
        | inl same ↦ none_by_long number want bytes (omega (arith, said, same)) none
        | inr few ↦ absurd (omega (arith, few, sized, said, enough))
      ]

  -- a piece that is taken as it is
  pub piece_decides : (answer : Taken) → answer ≡ taken (take size bytes) 0 number → Means (take size bytes) 0 number answer → ((want have : ℕ) → answer ≡ Short want have → length bytes < want)
      → NoFrame number (take size bytes) → NoFrame number bytes
  piece_decides answer is means short none = elim (cases_lt (length (take size bytes)) (said_length (take size bytes) + 20)) [
    | inl less ↦ by_answer answer means short (subst (IsTooFew (take size bytes)) (sym is) (too_few number (take size bytes) less))
    | inr enough ↦ elim less_left [
      | inl same ↦ none_by_long number size bytes (omega (arith, enough, same, piece_len)) none
      | inr few ↦ absurd (omega (arith, few, enough, piece_len))
    ]
  ]
    where
      by_answer : (answer : Taken) → Means (take size bytes) 0 number answer → ((want have : ℕ) → answer ≡ Short want have → length bytes < want) → IsTooFew (take size bytes) answer → NoFrame number bytes
      by_answer (Whole start end next) means short found = absurd found
      by_answer End means short found = none_if_less number bytes (omega (arith, ap length found, piece_len, sized))
      by_answer (Short want have) means short found = by_want means.2
        where
          by_want : ((want ≡ 12) ⊎ (want ≡ said_length (take size bytes) + 20)) → NoFrame number bytes
          by_want (inl twelve) = none_if_less number bytes (omega (arith, twelve, short want have refl))
          by_want (inr said) = elim less_left [
            | inl same ↦ none_if_less number bytes (omega (arith, said, same, short want have refl))
            | inr few ↦ none_if_less number bytes (omega (arith, few, sized))
          ]
      by_answer (Number kept asked) means short found = absurd found
      by_answer (Torn kept asked) means short found = absurd found

-- ---- records in a window

tail_is : (bytes window : List ℕ) (at count stop : ℕ) → window ≡ take count (drop at bytes) → stop ≤ length window → drop (at + stop) bytes ≡ drop stop window ++ drop count (drop at bytes)
tail_is bytes window at count stop front within =
    let rest = drop at bytes in
    sym (drop-drop stop at bytes) ∙ ap (drop stop) (sym (take-append-drop count rest) ∙ ap (λ (l : List ℕ). l ++ drop count rest) (sym front))
    ∙ drop-append-le stop window (drop count rest) within

within_is : (bytes window : List ℕ) (at count stop : ℕ) → window ≡ take count (drop at bytes) → at ≤ length bytes → stop ≤ length window → at + stop ≤ length bytes
within_is bytes window at count stop front below within =
    omega (arith, within, below, ap length front, length-take count (drop at bytes), length-drop at bytes)

-- the records in a window follow those before it
pub records_more : (counts now : List ℕ) (first number : ℕ) (bytes window : List ℕ) (at stop count : ℕ) (recs mine : List Rec) (behind : ℕ) → HasRecords (length counts) (counts_in counts) first bytes at recs stop
    → ((part : ℕ) → get_or now part 0 ≡ counts_after (counts_in counts) recs part) → length now ≡ length counts → first + length recs ≡ number → window ≡ take count (drop stop bytes)
    → HasRecords (length now) (counts_in now) number window 0 mine behind → HasRecords (length counts) (counts_in counts) first bytes at (recs ++ mine) (stop + behind)
unfolding frames
records_more counts now first number bytes window at stop count recs mine behind has are parts numbers front more =
    let own = frames (map entry_of recs) in
    let others = frames (map entry_of mine) in
    let both : frames (map entry_of (recs ++ mine)) ≡ own ++ others = ap frames (map-append entry_of recs mine) ∙ frames-append (map entry_of recs) (map entry_of mine) in
    let tail = drop count (drop stop bytes) in
    let rest : drop stop bytes ≡ others ++ drop (stop + behind) bytes =
    sym (take-append-drop count (drop stop bytes)) ∙ ap (λ (l : List ℕ). l ++ tail) (sym front ∙ more.begins.spelled) ∙ append_assoc others (drop behind window) tail
    ∙ ap (λ (l : List ℕ). others ++ l) (sym (tail_is bytes window stop count behind front more.within)) in
    record {
      begins = record {
        in_order = InOrder-append (length counts) (counts_in counts) first recs mine has.begins.in_order
            (InOrder-same (length counts) (counts_in now) (counts_after (counts_in counts) recs) (first + length recs) mine are
            (subst (λ (n : ℕ). InOrder (length counts) (counts_in now) n mine) (sym numbers)
            (subst (λ (n : ℕ). InOrder n (counts_in now) number mine) parts more.begins.in_order)));
        spelled = has.begins.spelled ∙ ap (λ (l : List ℕ). own ++ l) rest ∙ sym (append_assoc own others (drop (stop + behind) bytes)) ∙ ap (λ (l : List ℕ). l ++ drop (stop + behind) bytes) (sym both);
      };
      behind = omega (arith, has.behind, more.behind, ap length both, length-append own others);
      within = within_is bytes window stop count behind front has.within more.within;
    }

-- a refusal in a window
pub refused_more : (file : FileId) (counts now : List ℕ) (first number limit : ℕ) (bytes window : List ℕ) (at stop count : ℕ) (recs : List Rec) (fault : Fault) → HasRecords (length counts) (counts_in counts) first bytes at recs stop
    → ((part : ℕ) → get_or now part 0 ≡ counts_after (counts_in counts) recs part) → length now ≡ length counts → first + length recs ≡ number → window ≡ take count (drop stop bytes)
    → IsLogRefused file stop (length now) (counts_in now) number limit window 0 fault → IsLogRefused file 0 (length counts) (counts_in counts) first limit bytes at fault
refused_more file counts now first number limit bytes window at stop count recs fault has are parts numbers front refused =
    let r = refused.refused in
    let mine = refused.recs in
    let reached : number + length mine ≡ first + length (recs ++ mine) = omega (arith, numbers, length-append recs mine) in
    let after : (part : ℕ) → counts_after (counts_in now) mine part ≡ counts_after (counts_in counts) (recs ++ mine) part =
    λ part. counts_after-same (counts_in now) (counts_after (counts_in counts) recs) mine are part ∙ ap (λ (c : Counts). c part) (sym (counts_after-append recs mine (counts_in counts))) in
    record {
      recs = recs ++ mine;
      stop = stop + refused.stop;
      records = records_more counts now first number bytes window at stop count recs mine refused.stop has are parts numbers front refused.records;
      below = omega (arith, reached, refused.below);
      refused = record {
        body = r.body;
        rest = r.rest ++ drop count (drop stop bytes);
        body_fits = r.body_fits;
        spelled = tail_is bytes window stop count refused.stop front refused.records.within
            ∙ ap (λ (l : List ℕ). l ++ drop count (drop stop bytes)) (r.spelled ∙ ap (λ (n : ℕ). frame n r.body ++ r.rest) reached)
            ∙ append_assoc (frame (first + length (recs ++ mine)) r.body) r.rest (drop count (drop stop bytes));
        why = subst (λ (n : ℕ). IsRecordRefused file n (length counts) (counts_after (counts_in counts) (recs ++ mine)) r.body fault) (omega arith)
            (IsRecordRefused-same file (stop + refused.stop) (length counts) (counts_after (counts_in now) mine) (counts_after (counts_in counts) (recs ++ mine)) r.body fault after
            (subst (λ (n : ℕ). IsRecordRefused file (stop + refused.stop) n (counts_after (counts_in now) mine) r.body fault) parts r.why));
      };
    }

-- a window without a record ends the log
pub ends_here : (parts : ℕ) (counts : Counts) (number limit : ℕ) (bytes window : List ℕ) (at : ℕ) (recs : List Rec) (stop : ℕ) → length recs ≡ 0 → number < limit → IsWindow bytes at number window
    → GivesUpTo parts counts number limit window 0 recs stop → NoFrame number (drop at bytes)
unfolding frames
ends_here parts counts number limit bytes window at [] stop none below w gives = elim gives.ends [
  | inl is ↦ absurd (omega (arith, is, below))
  | inr ends ↦
      let zero : stop ≡ 0 = gives.records.behind in
      let same : number + 0 ≡ number = omega arith in
      w.decides (subst (λ (n : ℕ). NoFrame number (drop n window)) zero (subst (λ (n : ℕ). NoFrame n (drop stop window)) same ends))
]
ends_here parts counts number limit bytes window at (rec ∷ recs) stop none below w gives = absurd (omega (arith, none))

-- before any record
pub log_begins : (parts : ℕ) (counts : Counts) (number : ℕ) (bytes : List ℕ) (known : KnownLog) (stop : ℕ) (recs : List Rec) → recs ≡ [] → stop ≡ head_end known (length bytes)
    → HasRecords parts counts number bytes (head_end known (length bytes)) recs stop
log_begins parts counts number bytes known stop recs none is =
    let at = head_end known (length bytes) in
    subst (λ (l : List Rec). HasRecords parts counts number bytes at l stop) (sym none)
    (subst (λ (n : ℕ). HasRecords parts counts number bytes at [] n) (sym is) (HasRecords-none parts counts number bytes at (omega arith)))

-- ---- pieces that were read

left_len : (bytes : List ℕ) (at len : ℕ) → length bytes ≡ len → length (drop at bytes) ≡ len - at
left_len bytes at len is = length-drop at bytes ∙ ap (λ (n : ℕ). n - at) is

pub window_of : (bytes piece : List ℕ) (at len size number : ℕ) (answer : Taken) → length bytes ≡ len → size ≡ min (len - at) 65536 → piece ≡ take size (drop at bytes) → answer ≡ taken piece 0 number
    → Means piece 0 number answer → ((want have : ℕ) → answer ≡ Short want have → len - at < want) → IsWindow bytes at number piece
window_of bytes piece at len size number answer is sized front exact means short =
    let left = left_len bytes at len is in
    record {
      count = size;
      front = front;
      decides = λ none. piece_decides number size (drop at bytes) (sized ∙ ap (λ (n : ℕ). min n 65536) (sym left)) answer
          (subst (λ (l : List ℕ). answer ≡ taken l 0 number) front exact) (subst (λ (l : List ℕ). Means l 0 number answer) front means)
          (λ want have found. omega (arith, left, short want have found)) (subst (NoFrame number) front none);
    }

pub longer_of : (bytes piece window : List ℕ) (at len size number want have : ℕ) → length bytes ≡ len → size ≡ min (len - at) 65536 → piece ≡ take size (drop at bytes)
    → Means piece 0 number (Short want have) → want ≤ len - at → window ≡ take want (drop at bytes) → IsWindow bytes at number window
longer_of bytes piece window at len size number want have is sized front means enough longer =
    let left = left_len bytes at len is in
    record {
      count = want;
      front = longer;
      decides = λ none. longer_decides number size (drop at bytes) (sized ∙ ap (λ (n : ℕ). min n 65536) (sym left)) want have
          (subst (λ (l : List ℕ). Means l 0 number (Short want have)) front means) (omega (arith, left, enough)) (subst (NoFrame number) longer none);
    }

pub short_want : (answer : Taken) (want have other more left : ℕ) → answer ≡ Short want have → left < want → answer ≡ Short other more → left < other
short_want answer want have other more left is below found =
    let same : want ≡ other = wants want have other more (sym is ∙ found) in omega (arith, same, below)
  where
    wants : (want have other more : ℕ) → Short want have ≡ Short other more → want ≡ other
    wants want have other more is = cc

pub piece_of : (image : Image) (name : Name) (log at count : ℕ) (bytes piece : List ℕ) → name ≡ log_name log → image (log_name log) ≡ Some bytes
    → IfSome (image name) (λ (bs : List ℕ). piece ≡ take count (drop at bs)) → piece ≡ take count (drop at bytes)
piece_of image name log at count bytes piece named is found = subst (λ (o : Option (List ℕ)). IfSome o (λ (bs : List ℕ). piece ≡ take count (drop at bs))) (ap image named ∙ is) found

pub if_ok : {T : Type 0} (r : Result T Fault) (P Q : T → Type 0) → ((x : T) → P x → Q x) → IfOk r P → IfOk r Q
if_ok (Ok x) P Q step is = step x is
if_ok (Err e) P Q step is = tt

pub len_of : (image : Image) (name : Name) (log len : ℕ) (bytes : List ℕ) → name ≡ log_name log → image (log_name log) ≡ Some bytes → IfSome (image name) (λ (bs : List ℕ). len ≡ length bs) → len ≡ length bytes
len_of image name log len bytes named is found = subst (λ (o : Option (List ℕ)). IfSome o (λ (bs : List ℕ). len ≡ length bs)) (ap image named ∙ is) found
