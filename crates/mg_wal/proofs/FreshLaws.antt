-- The book that an opening makes stands for the empty list behind what was found.
use Rattle.std.proofs.Common.{◌≡◌, ℕ, zero, suc, ◌+◌, ◌-◌, ◌<◌, ◌≤◌, ◌≢◌, ◌^◌, ◌⊎◌, inl, inr, eqb, leb, true, false, if◌then◌else◌, Bool, List, [], ◌∷◌, ◌++◌, length, map, get_or, take, drop, Option, None, Some, refl, sym, ap, subst, ◌∙◌, arith}
use Rattle.std.proofs.lemmas.Bool.Decides.{eqb_tells, leb_tells}
use Rattle.std.proofs.lemmas.List.{append-nil, drop_at, get_or_default, get_or_past, length-map, take_at}
use Rattle.std.proofs.lemmas.Option.{slice_get_within}
use Rattle.std.specs.List.{slice_get, AllByRecursion}
use Rattle.std.specs.Prelude.{IfSome}
use Rattle.mg_frame.specs.Frames.{frames}
use Rattle.mg_wal_format.specs.declared.record.Rec.{Rec}
use Rattle.mg_wal_format.specs.Logs.{counts_after, entry_of, one_more, InOrder, Log}
use Rattle.mg_wal_format.specs.Records.{counts_in, Counts}
use Rattle.mg_wal_format.specs.Recovery.{end_of, first_of, last_number, low_of, HasHeads}
use Rattle.mg_wal_format.proofs.FoundLaws.{cons_same}
use Rattle.mg_wal_format.proofs.ReadingLaws.{none_is_not_found}
use Rattle.mg_wal_format.proofs.TornLaws.{InOrder-number}
use Rattle.mg_wal.specs.Book.{staged_of, AreKept, Book, Entry, Staged}
use Rattle.mg_wal.specs.declared.known.KnownLog.{KnownLog}
use Rattle.mg_wal.specs.Findings.{AreKnown}
use Rattle.mg_wal.specs.Lists.{before_unsynced, Books, IsEmpty, IsNextOf, next_of}
use Rattle.mg_wal.specs.Openings.{basis_for, log_known}
use Rattle.mg_wal.proofs.CountLaws.{counts_rise}

-- ---- counts that a file may keep

raised_kept : (counts : Counts) (part p : ℕ) → counts part + 1 < 2 ^ 62 → counts p < 2 ^ 62 → ((eqb p part ≡ true) × (p ≡ part)) ⊎ ((eqb p part ≡ false) × (p ≢ part)) → one_more counts part p < 2 ^ 62
raised_kept counts part p next kept (inl (is, same)) =
    subst (λ (t : Bool). (if t then counts p + 1 else counts p) < 2 ^ 62) (sym is) (subst (λ (q : ℕ). counts q + 1 < 2 ^ 62) (sym same) next)
raised_kept counts part p next kept (inr (differs, _)) = subst (λ (t : Bool). (if t then counts p + 1 else counts p) < 2 ^ 62) (sym differs) kept

-- counts behind records in order are numbers that a file may keep
pub kept_after : (parts : ℕ) (counts : Counts) (number : ℕ) (recs : List Rec) → InOrder parts counts number recs → ((p : ℕ) → counts p < 2 ^ 62) → (p : ℕ) → counts_after counts recs p < 2 ^ 62
kept_after parts counts number [] ordered kept p = kept p
kept_after parts counts number (rec ∷ recs) ordered kept p =
    kept_after parts (one_more counts rec.part) (number + 1) recs ordered.3
    (λ q. raised_kept counts rec.part q (omega (arith, ordered.2.change, ordered.2.change_is_kept)) (kept q) (eqb_tells q rec.part)) p

-- ---- known logs

pub first_alike : (logs others : List Log) (known : List KnownLog) → AreKnown known logs → AreKnown known others → first_of logs ≡ first_of others
first_alike [] [] known are are' = refl
first_alike [] (other ∷ others) known are are' = absurd (omega (arith, ap length are, ap length are'))
first_alike (log ∷ logs) [] known are are' = absurd (omega (arith, ap length are, ap length are'))
first_alike (log ∷ logs) (other ∷ others) known are are' =
    ap (λ (k : KnownLog). k.head.first) (cons_same (log_known log) (log_known other) (map log_known logs) (map log_known others) (are ∙ sym are')).0

first_sound : (logs : List Log) → HasHeads logs → (1 ≤ first_of logs) × (first_of logs < 2 ^ 62)
first_sound [] heads = (omega arith, omega arith)
first_sound (log ∷ logs) heads = (heads.0.0.1.first, heads.0.0.1.first_is_kept)

-- ---- the book

-- the number after the last of these records; 0 without a log
pub record IsEnd (logs : List Log) (recs : List Rec) (last reach : ℕ) : Type 0 where
  pub last_is : last + 1 ≡ first_of logs + length recs
  pub reach_is : ((logs ≡ []) × (recs ≡ []) × (reach ≡ 0)) ⊎ ((0 < length logs) × (reach ≡ last + 1))

-- the book is made of what was found
pub record IsMade (logs : List Log) (recs : List Rec) (low : List ℕ) (book : Book) : Type 0 where
  pub heads : HasHeads logs
  pub low_is : (part : ℕ) → get_or low part 0 ≡ low_of logs part
  pub end : IsEnd logs recs book.last book.reach
  pub order : InOrder (length low) (counts_in low) (first_of logs) recs
  pub counts : (part : ℕ) → get_or book.counts part 0 ≡ counts_after (counts_in low) recs part
  pub parts : length book.counts ≡ length low
  pub synced : book.synced ≡ book.counts
  pub released : book.released ≡ low
  pub staged : book.staged ≡ None
  pub waiting : book.waiting ≡ []
  pub anchor : book.anchor ≤ book.newest

pub first_found : (logs : List Log) (recs : List Rec) (low : List ℕ) (book : Book) → IsEnd logs recs book.last book.reach → (basis_for book recs low).first ≡ first_of logs
first_found logs recs low book end = omega (arith, end.last_is)

pub last_at : (logs : List Log) (recs : List Rec) (low : List ℕ) (before last : ℕ) → HasHeads logs → before ≡ first_of logs - 1 → last ≡ before + length recs → InOrder (length low) (counts_in low) (first_of logs) recs
    → last < 2 ^ 62
last_at logs recs low before last heads is last_is order =
    let first = first_sound logs heads in
    omega (arith, is, last_is, first.0, InOrder-number (length low) (counts_in low) (first_of logs) recs first.1 order)

empty_or_found : (logs : List Log) (recs : List Rec) (low : List ℕ) (book : Book) → IsMade logs recs low book → IsEmpty (basis_for book recs low) ⊎ (book.reach ≡ next_of (basis_for book recs low))
empty_or_found logs recs low book made = by made.end.reach_is
  where
    by : ((logs ≡ []) × (recs ≡ []) × (book.reach ≡ 0)) ⊎ ((0 < length logs) × (book.reach ≡ book.last + 1)) → IsEmpty (basis_for book recs low) ⊎ (book.reach ≡ next_of (basis_for book recs low))
    by (inl (none, no_recs, zero_reach)) = inl (
      zero_reach,
      first_found logs recs low book made.end ∙ ap first_of none,
      no_recs,
      λ part. made.low_is part ∙ ap (λ (l : List Log). low_of l part) none,
    )
    by (inr (some, is)) = inr (omega (arith, is, made.end.last_is))

before_is : (logs : List Log) (recs : List Rec) (low : List ℕ) (book : Book) → IsMade logs recs low book → before_unsynced (basis_for book recs low) book ≡ length recs
before_is logs recs low book made = by made.end.reach_is
  where
    by : ((logs ≡ []) × (recs ≡ []) × (book.reach ≡ 0)) ⊎ ((0 < length logs) × (book.reach ≡ book.last + 1)) → before_unsynced (basis_for book recs low) book ≡ length recs
    by (inl (none, no_recs, zero_reach)) = omega (arith, zero_reach, ap length no_recs, made.end.last_is, ap first_of none)
    by (inr (some, is)) = omega (arith, is, made.end.last_is, (first_sound logs made.heads).0)

nothing_waits : (recs : List Rec) (count : ℕ) → count ≡ length recs → [] ≡ frames (map entry_of (drop count (recs ++ [])))
unfolding frames
nothing_waits recs count is = sym (ap (λ (rs : List Rec). frames (map entry_of rs)) (drop_at recs [] count (sym is)))

pub made_books : (logs : List Log) (recs : List Rec) (low : List ℕ) (book : Book) → IsMade logs recs low book → Books (basis_for book recs low) [] book
made_books logs recs low book made =
    let basis = basis_for book recs low in
    let first = first_found logs recs low book made.end in
    let all : recs ++ [] ≡ recs = append-nil recs in
    let before = before_is logs recs low book made in
    let least = first_sound logs made.heads in
    record {
      first = omega (arith, first, least.0);
      reached = empty_or_found logs recs low book made;
      in_order = subst (λ (n : ℕ). InOrder (length low) (counts_in low) n (recs ++ [])) (sym first) (subst (InOrder (length low) (counts_in low) (first_of logs)) (sym all) made.order);
      last = omega (arith, made.end.last_is, first, ap length all);
      parts = made.parts;
      changes = λ part. made.counts part ∙ ap (λ (rs : List Rec). counts_after (counts_in low) rs part) (sym all);
      synced_parts = ap length made.synced;
      synced = λ part. ap (λ (ns : List ℕ). get_or ns part 0) made.synced ∙ made.counts part
          ∙ ap (λ (rs : List Rec). counts_after (counts_in low) rs part) (sym (take_at recs [] (before_unsynced basis book) (sym before)));
      low_is_released = λ part. omega (arith, ap (λ (ns : List ℕ). get_or ns part 0) made.released);
      released = λ part.
          let kept : counts_after (counts_in low) recs part ≡ counts_after (counts_in low) (take (length recs) (recs ++ [])) part = ap (λ (rs : List Rec). counts_after (counts_in low) rs part) (sym (take_at recs [] (length recs) refl)) in
          omega (arith, ap (λ (ns : List ℕ). get_or ns part 0) made.released, counts_rise (counts_in low) (recs ++ []) 0 (length recs) part (omega arith), kept, made.counts part);
      staged = none_staged book.staged made.staged;
      waiting = made.waiting ∙ nothing_waits recs (before_unsynced basis book) before;
      reach = (omega arith, reach_below made.end.reach_is);
      newest = (omega arith, made.anchor);
    }
  where
    none_staged : (staged : Option Staged) → staged ≡ None → IfSome staged (λ s. (e : Entry) × IsNextOf book e × (s ≡ staged_of book e))
    none_staged None is = tt
    none_staged (Some s) is = absurd (none_is_not_found (Some s) is s refl)

    reach_below : ((logs ≡ []) × (recs ≡ []) × (book.reach ≡ 0)) ⊎ ((0 < length logs) × (book.reach ≡ book.last + 1)) → book.reach ≤ book.last + 1
    reach_below (inl (none, no_recs, zero_reach)) = omega (arith, zero_reach)
    reach_below (inr (some, is)) = omega (arith, is)

-- the reach is the number after what the logs give
pub end_found : (logs : List Log) (recs : List Rec) (last reach : ℕ) → IsEnd logs recs last reach → reach ≡ end_of logs recs
end_found logs recs last reach end = by logs end.last_is end.reach_is
  where
    by : (logs : List Log) → last + 1 ≡ first_of logs + length recs → ((logs ≡ []) × (recs ≡ []) × (reach ≡ 0)) ⊎ ((0 < length logs) × (reach ≡ last + 1)) → reach ≡ end_of logs recs
    by [] last_is (inl (no_logs, no_recs, zero_reach)) = zero_reach
    by [] last_is (inr (some, is)) = absurd (omega (arith, some))
    by (log ∷ logs) last_is (inl (no_logs, no_recs, zero_reach)) = absurd (omega (arith, ap length no_logs))
    by (log ∷ logs) last_is (inr (some, is)) = omega (arith, is, last_is)

pub is_end : (ready logs : List Log) (known : List KnownLog) (recs : List Rec) (before last reach : ℕ) → AreKnown known ready → HasHeads ready → AreKnown known logs → before ≡ first_of ready - 1 → last ≡ before + length recs
    → (known ≡ [] → recs ≡ []) → ((logs ≡ []) × (reach ≡ 0)) ⊎ ((0 < length logs) × (reach ≡ last + 1)) → IsEnd logs recs last reach
is_end ready logs known recs before last reach are heads are' is last_is none reach_is =
    record { last_is = omega (arith, last_is, is, (first_sound ready heads).0, first_alike ready logs known are are'); reach_is = by reach_is }
  where
    by : ((logs ≡ []) × (reach ≡ 0)) ⊎ ((0 < length logs) × (reach ≡ last + 1)) → ((logs ≡ []) × (recs ≡ []) × (reach ≡ 0)) ⊎ ((0 < length logs) × (reach ≡ last + 1))
    by (inl (no_logs, zero_reach)) = inl (no_logs, none (sym are' ∙ ap (map log_known) no_logs), zero_reach)
    by (inr some) = inr some

pub no_later : {N : Type 0} {some : Type 0} (last reach : ℕ) → (N × (reach ≡ 0)) ⊎ (some × (reach ≡ last + 1)) → reach ≤ last + 1
no_later last reach (inl none) = omega (arith, none.1)
no_later last reach (inr is) = omega (arith, is.1)

counts_kept : (low : List ℕ) → AreKept low → (p : ℕ) → counts_in low p < 2 ^ 62
counts_kept low kept p = by (leb_tells (length low) p)
  where
    by : ((leb (length low) p ≡ true) × (length low ≤ p)) ⊎ ((leb (length low) p ≡ false) × (p < length low)) → counts_in low p < 2 ^ 62
    by (inl past) = omega (arith, get_or_past low p 0 past.1)
    by (inr within) = kept p 0 within.1

-- counts that were reached are numbers that a file may keep
pub reached_kept : (low counts : List ℕ) (number : ℕ) (recs : List Rec) → AreKept low → InOrder (length low) (counts_in low) number recs → ((part : ℕ) → get_or counts part 0 ≡ counts_after (counts_in low) recs part) → AreKept counts
reached_kept low counts number recs kept order are k d within =
    omega (arith, get_or_default counts k d 0 within, are k, kept_after (length low) (counts_in low) number recs order (counts_kept low kept) k)

some_known : (log other : KnownLog) → Some log ≡ Some other → log ≡ other
some_known log other same = cc

-- the newest of known logs
newest_at : (logs : List Log) (log : KnownLog) (place : ℕ) → place + 1 ≡ length logs → slice_get (map log_known logs) place ≡ Some log → log.number ≡ last_number logs
newest_at [] log place end is = absurd (omega (arith, end))
newest_at (one ∷ []) log zero end is = ap (λ (k : KnownLog). k.number) (sym (some_known (log_known one) log is))
newest_at (one ∷ []) log (suc place) end is = absurd (omega (arith, end))
newest_at (one ∷ next ∷ logs) log zero end is = absurd (omega (arith, end))
newest_at (one ∷ next ∷ logs) log (suc place) end is = newest_at (next ∷ logs) log place (omega (arith, end)) is

pub last_known : (known : List KnownLog) (log : KnownLog) → slice_get known (length known - 1) ≡ Some log → (logs : List Log) → AreKnown known logs → log.number ≡ last_number logs
last_known known log is logs are =
    let within = slice_get_within known (length known - 1) log is in
    newest_at logs log (length known - 1) (omega (arith, within, ap length are, length-map logs log_known)) (ap (λ (k : List KnownLog). slice_get k (length known - 1)) are ∙ is)

-- the newest is below what all are below
pub newest_below : (newest : ℕ) (known : List KnownLog) (logs : List Log) → AreKnown known logs → AllByRecursion (λ log. log.number ≤ newest) known → last_number logs ≤ newest
newest_below newest known logs are all = by logs (subst (AllByRecursion (λ (log : KnownLog). log.number ≤ newest)) (sym are) all)
  where
    by : (logs : List Log) → AllByRecursion (λ (log : KnownLog). log.number ≤ newest) (map log_known logs) → last_number logs ≤ newest
    by [] all = omega arith
    by (log ∷ []) all = all.0
    by (log ∷ next ∷ logs) all = by (next ∷ logs) all.1
