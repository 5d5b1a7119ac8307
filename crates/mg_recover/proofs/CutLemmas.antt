-- The records of an image are a front of all changes, and lead to a cut.
use Rattle.std.proofs.Common.{◌≡◌, ℕ, ◌+◌, ◌-◌, ◌≤◌, ◌⊎◌, inl, inr, ◌==◌, Bool, true, false, eqb, if◌then◌else◌, List, [], ◌∷◌, ◌++◌, length, map, take, get_or, refl, sym, ap, subst, ◌∙◌, arith}
use Rattle.std.specs.List.{filter}
use Rattle.std.proofs.Math.Seq.{take-append-add}
use Rattle.std.proofs.lemmas.Bool.{eq-eqb}
use Rattle.std.proofs.lemmas.List.{length-append, length-map, map-append, nil_from_length, take_all, take_at}
use Rattle.std.proofs.lemmas.List.Elements.{filter-append}
use Rattle.std.proofs.lemmas.List.Sums.{fold-append}
use Rattle.mg_disk.specs.Images.{Image}
use Rattle.mg_model.specs.declared.calls.Call.{Call}
use Rattle.mg_model.specs.declared.calls.Change.{Change}
use Rattle.mg_model.specs.History.{after_change, after_changes}
use Rattle.mg_model.specs.Placed.{changes_at, cut, history_in, state_in, Placed}
use Rattle.mg_model.specs.State.{new_state, State}
use Rattle.mg_model.proofs.HistoryLemmas.{changes_lead}
use Rattle.mg_model.proofs.ManyParts.{one_order}
use Rattle.mg_recover.specs.Cuts.{last_change, LeavesAll, LeavesCut}
use Rattle.mg_recover.specs.declared.partition.Partition.{Partition}
use Rattle.mg_recover.specs.Made.{entries_of, opened_by, run_changes, states_after, AllMade, AreMade, MayMake}
use Rattle.mg_recover.specs.Stores.{AllSynced, Stands}
use Rattle.mg_wal.specs.Book.{Book, Entry}
use Rattle.mg_wal.specs.Lists.{all_recs, last_opened, next_of, opened_counts, recs_of, Basis, Books, IsEmpty}
use Rattle.mg_wal.specs.Scenes.{LeavesPrefix}
use Rattle.mg_wal_format.specs.declared.record.Rec.{Rec}
use Rattle.mg_wal_format.specs.Logs.{counts_after, one_more, Log}
use Rattle.mg_wal_format.specs.Records.{counts_in, Counts}
use Rattle.mg_wal_format.specs.Recovery.{end_of, first_of, low_of}

-- ---- changes one after the other

-- the changes of one partition among some changes and more
pub changes_at-append : (xs ys : List Entry) (part : ℕ) → changes_at (xs ++ ys) part ≡ changes_at xs part ++ changes_at ys part
changes_at-append xs ys part =
    ap (map (λ (e : Entry). e.1)) (filter-append (λ (e : Entry). e.0 == part) xs ys)
    ∙ map-append (λ (e : Entry). e.1) (filter (λ (e : Entry). e.0 == part) xs) (filter (λ (e : Entry). e.0 == part) ys)

-- changes and more lead where the more lead from where the changes led
pub states-append : (xs ys : List Entry) (part : ℕ) → states_after (xs ++ ys) part ≡ after_changes (states_after xs part) (changes_at ys part)
states-append xs ys part =
    ap (after_changes new_state) (changes_at-append xs ys part) ∙ fold-append after_change new_state (changes_at xs part) (changes_at ys part)

made_first : (s : State) (xs ys : List Change) → AllMade s (xs ++ ys) → AllMade s xs
made_first s [] ys made = tt
made_first s (x ∷ xs) ys made = (made.0, made_first (after_change s x) xs ys made.1)

-- the first of changes that may be made may be made
pub are_made_first : (xs ys : List Entry) → AreMade (xs ++ ys) → AreMade xs
are_made_first xs ys made part = made_first new_state (changes_at xs part) (changes_at ys part) (subst (AllMade new_state) (changes_at-append xs ys part) (made part))

made_next : (s : State) (xs : List Change) (y : Change) (ys : List Change) → AllMade s (xs ++ y ∷ ys) → MayMake (after_changes s xs) y
made_next s [] y ys made = made.0
made_next s (x ∷ xs) y ys made = made_next (after_change s x) xs y ys made.1

-- the changes of a partition, where the first of them is one of that partition
own_first : (e : Entry) (es : List Entry) → changes_at (e ∷ es) e.0 ≡ e.1 ∷ changes_at es e.0
own_first e es = ap (λ (b : Bool). map (λ (c : Entry). c.1) (if b then e ∷ filter (λ (c : Entry). c.0 == e.0) es else filter (λ (c : Entry). c.0 == e.0) es)) (eq-eqb e.0 e.0 refl)

-- of changes that may be made each may be made where those before it lead
pub are_made_next : (xs : List Entry) (e : Entry) (ys : List Entry) → AreMade (xs ++ e ∷ ys) → MayMake (states_after xs e.0) e.1
are_made_next xs e ys made =
    made_next new_state (changes_at xs e.0) e.1 (changes_at ys e.0)
    (subst (AllMade new_state) (changes_at-append xs (e ∷ ys) e.0 ∙ ap (λ (cs : List Change). changes_at xs e.0 ++ cs) (own_first e ys)) (made e.0))

-- ---- no record is skipped

no_less : (is : Bool) (n : ℕ) → n ≤ (if is then n + 1 else n)
no_less true n = omega arith
no_less false n = omega arith

counts_grow : (counts : Counts) (recs : List Rec) (part : ℕ) → counts part ≤ counts_after counts recs part
counts_grow counts [] part = omega arith
counts_grow counts (rec ∷ recs) part = omega (arith, no_less (eqb part rec.part) (counts part), counts_grow (one_more counts rec.part) recs part)

one_counted : (counts : Counts) (part : ℕ) → one_more counts part part ≡ counts part + 1
one_counted counts part = ap (λ (b : Bool). if b then counts part + 1 else counts part) (eq-eqb part part refl)

-- records behind which no partition has a change are none
none_counted : (counts : Counts) (recs : List Rec) → ((part : ℕ) → counts_after counts recs part ≡ 0) → recs ≡ []
none_counted counts [] none = refl
none_counted counts (rec ∷ recs) none = absurd (omega (arith, none rec.part, counts_grow (one_more counts rec.part) recs rec.part, one_counted counts rec.part))

none_skipped : (basis : Basis) (list : List Entry) (book : Book) (reach : ℕ) (image : Image) → Books basis list book → ((part : ℕ) → get_or book.released part 0 ≡ 0)
    → (prefix : LeavesPrefix basis book.released list reach image) → prefix.skipped ≡ []
none_skipped basis list book reach image books kept prefix = by_low prefix.low prefix.at
  where
    by_low : (prefix.logs ≡ []) ⊎ ((part : ℕ) → low_of prefix.logs part ≡ counts_after (counts_in basis.low) prefix.skipped part)
        → ((prefix.logs ≡ []) × (prefix.skipped ≡ [])) ⊎ (first_of prefix.logs ≡ basis.first + length prefix.skipped) → prefix.skipped ≡ []
    by_low (inl none) (inl at) = at.1
    by_low (inl none) (inr at) = nil_from_length prefix.skipped (omega (arith, at, ap first_of none, books.first))
    by_low (inr low) at = none_counted (counts_in basis.low) prefix.skipped (λ part. omega (arith, low part, prefix.gone part, kept part))

-- ---- the records of an image are a front

entries_of-recs : (counts : Counts) (number : ℕ) (list : List Entry) → entries_of (recs_of counts number list) ≡ list
entries_of-recs counts number [] = refl
entries_of-recs counts number (e ∷ es) = ap (λ (l : List Entry). e ∷ l) (entries_of-recs (one_more counts e.0) (number + 1) es)

pub entries_of-append : (xs ys : List Rec) → entries_of (xs ++ ys) ≡ entries_of xs ++ entries_of ys
entries_of-append xs ys = map-append (λ (rec : Rec). (rec.part, rec.what)) xs ys

-- the changes of all records
entries_of-all : (basis : Basis) (list : List Entry) → entries_of (all_recs basis list) ≡ entries_of basis.opened ++ list
entries_of-all basis list =
    entries_of-append basis.opened (recs_of (opened_counts basis) (next_of basis) list)
    ∙ ap (λ (l : List Entry). entries_of basis.opened ++ l) (entries_of-recs (opened_counts basis) (next_of basis) list)

length-entries : (recs : List Rec) → length (entries_of recs) ≡ length recs
length-entries recs = length-map recs (λ (rec : Rec). (rec.part, rec.what))

-- where a list is split in two ways, the longer front is the shorter one and a part of what stands behind it
front_split : (xs ys zs ws : List Entry) (count : ℕ) → xs ++ ys ≡ zs ++ ws → length xs ≡ length zs + count → xs ≡ zs ++ take count ws
front_split xs ys zs ws count is at = sym (take_at xs ys (length zs + count) at) ∙ ap (take (length zs + count)) is ∙ take-append-add zs ws count

-- an image ends at least behind the number that is reached
ends_behind : (logs : List Log) (recs : List Rec) (first reach : ℕ) → (logs ≡ []) ⊎ (first_of logs ≡ first) → reach ≤ end_of logs recs → reach ≤ first + length recs
ends_behind [] recs first reach at reaches = omega (arith, reaches)
ends_behind (log ∷ logs) recs first reach (inl none) reaches = absurd cc
ends_behind (log ∷ logs) recs first reach (inr at) reaches = omega (arith, at, reaches)

-- an image without a log ends at 0, and another behind its records
ends_at : (logs : List Log) (recs : List Rec) (first : ℕ) → (logs ≡ []) ⊎ (first_of logs ≡ first) → (end_of logs recs ≡ 0) ⊎ (end_of logs recs ≡ first + length recs)
ends_at [] recs first at = inl refl
ends_at (log ∷ logs) recs first (inl none) = absurd cc
ends_at (log ∷ logs) recs first (inr at) = inr (omega (arith, at))

-- the records of the image are those that the opening counted, and the first of the list
record IsFront (basis : Basis) (list : List Entry) (reach : ℕ) (logs : List Log) (recs more : List Rec) : Type 0 where
  count : ℕ
  ends : (end_of logs recs ≡ 0) ⊎ (end_of logs recs ≡ basis.first + length recs)
  length_is : length recs ≡ length basis.opened + count
  within : count ≤ length list
  reaches : reach ≤ basis.first + length recs
  entries : entries_of recs ++ entries_of more ≡ entries_of basis.opened ++ list
  are : entries_of recs ≡ entries_of basis.opened ++ take count list

opened_among : (basis : Basis) (recs : List Rec) → IsEmpty basis ⊎ (basis.reached ≡ next_of basis) → basis.reached ≤ basis.first + length recs → length basis.opened ≤ length recs
opened_among basis recs (inl none) reaches = omega (arith, ap (λ (rs : List Rec). length rs) none.2)
opened_among basis recs (inr found) reaches = omega (arith, found, reaches)

is_front : (basis : Basis) (list : List Entry) (book : Book) (reach : ℕ) (image : Image) → Books basis list book → ((part : ℕ) → get_or book.released part 0 ≡ 0) → basis.reached ≤ reach
    → (prefix : LeavesPrefix basis book.released list reach image) → IsFront basis list reach prefix.logs prefix.recs prefix.more
is_front basis list book reach image books kept reached prefix =
    let skipped = none_skipped basis list book reach image books kept prefix in
    let among : all_recs basis list ≡ prefix.recs ++ prefix.more = prefix.among ∙ ap (λ (rs : List Rec). rs ++ (prefix.recs ++ prefix.more)) skipped in
    let entries : entries_of prefix.recs ++ entries_of prefix.more ≡ entries_of basis.opened ++ list =
    sym (entries_of-append prefix.recs prefix.more) ∙ ap (λ (rs : List Rec). entries_of rs) (sym among) ∙ entries_of-all basis list in
    let reaches : reach ≤ basis.first + length prefix.recs = ends_behind prefix.logs prefix.recs basis.first reach (begins prefix.at skipped) prefix.reaches in
    let few : length basis.opened ≤ length prefix.recs = opened_among basis prefix.recs books.reached (omega (arith, reached, reaches)) in
    let count : ℕ = length prefix.recs - length basis.opened in
    let length_is : length prefix.recs ≡ length basis.opened + count = omega (arith, few) in
    let all : length prefix.recs + length prefix.more ≡ length basis.opened + length list =
    omega (
      arith,
      ap (λ (l : List Entry). length l) entries,
      length-append (entries_of prefix.recs) (entries_of prefix.more),
      length-append (entries_of basis.opened) list,
      length-entries prefix.recs,
      length-entries prefix.more,
      length-entries basis.opened,
    ) in
    record {
      count = count;
      ends = ends_at prefix.logs prefix.recs basis.first (begins prefix.at skipped);
      length_is = length_is;
      within = omega (arith, length_is, all);
      reaches = reaches;
      entries = entries;
      are = front_split (entries_of prefix.recs) (entries_of prefix.more) (entries_of basis.opened) list count entries (omega (arith, length_is, length-entries prefix.recs, length-entries basis.opened));
    }
  where
    begins : ((prefix.logs ≡ []) × (prefix.skipped ≡ [])) ⊎ (first_of prefix.logs ≡ basis.first + length prefix.skipped) → prefix.skipped ≡ [] → (prefix.logs ≡ []) ⊎ (first_of prefix.logs ≡ basis.first)
    begins (inl none) skipped = inl none.0
    begins (inr at) skipped = inr (omega (arith, at, ap (λ (rs : List Rec). length rs) skipped))

-- ---- an image opens to a cut

-- the state at the cut behind so many changes of the run
cut_is : (basis : Basis) (list : List Entry) (recs : List Rec) (number count part : ℕ) → number ≡ last_opened basis + count → entries_of recs ≡ entries_of basis.opened ++ take count list
    → cut (opened_by basis) (last_opened basis) number list part ≡ states_after (entries_of recs) part
cut_is basis list recs number count part at are =
    let behind : number - last_opened basis ≡ count = omega (arith, at) in
    ap (λ (n : ℕ). after_changes (opened_by basis part) (changes_at (take n list) part)) behind
    ∙ sym (states-append (entries_of basis.opened) (take count list) part)
    ∙ ap (λ (es : List Entry). states_after es part) (sym are)

pub leaves_cut : (basis : Basis) (placed : List Placed) (book : Book) (partitions : List Partition) (reach : ℕ) (image : Image) → Stands basis placed book partitions → basis.reached ≤ reach
    → LeavesPrefix basis book.released (run_changes basis placed) reach image → LeavesCut basis placed reach image
leaves_cut basis placed book partitions reach image stands reached prefix =
    let list = run_changes basis placed in
    let front = is_front basis list book reach image stands.books stands.kept reached prefix in
    record {
      number = last_opened basis + front.count;
      reached = omega (arith, front.reaches, front.length_is, stands.books.first);
      behind = omega arith;
      within = omega (arith, front.within);
      opened = record {
        logs = prefix.logs;
        recs = prefix.recs;
        opens = prefix.opens;
        whole = λ part. omega (arith, prefix.gone part, stands.kept part);
        made = are_made_first (entries_of prefix.recs) (entries_of prefix.more) (subst AreMade (sym front.entries) stands.made);
        led = λ part within. cut_is basis list prefix.recs (last_opened basis + front.count) front.count part refl front.are;
      };
      ends = numbered front front.ends;
    }
  where
    numbered : (front : IsFront basis (run_changes basis placed) reach prefix.logs prefix.recs prefix.more)
        → (end_of prefix.logs prefix.recs ≡ 0) ⊎ (end_of prefix.logs prefix.recs ≡ basis.first + length prefix.recs)
        → (end_of prefix.logs prefix.recs ≡ 0) ⊎ (end_of prefix.logs prefix.recs ≡ last_opened basis + front.count + 1)
    numbered front (inl none) = inl none
    numbered front (inr at) = inr (omega (arith, at, front.length_is, stands.books.first))

-- ---- the cut at the last change

-- the changes of a run lead where its calls lead
changes_are_calls : (basis : Basis) (placed : List Placed) (part : ℕ) → after_changes (opened_by basis part) (changes_at (run_changes basis placed) part) ≡ state_in (opened_by basis) placed part
changes_are_calls basis placed part =
    ap (after_changes (opened_by basis part)) (one_order (opened_by basis) placed part)
    ∙ changes_lead (opened_by basis part) (map (λ (e : ℕ × Call). e.1) (history_in placed part))

cut_is_all : (basis : Basis) (placed : List Placed) (number part : ℕ) → number ≡ last_change basis placed
    → cut (opened_by basis) (last_opened basis) number (run_changes basis placed) part ≡ state_in (opened_by basis) placed part
cut_is_all basis placed number part at =
    let list = run_changes basis placed in
    let all : take (number - last_opened basis) list ≡ list = take_all (number - last_opened basis) list (omega (arith, at)) in
    ap (λ (es : List Entry). after_changes (opened_by basis part) (changes_at es part)) all ∙ changes_are_calls basis placed part

-- the last record of the log is the last change of the run
pub book_last : (basis : Basis) (placed : List Placed) (book : Book) → Books basis (run_changes basis placed) book → book.last ≡ last_change basis placed
book_last basis placed book books =
    omega (
      arith,
      length-entries (all_recs basis (run_changes basis placed)),
      ap (λ (l : List Entry). length l) (entries_of-all basis (run_changes basis placed)),
      length-append (entries_of basis.opened) (run_changes basis placed),
      length-entries basis.opened,
      books.last,
      books.first,
    )

pub leaves_all : (basis : Basis) (placed : List Placed) (book : Book) (partitions : List Partition) (image : Image) → Stands basis placed book partitions → AllSynced book
    → LeavesPrefix basis book.released (run_changes basis placed) book.reach image → LeavesAll basis placed image
leaves_all basis placed book partitions image stands synced prefix =
    let books = stands.books in
    let leaves = leaves_cut basis placed book partitions book.reach image stands books.reach.0 prefix in
    let opened = leaves.opened in
    let last : leaves.number ≡ last_change basis placed = omega (arith, leaves.reached, leaves.within, synced, book_last basis placed book books) in
    record {
      logs = opened.logs;
      recs = opened.recs;
      opens = opened.opens;
      whole = opened.whole;
      made = opened.made;
      led = λ part within. sym (cut_is_all basis placed leaves.number part last) ∙ opened.led part within;
    }
