-- A book goes on standing for its list when a record is staged, and for the list with one entry more when it is pushed.
use Rattle.std.proofs.Common.{◌≡◌, ℕ, ◌+◌, ◌≤◌, List, [], ◌∷◌, ◌++◌, length, get_or, set, map, take, drop, refl, sym, ap, subst, ◌∙◌, arith, append_assoc, Result, Ok, Err, Bool, true, false, eqb}
use Rattle.std.specs.Prelude.{if◌then◌else◌, OnOk, OnErr}
use Rattle.std.proofs.lemmas.List.{length-append, length-set, drop-append-le, take-append-le}
use Rattle.mg_frame.specs.Frames.{frames}
use Rattle.mg_wal_format.specs.declared.record.Rec.{Rec}
use Rattle.mg_wal_format.specs.Logs.{counts_after, entry_of, one_more, InOrder}
use Rattle.mg_wal_format.specs.Records.{Counts, counts_in, IsNext}
use Rattle.mg_wal_format.proofs.LogLaws.{counts_after-append, counts-push, frames-last, IsNext-same}
use Rattle.mg_wal_format.proofs.OrderLaws.{InOrder-append}
use Rattle.mg_wal.specs.Book.{after_push, after_reserve, changes_of, frame_of, parts_in, Book, Entry}
use Rattle.mg_wal.specs.Lists.{all_recs, before_unsynced, next_of, opened_counts, rec_of, recs_of, unsynced, Basis, Books, IsNextOf, KeepsBooks, KeepsBooksWith}

-- what is staged changes nothing else
pub reserve_keeps : (basis : Basis) (list : List Entry) (book : Book) (e : Entry) → Books basis list book → IsNextOf book e → Books basis list (after_reserve e book)
reserve_keeps basis list book e books is_next =
    record {
      first = books.first;
      reached = books.reached;
      in_order = books.in_order;
      last = books.last;
      parts = books.parts;
      changes = books.changes;
      synced_parts = books.synced_parts;
      synced = books.synced;
      low_is_released = books.low_is_released;
      released = books.released;
      staged = (e, is_next, refl);
      waiting = books.waiting;
      reach = books.reach;
      newest = books.newest;
    }

-- the record of an entry depends on the count of its partition alone
rec_of-same : (counts others : Counts) (number : ℕ) (e : Entry) → counts e.0 ≡ others e.0 → rec_of counts number e ≡ rec_of others number e
rec_of-same counts others number e same = ap (λ (n : ℕ). rec_of (λ _. n) number e) same

-- the records of a list with one entry more
recs_of-last : (counts : Counts) (number : ℕ) (list : List Entry) (e : Entry)
    → recs_of counts number (list ++ e ∷ []) ≡ recs_of counts number list ++ rec_of (counts_after counts (recs_of counts number list)) (number + length (recs_of counts number list)) e ∷ []
recs_of-last counts number [] e = ap (λ (n : ℕ). rec_of counts n e ∷ []) (omega arith)
recs_of-last counts number (first ∷ list) e =
    ap (λ (rs : List Rec). rec_of counts number first ∷ rs) (recs_of-last (one_more counts first.0) (number + 1) list e
    ∙ ap (λ (n : ℕ). recs_of (one_more counts first.0) (number + 1) list ++ rec_of (counts_after (one_more counts first.0) (recs_of (one_more counts first.0) (number + 1) list)) n e ∷ []) (omega arith))

-- the next record of a list whose book this is
abbrev next_rec : Book → Entry → Rec
next_rec book e = rec_of (counts_in book.counts) (book.last + 1) e

-- all records of a list with one entry more
all_recs-last : (basis : Basis) (list : List Entry) (book : Book) (e : Entry) → Books basis list book → all_recs basis (list ++ e ∷ []) ≡ all_recs basis list ++ next_rec book e ∷ []
all_recs-last basis list book e books =
    let mine : List Rec = recs_of (opened_counts basis) (next_of basis) list in
    let here : counts_after (opened_counts basis) mine e.0 ≡ counts_in book.counts e.0 = ap (λ (c : Counts). c e.0) (sym (counts_after-append basis.opened mine (counts_in basis.low))) ∙ sym (books.changes e.0) in
    let at : next_of basis + length mine ≡ book.last + 1 = omega (arith, books.last, length-append basis.opened mine) in
    ap (λ (rs : List Rec). basis.opened ++ rs) (recs_of-last (opened_counts basis) (next_of basis) list e)
    ∙ sym (append_assoc basis.opened mine (rec_of (counts_after (opened_counts basis) mine) (next_of basis + length mine) e ∷ []))
    ∙ ap (λ (r : Rec). all_recs basis list ++ r ∷ []) (rec_of-same (counts_after (opened_counts basis) mine) (counts_in book.counts) (next_of basis + length mine) e here
    ∙ ap (λ (n : ℕ). rec_of (counts_in book.counts) n e) at)

same_or_more : (test : Bool) (n : ℕ) → n ≤ (if test then n + 1 else n)
same_or_more true n = omega arith
same_or_more false n = omega arith

-- no count falls by a push
raised-le : (numbers : List ℕ) (rec : Rec) (part : ℕ) → IsNext (length numbers) (counts_in numbers) rec → get_or numbers part 0 ≤ get_or (set numbers rec.part rec.change) part 0
raised-le numbers rec part next =
    omega (arith, counts-push numbers (counts_in numbers) [] rec (λ part. refl) next part, same_or_more (eqb part rec.part) (get_or numbers part 0))

-- the list has the entry, and the book counts it
pub push_keeps : (basis : Basis) (list : List Entry) (book : Book) (e : Entry) → Books basis list book → IsNextOf book e → Books basis (list ++ e ∷ []) (after_push e book)
push_keeps basis list book e books is_next =
    let rec = next_rec book e in
    let all : all_recs basis (list ++ e ∷ []) ≡ all_recs basis list ++ rec ∷ [] = all_recs-last basis list book e books in
    let more : length (all_recs basis (list ++ e ∷ [])) ≡ length (all_recs basis list) + 1 = ap (λ (rs : List Rec). length rs) all ∙ length-append (all_recs basis list) (rec ∷ []) in
    let unsynced_all : drop (before_unsynced basis book) (all_recs basis (list ++ e ∷ [])) ≡ unsynced basis list book ++ rec ∷ [] =
    ap (λ (rs : List Rec). drop (before_unsynced basis book) rs) all
    ∙ drop-append-le (before_unsynced basis book) (all_recs basis list) (rec ∷ []) (omega (arith, books.reach.1, books.last, books.first)) in
    let before_all : take (before_unsynced basis book) (all_recs basis (list ++ e ∷ [])) ≡ take (before_unsynced basis book) (all_recs basis list) =
    ap (λ (rs : List Rec). take (before_unsynced basis book) rs) all
    ∙ take-append-le (before_unsynced basis book) (all_recs basis list) (rec ∷ []) (omega (arith, books.reach.1, books.last, books.first)) in
    let next : IsNext (length basis.low) (counts_after (counts_in basis.low) (all_recs basis list)) rec =
    subst (λ (n : ℕ). IsNext n (counts_after (counts_in basis.low) (all_recs basis list)) rec) books.parts (IsNext-same (parts_in book) (counts_in book.counts) (counts_after (counts_in basis.low) (all_recs basis list)) rec books.changes is_next.2) in
    record {
      first = books.first;
      reached = books.reached;
      in_order = subst (InOrder (length basis.low) (counts_in basis.low) basis.first) (sym all)
          (InOrder-append (length basis.low) (counts_in basis.low) basis.first (all_recs basis list) (rec ∷ []) books.in_order (books.last, omega (arith, is_next.1, books.last), next, tt));
      last = omega (arith, books.last, more);
      parts = length-set book.counts e.0 (changes_of book e.0 + 1) ∙ books.parts;
      changes = λ part. counts-push book.counts (counts_in basis.low) (all_recs basis list) rec books.changes is_next.2 part ∙ ap (λ (rs : List Rec). counts_after (counts_in basis.low) rs part) (sym all);
      synced_parts = books.synced_parts ∙ sym (length-set book.counts e.0 (changes_of book e.0 + 1));
      synced = λ part. books.synced part ∙ ap (λ (rs : List Rec). counts_after (counts_in basis.low) rs part) (sym before_all);
      low_is_released = books.low_is_released;
      released = λ part. omega (arith, books.released part, raised-le book.counts rec part is_next.2);
      staged = tt;
      waiting = ap (λ (bytes : List ℕ). bytes ++ frame_of book e) books.waiting ∙ sym (ap (λ (rs : List Rec). frames (map entry_of rs)) unsynced_all ∙ frames-last (unsynced basis list book) rec);
      reach = (books.reach.0, omega (arith, books.reach.1));
      newest = books.newest;
    }

-- whatever reserve answers
pub reserve_keeps_each : {T E : Type 0} (result : Result T E) (old new : Book) (e : Entry) → OnOk result (new ≡ after_reserve e old) → OnOk result (IsNextOf old e) → OnErr result (new ≡ old) → KeepsBooks old new
reserve_keeps_each (Ok x) old new e staged is_next same basis list books = subst (Books basis list) (sym staged) (reserve_keeps basis list old e books is_next)
reserve_keeps_each (Err x) old new e staged is_next same basis list books = subst (Books basis list) (sym same) books

pub push_keeps_each : (old new : Book) (e : Entry) → new ≡ after_push e old → IsNextOf old e → KeepsBooksWith e old new
push_keeps_each old new e pushed is_next basis list books = subst (Books basis (list ++ e ∷ [])) (sym pushed) (push_keeps basis list old e books is_next)
