-- What a sync makes of the book.
use Rattle.std.proofs.Common.{◌≡◌, ℕ, ◌+◌, ◌*◌, ◌<◌, ◌≤◌, ◌^◌, List, [], ◌∷◌, ◌++◌, length, map, refl, sym, ap, subst, ◌∙◌, arith, inl, inr, None, Bool, true, false, Result, Ok, Err}
use Rattle.std.proofs.lemmas.List.{length-append, take_all, drop_all}
use Rattle.std.proofs.lemmas.List.Elements.{recursion_from_All}
use Rattle.std.specs.List.{AllByRecursion}
use Rattle.std.specs.Prelude.{if◌then◌else◌, OnOk, IfErr}
use Rattle.mg_frame.specs.Frame.{frame}
use Rattle.mg_frame.specs.Frames.{frames}
use Rattle.mg_frame.proofs.FrameLaws.{length-frame}
use Rattle.mg_types.specs.declared.faults.Fault.{Fault}
use Rattle.mg_wal_format.specs.declared.record.Rec.{Rec}
use Rattle.mg_wal_format.specs.Heads.{head_bytes, IsSoundHead}
use Rattle.mg_wal_format.specs.Logs.{counts_after, entry_of}
use Rattle.mg_wal_format.specs.Records.{counts_in}
use Rattle.mg_wal_format.proofs.SpellingLaws.{length-head_bytes}
use Rattle.mg_wal.specs.declared.known.KnownLog.{KnownLog}
use Rattle.mg_wal.specs.Book.{parts_in, AreKept, Book, Entry, HasUnsynced}
use Rattle.mg_wal.specs.Lists.{all_recs, before_unsynced, Basis, Books, KeepsBooks}
use Rattle.mg_wal.specs.Syncs.{begun_bytes, begun_in, goes_on, head_for, len_for, next_log, number_for, synced_in, untried, written_by, written_in, IsFailedWrite}

-- how long a new log is
begun_len : (book : Book) → length book.synced ≡ parts_in book → length (begun_bytes book) ≡ 31 + 8 * parts_in book + length book.waiting
begun_len book same =
    omega (
      arith,
      length-append (frame (book.newest + 1) (head_bytes (head_for book))) book.waiting,
      length-frame (book.newest + 1) (head_bytes (head_for book)),
      length-head_bytes (head_for book),
      ap (λ (n : ℕ). 8 * n) same,
    )

-- the book after a log was begun
pub begun_book : (book new : Book) (number len : ℕ) (bytes : List ℕ) → length book.synced ≡ parts_in book → new ≡ synced_in number len (begun_in book) → number ≡ book.newest + 1 → len ≡ length bytes → bytes ≡ begun_bytes book
    → new ≡ synced_in (book.newest + 1) (31 + 8 * parts_in book + length book.waiting) (begun_in book)
begun_book book new number len bytes same is at all are =
    is ∙ ap (λ (n : ℕ). synced_in n len (begun_in book)) at ∙ ap (λ (n : ℕ). synced_in (book.newest + 1) n (begun_in book)) (all ∙ ap (λ (bs : List ℕ). length bs) are ∙ begun_len book same)

-- another newest log, and another log to write to
pub noted : (basis : Basis) (list : List Entry) (book : Book) (newest : ℕ) (logs : List KnownLog) → book.newest ≤ newest → Books basis list book → Books basis list (record book { writing = None; newest = newest; logs = logs })
noted basis list book newest logs later books =
    record {
      first = books.first;
      reached = books.reached;
      in_order = books.in_order;
      last = books.last;
      parts = books.parts;
      changes = books.changes;
      synced_parts = books.synced_parts;
      synced = books.synced;
      low_is_released = books.low_is_released;
      released = books.released;
      staged = books.staged;
      waiting = books.waiting;
      reach = books.reach;
      newest = (omega (arith, books.newest.0, later), omega (arith, books.newest.1, later));
    }

-- all is synced
all_synced : (basis : Basis) (list : List Entry) (book : Book) (number len : ℕ) (logs : List KnownLog) → book.newest ≤ number → Books basis list book → Books basis list (synced_in number len (record book { logs = logs }))
unfolding frames
all_synced basis list book number len logs later books =
    let all = all_recs basis list in
    let enough : length all ≤ before_unsynced basis (synced_in number len book) = omega (arith, books.last, books.first) in
    record {
      first = books.first;
      reached = books.reached;
      in_order = books.in_order;
      last = books.last;
      parts = books.parts;
      changes = books.changes;
      synced_parts = refl;
      synced = λ part. books.changes part ∙ ap (λ (rs : List Rec). counts_after (counts_in basis.low) rs part) (sym (take_all (before_unsynced basis (synced_in number len book)) all enough));
      low_is_released = books.low_is_released;
      released = books.released;
      staged = books.staged;
      waiting = sym (ap (λ (rs : List Rec). frames (map entry_of rs)) (drop_all (before_unsynced basis (synced_in number len book)) all enough));
      reach = (omega (arith, books.reach.0, books.reach.1), omega arith);
      newest = (omega (arith, books.newest.0, later), omega arith);
    }

-- the book after a log was tried stands for the same list
tried_keeps : (goes : Bool) (basis : Basis) (list : List Entry) (book : Book) → Books basis list book → Books basis list (untried (written_by goes book))
tried_keeps true basis list book books = noted basis list book book.newest book.logs (omega arith) books
tried_keeps false basis list book books = noted basis list book (book.newest + 1) (book.logs ++ next_log book ∷ []) (omega arith) books

synced_keeps : (goes : Bool) (basis : Basis) (list : List Entry) (book : Book) (number len : ℕ) → number ≡ (if goes then book.newest else book.newest + 1) → Books basis list book → Books basis list (synced_in number len (written_by goes book))
synced_keeps true basis list book number len is books = all_synced basis list book number len book.logs (omega (arith, is)) books
synced_keeps false basis list book number len is books = all_synced basis list book number len (book.logs ++ next_log book ∷ []) (omega (arith, is)) books

failed_keeps : (old new : Book) (fault : Fault) → IsFailedWrite old new fault → KeepsBooks old new
failed_keeps old new fault (inl failed) basis list books = subst (Books basis list) (sym failed.2) (noted basis list old old.newest old.logs (omega arith) books)
failed_keeps old new fault (inr (inl failed)) basis list books = subst (Books basis list) (sym failed.2) (tried_keeps (goes_on old) basis list old books)
failed_keeps old new fault (inr (inr (is, inl same))) basis list books = subst (Books basis list) (sym same) (noted basis list old old.newest old.logs (omega arith) books)
failed_keeps old new fault (inr (inr (is, inr failed))) basis list books = subst (Books basis list) (sym failed.1) (tried_keeps (goes_on old) basis list old books)

-- whatever a write answers
pub write_keeps : {T : Type 0} (result : Result T Fault) (old new : Book) → OnOk result (new ≡ synced_in (number_for old) (len_for old + length old.waiting) (written_in old)) → IfErr result (λ fault. IsFailedWrite old new fault)
    → KeepsBooks old new
write_keeps (Ok x) old new done failed basis list books =
    subst (Books basis list) (sym done) (synced_keeps (goes_on old) basis list old (number_for old) (len_for old + length old.waiting) refl books)
write_keeps (Err fault) old new done failed basis list books = failed_keeps old new fault failed basis list books

-- a book that is the same
pub same_keeps : (old new middle : Book) → new ≡ middle → KeepsBooks old middle → KeepsBooks old new
same_keeps old new middle same keeps basis list books = subst (Books basis list) (sym same) (keeps basis list books)

-- ---- the head of the next log

numbers_fit : (ns : List ℕ) → AllByRecursion (λ n. n < 2 ^ 62) ns → AllByRecursion (λ n. n < 2 ^ 64) ns
numbers_fit [] kept = tt
numbers_fit (n ∷ ns) kept = (omega (arith, kept.0), numbers_fit ns kept.1)

-- a log may have the head with which the next one begins
pub sound_head : (book : Book) → length book.synced ≡ parts_in book → parts_in book < 2 ^ 16 → AreKept book.synced → book.last < 2 ^ 62 → HasUnsynced book → IsSoundHead (head_for book)
sound_head book same few kept last unsynced =
    let numbers = recursion_from_All (λ n. n < 2 ^ 62) book.synced kept in
    record {
      fits = record { first = omega (arith, last, unsynced); parts = omega (arith, same, few); before = numbers_fit book.synced numbers };
      first = omega arith;
      first_is_kept = omega (arith, last, unsynced);
      before_are_kept = numbers;
    }
