-- What an opening answers, by what the recovery of the log found.
use Rattle.std.proofs.Common.{◌≡◌, ℕ, ◌+◌, ◌<◌, ◌≤◌, ◌⊎◌, inl, inr, List, [], ◌∷◌, length, get_or, Result, Ok, Err, IfErr, refl, sym, ap, subst, ◌∙◌, arith}
use Rattle.std.specs.List.{AllByRecursion}
use Rattle.std.specs.Result.{IsErrAnd}
use Rattle.std.proofs.lemmas.List.{append-nil}
use Rattle.mg_disk.specs.Images.{Image}
use Rattle.mg_recover.specs.declared.partition.Partition.{Partition}
use Rattle.mg_recover.specs.Cuts.{IsOpened}
use Rattle.mg_recover.specs.Made.{entries_of, AreMade}
use Rattle.mg_recover.specs.Openings.{AreWhole, IsGapOf}
use Rattle.mg_recover.specs.Refusals.{IsGap, IsStoreRefusal, IsStoreRefused, IsUnfit}
use Rattle.mg_recover.specs.Replays.{AreGiven, AreReplayed}
use Rattle.mg_recover.specs.Stores.{part_at, Stands}
use Rattle.mg_types.specs.declared.faults.Fault.{Fault}
use Rattle.mg_types.specs.declared.faults.Fault.TheVariants as fault
use Rattle.mg_wal.specs.Book.{changes_of, Book}
use Rattle.mg_wal.specs.Findings.{IsRefusalBy}
use Rattle.mg_wal.specs.Lists.{Basis, Books}
use Rattle.mg_wal.specs.Openings.{basis_for, IsFound, OpensAs}
use Rattle.mg_wal.proofs.CountLaws.{counts_after-same}
use Rattle.mg_wal_format.specs.declared.record.Rec.{Rec}
use Rattle.mg_wal_format.specs.Logs.{counts_after, one_more, InOrder}
use Rattle.mg_wal_format.specs.Records.{counts_in, Counts}
use Rattle.mg_wal_format.specs.Recovery.{low_of, IsRefused}

-- ---- what stands

pub stands_of : (book : Book) (recs : List Rec) (low : List ℕ) (partitions : List Partition) → Books (basis_for book recs low) [] book → book.released ≡ low → AreWhole low → AreMade (entries_of recs)
    → AreReplayed (length low) recs partitions → Stands (basis_for book recs low) [] book partitions
stands_of book recs low partitions books released whole made are =
    record {
      books = books;
      whole = whole;
      kept = λ part. ap (λ (l : List ℕ). get_or l part 0) released ∙ whole part;
      made = subst AreMade (sym (append-nil (entries_of recs))) made;
      states = λ part within. ap (λ (p : Partition). p.plain) (are part (omega (arith, within, books.parts)));
      places = λ part within. ap (λ (p : Partition). p.places) (are part (omega (arith, within, books.parts)));
    }

pub opened_of : (image : Image) (basis : Basis) (partitions : List Partition) → IsFound image basis → AreWhole basis.low → AreMade (entries_of basis.opened) → AreReplayed (length basis.low) basis.opened partitions
    → IsOpened (length basis.low) image (λ part. (part_at partitions part).plain)
opened_of image basis partitions found whole made are =
    record {
      logs = found.logs;
      recs = basis.opened;
      opens = found.opens;
      whole = λ part. sym (found.low part) ∙ whole part;
      made = made;
      led = λ part within. ap (λ (p : Partition). p.plain) (are part within);
    }

-- the records' partitions are among those that are counted
pub parts_within : (parts : ℕ) (counts : Counts) (number : ℕ) (recs : List Rec) → InOrder parts counts number recs → AllByRecursion (λ (rec : Rec). rec.part < parts) recs
parts_within parts counts number [] ordered = tt
parts_within parts counts number (rec ∷ recs) ordered = (ordered.2.part, parts_within parts (one_more counts rec.part) (number + 1) recs ordered.3)

pub books_within : (book : Book) (recs : List Rec) (low : List ℕ) → Books (basis_for book recs low) [] book → AllByRecursion (λ (rec : Rec). rec.part < length low) recs
books_within book recs low books =
    let basis = basis_for book recs low in
    parts_within (length low) (counts_in low) basis.first recs (subst (InOrder (length low) (counts_in low) basis.first) (append-nil recs) books.in_order)

-- ---- a gap

gap_rises : (book : Book) (recs : List Rec) (low : List ℕ) (part : ℕ) → Books (basis_for book recs low) [] book → get_or low part 0 ≤ changes_of book part
gap_rises book recs low part books = omega (arith, books.low_is_released part, books.released part)

pub gap_kind : (book : Book) (recs : List Rec) (low : List ℕ) (f : Fault) → Books (basis_for book recs low) [] book → IsGapOf low book f → IsStoreRefusal (length low) f
gap_kind book recs low f books gap =
    subst (IsStoreRefusal (length low)) (sym gap.named) (gap.within, refl, gap.some, gap_rises book recs low gap.part books)

-- the counts of the state are those behind the records of the logs
counts_found : (image : Image) (book : Book) (recs : List Rec) (low : List ℕ) (part : ℕ) → Books (basis_for book recs low) [] book → (found : IsFound image (basis_for book recs low))
    → changes_of book part ≡ counts_after (low_of found.logs) recs part
counts_found image book recs low part books found =
    books.changes part
    ∙ ap (λ (rs : List Rec). counts_after (counts_in low) rs part) (append-nil recs)
    ∙ counts_after-same (counts_in low) (low_of found.logs) recs found.low part

pub gap_refused : (image : Image) (book : Book) (recs : List Rec) (low : List ℕ) (f : Fault) → Books (basis_for book recs low) [] book → OpensAs image (basis_for book recs low) book → IsGapOf low book f
    → IsStoreRefused (length low) image f
gap_refused image book recs low f books opens gap =
    let found = opens.0 in
    let is : IsGap (length low) found.logs recs f =
    record {
      part = gap.part;
      within = gap.within;
      first = λ other before. sym (found.low other) ∙ gap.first other before;
      some = subst (λ (n : ℕ). 0 < n) (found.low gap.part) gap.some;
      named = gap.named
          ∙ ap (λ (n : ℕ). fault.Gap gap.part 0 n (changes_of book gap.part)) (found.low gap.part)
          ∙ ap (λ (n : ℕ). fault.Gap gap.part 0 (low_of found.logs gap.part) n) (counts_found image book recs low gap.part books found);
    } in
    inr (found.logs, recs, found.opens, inl is)

-- ---- a record

pub given_by : (image : Image) (basis : Basis) (book : Book) → (opens : OpensAs image basis book) → AreGiven (length basis.low) opens.0.logs book.logs basis.opened
given_by image basis book opens = record { are = sym opens.1.logs; heads = opens.0.opens.heads; gives = opens.0.opens.gives }

pub unfit_refused : (image : Image) (basis : Basis) (f : Fault) → (found : IsFound image basis) → AreWhole basis.low → IsUnfit found.logs basis.opened f → IsStoreRefused (length basis.low) image f
unfit_refused image basis f found whole unfit = inr (found.logs, basis.opened, found.opens, inr (λ part. sym (found.low part) ∙ whole part, unfit))

-- ---- faults

-- what the recovery answers that is no refusal is none of the store
pub not_both : (parts : ℕ) (f : Fault) → (f ≡ fault.NoMemory) ⊎ (f ≡ fault.ReadFault) ⊎ (f ≡ fault.WriteFault) → IsStoreRefusal parts f → ⊥
not_both parts f (inl is) refusal = subst (IsStoreRefusal parts) is refusal
not_both parts f (inr (inl is)) refusal = subst (IsStoreRefusal parts) is refusal
not_both parts f (inr (inr is)) refusal = subst (IsStoreRefusal parts) is refusal

-- ---- answers

pub err_map : {V : Type 0} (result : Result V Fault) (P Q : Fault → Type 0) → ((f : Fault) → P f → Q f) → IfErr result P → IfErr result Q
err_map (Ok value) P Q step says = tt
err_map (Err f) P Q step says = step f says

-- ---- what an opening answers

-- an error that is this one has what this one has
pub if_err : {T E : Type 0} (given : Result T E) (P : E → Type 0) (error : E) → IsErrAnd given (λ e. e ≡ error) → P error → IfErr given P
if_err (Ok x) P error is has = tt
if_err (Err e) P error is has = subst P (sym is) has

-- what the recovery is refused for, the store is
pub recovery_refused : (parts : ℕ) (image : Image) (f : Fault) → (f ≡ fault.NoMemory) ⊎ (f ≡ fault.ReadFault) ⊎ (f ≡ fault.WriteFault) ⊎ IsRefusalBy parts f → (IsRefusalBy parts f → IsRefused parts image f)
    → IsStoreRefusal parts f → IsStoreRefused parts image f
recovery_refused parts image f (inl is) refused refusal = absurd (not_both parts f (inl is) refusal)
recovery_refused parts image f (inr (inl is)) refused refusal = absurd (not_both parts f (inr (inl is)) refusal)
recovery_refused parts image f (inr (inr (inl is))) refused refusal = absurd (not_both parts f (inr (inr is)) refusal)
recovery_refused parts image f (inr (inr (inr by))) refused refusal = inl (refused by)

-- the same of records and counts that are these
opens_same : (image : Image) (book : Book) (recs recs' : List Rec) (low low' : List ℕ) → recs' ≡ recs → low' ≡ low → OpensAs image (basis_for book recs low) book → OpensAs image (basis_for book recs' low') book
opens_same image book recs recs' low low' same_recs same_low opens =
    subst (λ (rs : List Rec). OpensAs image (basis_for book rs low') book) (sym same_recs) (subst (λ (l : List ℕ). OpensAs image (basis_for book recs l) book) (sym same_low) opens)

pub opened_as : (parts : ℕ) (image : Image) (book : Book) (recs recs' : List Rec) (low low' : List ℕ) (partitions : List Partition) → recs' ≡ recs → low' ≡ low → length low ≡ parts → OpensAs image (basis_for book recs low) book
    → ((image : Image) → OpensAs image (basis_for book recs' low') book → IsOpened (length low') image (λ part. (part_at partitions part).plain)) → IsOpened parts image (λ part. (part_at partitions part).plain)
opened_as parts image book recs recs' low low' partitions same_recs same_low count opens opened =
    subst (λ (n : ℕ). IsOpened n image (λ part. (part_at partitions part).plain)) (ap length same_low ∙ count) (opened image (opens_same image book recs recs' low low' same_recs same_low opens))

pub refused_as : (parts : ℕ) (image : Image) (book : Book) (recs recs' : List Rec) (low low' : List ℕ) (f : Fault) → recs' ≡ recs → low' ≡ low → length low ≡ parts → OpensAs image (basis_for book recs low) book
    → ((image : Image) → OpensAs image (basis_for book recs' low') book → (f ≡ fault.NoMemory) ⊎ IsStoreRefused (length low') image f) → IsStoreRefusal parts f → IsStoreRefused parts image f
refused_as parts image book recs recs' low low' f same_recs same_low count opens refused refusal = by_kind (refused image (opens_same image book recs recs' low low' same_recs same_low opens))
  where
    by_kind : (f ≡ fault.NoMemory) ⊎ IsStoreRefused (length low') image f → IsStoreRefused parts image f
    by_kind (inl is) = absurd (not_both parts f (inl is) refusal)
    by_kind (inr is_refused) = subst (λ (n : ℕ). IsStoreRefused n image f) (ap length same_low ∙ count) is_refused
