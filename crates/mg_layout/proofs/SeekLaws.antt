-- A key is sought in run after run, and a number in segment after segment.
use Rattle.std.proofs.Common.{◌≡◌, ℕ, ◌+◌, ◌<◌, ◌≤◌, List, [], ◌∷◌, length, get_or, drop, drop-cons, add-one, Bool, true, false, Option, Some, None, IfSome, Ok, Err, refl, sym, ap, ◌∙◌, subst, arith}
use Rattle.std.specs.Prelude.{◌==◌, IsSome}
use Rattle.std.specs.Option.{is_some, option_or}
use Rattle.std.specs.List.{find}
use Rattle.std.proofs.lemmas.Slice.Zip.{AllZip-long}
use Rattle.std.proofs.lemmas.List.{drop_all}
use Rattle.std.proofs.lemmas.List.Folds.{find-append}
use Rattle.mg_core.specs.Layouts.{Run, records_of}
use Rattle.mg_core.specs.Reads.{first_of_two, found}
use Rattle.mg_faults.specs.Causes.{last_count}
use Rattle.mg_records.specs.File.{record_of}
use Rattle.mg_records.specs.ItemRecord.{item_kind}
use Rattle.mg_records.specs.Writing as records
use Rattle.mg_records.specs.Writing.{Filed}
use Rattle.mg_table.specs.Reading.{entry_of}
use Rattle.mg_table.specs.Table.{Represents}
use Rattle.mg_types.specs.declared.items.Entry.{Entry}
use Rattle.mg_types.specs.declared.items.Item.{Item}
use Rattle.mg_layout.specs.Files.{RunFile}
use Rattle.mg_layout.specs.Holding.{HoldsRun, HoldsRuns, HoldsSegments, TellsAll}
use Rattle.mg_sealed.proofs.AnswerLaws.{ok_same, refused}
use Rattle.mg_sealed.specs.Answers.{Answers, IsOutside}
use Rattle.mg_table.specs.declared.table.Table.{Table}
use Rattle.mg_types.specs.declared.faults.Fault.{Fault}
use Rattle.mg_layout.proofs.ZipLaws.{zip_at}

-- The runs before this one have no entry of the key, and no call has failed.
pub record SeeksKey {S : Type 0} (told : S → Option (List ℕ)) (before now : ℕ) (files : List (RunFile S)) (key : List ℕ) (i : ℕ) : Type 0 where
  pub kept : now ≡ before
  pub bounded : before ≤ last_count
  pub left : TellsAll told → (runs : List Run) → HoldsRuns told files runs → found runs key ≡ found (drop i runs) key

-- what is so of a file that is told
told_some : {A : Type 0} (told : Option A) (P : Type 0) → IsSome told → IfSome told (λ _. P) → P
told_some None P some h = absurd cc
told_some (Some a) P some h = h

-- a value that is there is the first of two
pub first_is : {X : Type 0} (o other : Option X) → is_some o ≡ true → first_of_two o other ≡ o
first_is None other some = absurd cc
first_is (Some x) other some = refl

pub or_is : {X : Type 0} (o other : Option X) → is_some o ≡ true → option_or o other ≡ o
or_is None other some = absurd cc
or_is (Some x) other some = refl

pub none_is : {X : Type 0} (o : Option X) → is_some o ≡ false → o ≡ None
none_is None none = refl
none_is (Some x) none = absurd cc

no_run : Run
no_run = record { lo = 0; hi = 0; entries = [] }

-- what is found in the runs from this one on is what this run has of the key, or else what is found in the later ones
pub found_from : {S : Type 0} (told : S → Option (List ℕ)) (files : List (RunFile S)) (runs : List Run) (key : List ℕ) (i : ℕ) (file : RunFile S) (o : Option Entry)
    → i < length files → file ≡ get_or files i file → HoldsRuns told files runs → ((entries : List Entry) → Represents told file.table entries → entry_of key entries ≡ o)
    → found (drop i runs) key ≡ first_of_two o (found (drop (i + 1) runs) key)
found_from {S} told files runs key i file o within is holds gives =
    let run = get_or runs i no_run in
    let long : i < length runs = omega (arith, within, AllZip-long (HoldsRun told) files runs holds) in
    let held : HoldsRun told file run = subst (λ (f : RunFile S). HoldsRun told f run) (sym is) (zip_at (HoldsRun told) files runs i file no_run holds within) in
    ap (λ rs. found rs key) (drop-cons runs i no_run long ∙ ap (λ n. run ∷ drop n runs) (sym (add-one i)))
    ∙ ap (λ q. first_of_two q (found (drop (i + 1) runs) key)) (gives run.entries held.entries)

-- an error at a run whose table is told comes from outside
pub run_outside : {S : Type 0} (told : S → Option (List ℕ)) (files : List (RunFile S)) (runs : List Run) (key : List ℕ) (i : ℕ) (file : RunFile S) (table : Table S) (fault : Fault)
    → i < length files → file ≡ get_or files i file → table ≡ file.table → TellsAll told → HoldsRuns told files runs
    → IfSome (told table.indexed.file.file) (λ _. (entries : List Entry) → Represents told table entries → Answers (Ok (entry_of key entries)) (Err fault)) → IsOutside fault
run_outside {S} told files runs key i file table fault within is same tells holds found =
    let run = get_or runs i no_run in
    let held : HoldsRun told file run = subst (λ (f : RunFile S). HoldsRun told f run) (sym is) (zip_at (HoldsRun told) files runs i file no_run holds within) in
    let stands : Represents told table run.entries = subst (λ (t : Table S). Represents told t run.entries) (sym same) held.entries in
    let gives = told_some (told table.indexed.file.file) ((entries : List Entry) → Represents told table entries → Answers (Ok (entry_of key entries)) (Err fault)) (tells table.indexed.file.file) found in
    refused (entry_of key run.entries) (Ok (entry_of key run.entries)) fault refl (gives run.entries stands)

-- what a told table gives of a key is its entry
pub run_gives : {S : Type 0} (told : S → Option (List ℕ)) (file : RunFile S) (table : Table S) (key : List ℕ) (o : Option Entry) → table ≡ file.table → TellsAll told
    → IfSome (told table.indexed.file.file) (λ _. (entries : List Entry) → Represents told table entries → Answers (Ok (entry_of key entries)) (Ok o))
    → (entries : List Entry) → Represents told file.table entries → entry_of key entries ≡ o
run_gives {S} told file table key o same tells found entries stands =
    let gives = told_some (told table.indexed.file.file) ((entries : List Entry) → Represents told table entries → Answers (Ok (entry_of key entries)) (Ok o)) (tells table.indexed.file.file) found in
    ok_same (entry_of key entries) o (gives entries (subst (λ (t : Table S). Represents told t entries) (sym same) stands))

-- behind the last run nothing is found
pub found_behind : {S : Type 0} (told : S → Option (List ℕ)) (files : List (RunFile S)) (runs : List Run) (key : List ℕ) (i : ℕ) → length files ≤ i → HoldsRuns told files runs
    → found (drop i runs) key ≡ None
found_behind told files runs key i past holds =
    ap (λ rs. found rs key) (drop_all i runs (omega (arith, past, AllZip-long (HoldsRun told) files runs holds)))

-- whether a record has this number
abbrev pub has_number : ℕ → Item → Bool
has_number number r = r.seq == number

-- The segments before this one have no record of the number, and no call has failed.
pub record SeeksNumber {S : Type 0} (told : S → Option (List ℕ)) (before now : ℕ) (files : List (Filed S)) (number : ℕ) (i : ℕ) : Type 0 where
  pub kept : now ≡ before
  pub bounded : before ≤ last_count
  pub left : TellsAll told → (segments : List (List Item)) → HoldsSegments told files segments
      → find (has_number number) (records_of segments) ≡ find (has_number number) (records_of (drop i segments))

-- the record in the segments from this one on is the one in this segment, or else the one in the later ones
pub record_from : {S : Type 0} (told : S → Option (List ℕ)) (files : List (Filed S)) (segments : List (List Item)) (number i : ℕ) (file : Filed S) (o : Option Item)
    → i < length files → file ≡ get_or files i file → HoldsSegments told files segments
    → ((held : List Item) → records.Represents item_kind told file held → record_of item_kind number held ≡ o)
    → find (has_number number) (records_of (drop i segments)) ≡ option_or o (find (has_number number) (records_of (drop (i + 1) segments)))
record_from {S} told files segments number i file o within is holds gives =
    let segment = get_or segments i [] in
    let long : i < length segments = omega (arith, within, AllZip-long (records.Represents item_kind told) files segments holds) in
    let held : records.Represents item_kind told file segment =
    subst (λ (f : Filed S). records.Represents item_kind told f segment) (sym is) (zip_at (records.Represents item_kind told) files segments i file [] holds within) in
    ap (λ ss. find (has_number number) (records_of ss)) (drop-cons segments i [] long ∙ ap (λ n. segment ∷ drop n segments) (sym (add-one i)))
    ∙ (find-append (has_number number) segment (records_of (drop (i + 1) segments))
    ∙ ap (λ q. option_or q (find (has_number number) (records_of (drop (i + 1) segments)))) (gives segment held))

-- behind the last segment there is no record
pub record_behind : {S : Type 0} (told : S → Option (List ℕ)) (files : List (Filed S)) (segments : List (List Item)) (number i : ℕ) → length files ≤ i → HoldsSegments told files segments
    → find (has_number number) (records_of (drop i segments)) ≡ None
record_behind told files segments number i past holds =
    ap (λ ss. find (has_number number) (records_of ss)) (drop_all i segments (omega (arith, past, AllZip-long (records.Represents item_kind told) files segments holds)))

-- an error at a segment that is told comes from outside
pub segment_outside : {S : Type 0} (told : S → Option (List ℕ)) (files : List (Filed S)) (segments : List (List Item)) (number i : ℕ) (file read : Filed S) (fault : Fault)
    → i < length files → file ≡ get_or files i file → read ≡ file → TellsAll told → HoldsSegments told files segments
    → (IsSome (told read.file.file) → (held : List Item) → records.Represents item_kind told read held → IsOutside fault) → IsOutside fault
segment_outside {S} told files segments number i file read fault within is same tells holds found =
    let segment = get_or segments i [] in
    let held : records.Represents item_kind told file segment =
    subst (λ (f : Filed S). records.Represents item_kind told f segment) (sym is) (zip_at (records.Represents item_kind told) files segments i file [] holds within) in
    found (tells read.file.file) segment (subst (λ (f : Filed S). records.Represents item_kind told f segment) (sym same) held)

-- what a told segment gives of a number is its record
pub segment_gives : {S : Type 0} (told : S → Option (List ℕ)) (file read : Filed S) (number : ℕ) (o : Option Item) → read ≡ file → TellsAll told
    → (IsSome (told read.file.file) → (held : List Item) → records.Represents item_kind told read held → o ≡ record_of item_kind number held)
    → (held : List Item) → records.Represents item_kind told file held → record_of item_kind number held ≡ o
segment_gives {S} told file read number o same tells found held stands =
    sym (found (tells read.file.file) held (subst (λ (f : Filed S). records.Represents item_kind told f held) (sym same) stands))
