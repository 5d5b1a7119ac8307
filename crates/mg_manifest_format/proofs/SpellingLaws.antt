-- Lists, layouts, marks and records are spelled in one way.
use Rattle.std.proofs.Common.{◌≡◌, ℕ, ◌<◌, ◌^◌, List, [], ◌∷◌, ◌++◌, length, refl, sym, ◌∙◌, arith}
use Rattle.std.proofs.lemmas.List.{append-nil, append_assoc}
use Rattle.std.specs.List.{AllByRecursion}
use Rattle.mg_frame.specs.BigEndian.{big_endian}
use Rattle.mg_frame.proofs.SplitLaws.{one_number}
use Rattle.mg_manifest_format.specs.declared.record.ManifestRec.{ManifestRec}
use Rattle.mg_manifest_format.specs.Manifests.{file_spelling, layout_spelling, manifest_body, mark_spelling, run_spelling, OneManifestLaw}
use Rattle.mg_manifest_format.specs.Spelling.{Spelling, counted_list, listed, HasOneSpelling}
use Rattle.mg_manifest_format.proofs.ReadingLaws.{same_layout, same_mark, same_record, six_behind, three_behind}

-- a number of 8 bytes and what follows it
one_u64 : (n m : ℕ) (rest more : List ℕ) → n < 2 ^ 64 → m < 2 ^ 64 → big_endian 8 n ++ rest ≡ big_endian 8 m ++ more → (n ≡ m) × (rest ≡ more)
one_u64 n m rest more small small' same = one_number 8 n m rest more (omega (arith, small)) (omega (arith, small')) same

one_listed : {X : Type 0} (s : Spelling X) → HasOneSpelling s → (xs ys : List X) (rest more : List ℕ) → length xs ≡ length ys → AllByRecursion s.fits xs → AllByRecursion s.fits ys
    → listed s xs ++ rest ≡ listed s ys ++ more → (xs ≡ ys) × (rest ≡ more)
one_listed s one [] [] rest more long fits fits' same = (refl, same)
one_listed s one [] (y ∷ ys) rest more long fits fits' same = absurd (omega (arith, long))
one_listed s one (x ∷ xs) [] rest more long fits fits' same = absurd (omega (arith, long))
one_listed s one (x ∷ xs) (y ∷ ys) rest more long fits fits' same =
    let first = one x y (listed s xs ++ rest) (listed s ys ++ more) fits.0 fits'.0
    (sym (append_assoc (s.bytes x) (listed s xs) rest) ∙ same ∙ append_assoc (s.bytes y) (listed s ys) more) in
    let others = one_listed s one xs ys rest more (omega (arith, long)) fits.1 fits'.1 first.1 in
    (λ k. first.0 k ∷ others.0 k, others.1)

one_counted : {X : Type 0} (width : ℕ) (s : Spelling X) → HasOneSpelling s → HasOneSpelling (counted_list width s)
one_counted width s one xs ys rest more fits fits' same =
    let count = one_number width (length xs) (length ys) (listed s xs ++ rest) (listed s ys ++ more) fits.0 fits'.0
    (sym (append_assoc (big_endian width (length xs)) (listed s xs) rest) ∙ same ∙ append_assoc (big_endian width (length ys)) (listed s ys) more) in
    one_listed s one xs ys rest more count.0 fits.1 fits'.1 count.1

one_file : HasOneSpelling file_spelling
one_file x y rest more fits fits' same =
    let number = one_u64 x.number y.number (big_endian 8 x.len ++ rest) (big_endian 8 y.len ++ more) fits.0 fits'.0
    (sym (append_assoc (big_endian 8 x.number) (big_endian 8 x.len) rest) ∙ same ∙ append_assoc (big_endian 8 y.number) (big_endian 8 y.len) more) in
    let len = one_u64 x.len y.len rest more fits.1 fits'.1 number.1 in
    let file : x ≡ y = λ k. record { number = number.0 k; len = len.0 k } in
    (file, len.1)

one_run : HasOneSpelling run_spelling
one_run x y rest more fits fits' same =
    let files = (counted_list 2 file_spelling).bytes x.files in
    let files' = (counted_list 2 file_spelling).bytes y.files in
    let lo = one_u64 x.lo y.lo (big_endian 8 x.hi ++ (files ++ rest)) (big_endian 8 y.hi ++ (files' ++ more)) fits.0 fits'.0
    (sym (three_behind (big_endian 8 x.lo) (big_endian 8 x.hi) files rest) ∙ same ∙ three_behind (big_endian 8 y.lo) (big_endian 8 y.hi) files' more) in
    let hi = one_u64 x.hi y.hi (files ++ rest) (files' ++ more) fits.1 fits'.1 lo.1 in
    let last = one_counted 2 file_spelling one_file x.files y.files rest more fits.2 fits'.2 hi.1 in
    let run : x ≡ y = λ k. record { lo = lo.0 k; hi = hi.0 k; files = last.0 k } in
    (run, last.1)

one_layout : HasOneSpelling layout_spelling
one_layout x y rest more fits fits' same =
    let runs = (counted_list 2 run_spelling).bytes x.runs in
    let runs' = (counted_list 2 run_spelling).bytes y.runs in
    let segments = (counted_list 4 file_spelling).bytes x.segments in
    let segments' = (counted_list 4 file_spelling).bytes y.segments in
    let deletes = (counted_list 4 file_spelling).bytes x.deletes in
    let deletes' = (counted_list 4 file_spelling).bytes y.deletes in
    let first = one_counted 2 run_spelling one_run x.runs y.runs (segments ++ (deletes ++ rest)) (segments' ++ (deletes' ++ more)) fits.0 fits'.0
    (sym (three_behind runs segments deletes rest) ∙ same ∙ three_behind runs' segments' deletes' more) in
    let second = one_counted 4 file_spelling one_file x.segments y.segments (deletes ++ rest) (deletes' ++ more) fits.1 fits'.1 first.1 in
    let third = one_counted 4 file_spelling one_file x.deletes y.deletes rest more fits.2 fits'.2 second.1 in
    (same_layout x y first.0 second.0 third.0, third.1)

one_mark : HasOneSpelling mark_spelling
one_mark x y rest more fits fits' same =
    let layout = layout_spelling.bytes x.layout in
    let layout' = layout_spelling.bytes y.layout in
    let mark = one_u64 x.mark y.mark (layout ++ rest) (layout' ++ more) fits.0 fits'.0
    (sym (append_assoc (big_endian 8 x.mark) layout rest) ∙ same ∙ append_assoc (big_endian 8 y.mark) layout' more) in
    let last = one_layout x.layout y.layout rest more fits.1 fits'.1 mark.1 in
    (same_mark x y mark.0 last.0, last.1)

-- what stands behind the numbers of a record
abbrev behind_numbers : ManifestRec → List ℕ
behind_numbers rec = layout_spelling.bytes rec.layout ++ (counted_list 1 mark_spelling).bytes rec.marks

-- a record's body, grouped to the right
body_is : (rec : ManifestRec) → manifest_body rec
    ≡ big_endian 1 1 ++ (big_endian 8 rec.epoch ++ (big_endian 8 rec.applied ++ (big_endian 8 rec.receipt ++ (big_endian 8 rec.flushed ++ (big_endian 8 rec.next_file ++ behind_numbers rec)))))
body_is rec =
    six_behind (big_endian 1 1) (big_endian 8 rec.epoch) (big_endian 8 rec.applied) (big_endian 8 rec.receipt) (big_endian 8 rec.flushed) (big_endian 8 rec.next_file) (behind_numbers rec)

pub one_manifest : OneManifestLaw
one_manifest rec other fits fits' version same =
    let marks = (counted_list 1 mark_spelling).bytes rec.marks in
    let marks' = (counted_list 1 mark_spelling).bytes other.marks in
    let format = one_number 1 1 1 _ _ (omega arith) (omega arith) (sym (body_is rec) ∙ same ∙ body_is other) in
    let epoch = one_u64 rec.epoch other.epoch _ _ fits.epoch fits'.epoch format.1 in
    let applied = one_u64 rec.applied other.applied _ _ fits.applied fits'.applied epoch.1 in
    let receipt = one_u64 rec.receipt other.receipt _ _ fits.receipt fits'.receipt applied.1 in
    let flushed = one_u64 rec.flushed other.flushed _ _ fits.flushed fits'.flushed receipt.1 in
    let next = one_u64 rec.next_file other.next_file (behind_numbers rec) (behind_numbers other) fits.next_file fits'.next_file flushed.1 in
    let layout = one_layout rec.layout other.layout marks marks' fits.layout fits'.layout next.1 in
    let last = one_counted 1 mark_spelling one_mark rec.marks other.marks [] [] fits.marks fits'.marks (append-nil marks ∙ layout.1 ∙ sym (append-nil marks')) in
    same_record rec other version epoch.0 applied.0 receipt.0 flushed.0 next.0 layout.0 last.0
