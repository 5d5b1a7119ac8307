-- How many bytes spellings have, and that these are not too many to count.
use Rattle.std.proofs.Common.{◌≡◌, ℕ, ◌+◌, ◌*◌, ◌<◌, ◌≤◌, ◌^◌, List, [], ◌∷◌, ◌++◌, length, arith}
use Rattle.std.proofs.lemmas.List.{length-append}
use Rattle.std.proofs.Math.Nat.{suc-mul}
use Rattle.std.specs.List.{AllByRecursion}
use Rattle.mg_frame.specs.BigEndian.{big_endian}
use Rattle.mg_frame.proofs.BigEndianLaws.{length-big_endian}
use Rattle.mg_manifest_format.specs.declared.layout.LayoutNames.{LayoutNames}
use Rattle.mg_manifest_format.specs.declared.layout.NamedFile.{NamedFile}
use Rattle.mg_manifest_format.specs.declared.layout.RunNames.{RunNames}
use Rattle.mg_manifest_format.specs.declared.record.ManifestRec.{ManifestRec}
use Rattle.mg_manifest_format.specs.declared.record.MarkNames.{MarkNames}
use Rattle.mg_manifest_format.specs.Manifests.{file_spelling, layout_spelling, manifest_body, mark_spelling, numbers_bytes, run_spelling, HasRoom}
use Rattle.mg_manifest_format.specs.Spelling.{Spelling, counted_list, listed}

listed_most : {X : Type 0} (s : Spelling X) (most : ℕ) → ((x : X) → s.fits x → length (s.bytes x) ≤ most) → (xs : List X) → AllByRecursion s.fits xs → length (listed s xs) ≤ length xs * most
listed_most s most each [] all = omega arith
listed_most s most each (x ∷ xs) all =
    omega (arith, suc-mul (length xs) most, length-append (s.bytes x) (listed s xs), each x all.0, listed_most s most each xs all.1)

counted_list_len : {X : Type 0} (width : ℕ) (s : Spelling X) (xs : List X) → length ((counted_list width s).bytes xs) ≡ width + length (listed s xs)
counted_list_len width s xs = omega (arith, length-append (big_endian width (length xs)) (listed s xs), length-big_endian width (length xs))

-- ---- files

pub file_len : (file : NamedFile) → length (file_spelling.bytes file) ≡ 16
file_len file = omega (arith, length-append (big_endian 8 file.number) (big_endian 8 file.len), length-big_endian 8 file.number, length-big_endian 8 file.len)

files_most : (files : List NamedFile) → AllByRecursion file_spelling.fits files → length (listed file_spelling files) ≤ length files * 16
files_most = listed_most file_spelling 16 (λ file fits. omega (arith, file_len file))

-- ---- runs

pub run_files_most : (run : RunNames) → run_spelling.fits run → length (listed file_spelling run.files) < 2 ^ 20
run_files_most run fits = omega (arith, fits.2.0, files_most run.files fits.2.1)

pub run_len : (run : RunNames) → length (run_spelling.bytes run) ≡ 18 + length (listed file_spelling run.files)
run_len run =
    let files = (counted_list 2 file_spelling).bytes run.files in
    omega (
      arith,
      length-append (big_endian 8 run.lo) (big_endian 8 run.hi ++ files),
      length-append (big_endian 8 run.hi) files,
      length-big_endian 8 run.lo,
      length-big_endian 8 run.hi,
      counted_list_len 2 file_spelling run.files,
    )

run_most : (run : RunNames) → run_spelling.fits run → length (run_spelling.bytes run) ≤ 2 ^ 21
run_most run fits = omega (arith, run_len run, run_files_most run fits)

-- ---- layouts

pub layout_runs_most : (layout : LayoutNames) → layout_spelling.fits layout → length (listed run_spelling layout.runs) < 2 ^ 37
layout_runs_most layout fits = omega (arith, fits.0.0, listed_most run_spelling (2 ^ 21) run_most layout.runs fits.0.1)

pub layout_segments_most : (layout : LayoutNames) → layout_spelling.fits layout → length (listed file_spelling layout.segments) < 2 ^ 36
layout_segments_most layout fits = omega (arith, fits.1.0, files_most layout.segments fits.1.1)

pub layout_deletes_most : (layout : LayoutNames) → layout_spelling.fits layout → length (listed file_spelling layout.deletes) < 2 ^ 36
layout_deletes_most layout fits = omega (arith, fits.2.0, files_most layout.deletes fits.2.1)

pub layout_len : (layout : LayoutNames) → length (layout_spelling.bytes layout)
    ≡ 10 + length (listed run_spelling layout.runs) + length (listed file_spelling layout.segments) + length (listed file_spelling layout.deletes)
layout_len layout =
    let runs = (counted_list 2 run_spelling).bytes layout.runs in
    let segments = (counted_list 4 file_spelling).bytes layout.segments in
    let deletes = (counted_list 4 file_spelling).bytes layout.deletes in
    omega (
      arith,
      length-append runs (segments ++ deletes),
      length-append segments deletes,
      counted_list_len 2 run_spelling layout.runs,
      counted_list_len 4 file_spelling layout.segments,
      counted_list_len 4 file_spelling layout.deletes,
    )

pub layout_most : (layout : LayoutNames) → layout_spelling.fits layout → length (layout_spelling.bytes layout) ≤ 2 ^ 39
layout_most layout fits = omega (arith, layout_len layout, layout_runs_most layout fits, layout_segments_most layout fits, layout_deletes_most layout fits)

-- ---- marks

pub mark_len : (mark : MarkNames) → length (mark_spelling.bytes mark) ≡ 8 + length (layout_spelling.bytes mark.layout)
mark_len mark = omega (arith, length-append (big_endian 8 mark.mark) (layout_spelling.bytes mark.layout), length-big_endian 8 mark.mark)

mark_most : (mark : MarkNames) → mark_spelling.fits mark → length (mark_spelling.bytes mark) ≤ 2 ^ 40
mark_most mark fits = omega (arith, mark_len mark, layout_most mark.layout fits.1)

-- ---- records

pub marks_most : (rec : ManifestRec) → HasRoom rec → length (listed mark_spelling rec.marks) < 2 ^ 48
marks_most rec fits = omega (arith, fits.marks.0, listed_most mark_spelling (2 ^ 40) mark_most rec.marks fits.marks.1)

numbers_len : (a b c d e : ℕ) → length (numbers_bytes a b c d e) ≡ 41
numbers_len a b c d e =
    omega (
      arith,
      length-append (big_endian 1 1) (big_endian 8 a ++ (big_endian 8 b ++ (big_endian 8 c ++ (big_endian 8 d ++ big_endian 8 e)))),
      length-append (big_endian 8 a) (big_endian 8 b ++ (big_endian 8 c ++ (big_endian 8 d ++ big_endian 8 e))),
      length-append (big_endian 8 b) (big_endian 8 c ++ (big_endian 8 d ++ big_endian 8 e)),
      length-append (big_endian 8 c) (big_endian 8 d ++ big_endian 8 e),
      length-append (big_endian 8 d) (big_endian 8 e),
      length-big_endian 1 1,
      length-big_endian 8 a,
      length-big_endian 8 b,
      length-big_endian 8 c,
      length-big_endian 8 d,
      length-big_endian 8 e,
    )

pub manifest_len : (rec : ManifestRec) → length (manifest_body rec) ≡ 42 + length (layout_spelling.bytes rec.layout) + length (listed mark_spelling rec.marks)
manifest_len rec =
    let numbers = numbers_bytes rec.epoch rec.applied rec.receipt rec.flushed rec.next_file in
    let layout = layout_spelling.bytes rec.layout in
    let marks = (counted_list 1 mark_spelling).bytes rec.marks in
    omega (
      arith,
      length-append numbers (layout ++ marks),
      length-append layout marks,
      numbers_len rec.epoch rec.applied rec.receipt rec.flushed rec.next_file,
      counted_list_len 1 mark_spelling rec.marks,
    )
