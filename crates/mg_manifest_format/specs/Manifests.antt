-- The record of a manifest, and its body in bytes.
use Rattle.std.specs.Prelude.{◌≡◌, ℕ, ◌+◌, ◌-◌, ◌<◌, ◌≤◌, ◌^◌, List, [], ◌∷◌, ◌++◌, length, ⊤}
use Rattle.std.specs.List.{AllByRecursion}
use Rattle.mg_frame.specs.BigEndian.{big_endian}
use Rattle.mg_types.specs.Limits.{IsNumber}
use Rattle.mg_manifest_format.specs.declared.layout.LayoutNames.{LayoutNames}
use Rattle.mg_manifest_format.specs.declared.layout.NamedFile.{NamedFile}
use Rattle.mg_manifest_format.specs.declared.layout.RunNames.{RunNames}
use Rattle.mg_manifest_format.specs.declared.record.ManifestRec.{ManifestRec}
use Rattle.mg_manifest_format.specs.declared.record.MarkNames.{MarkNames}
use Rattle.mg_manifest_format.specs.Spelling.{Spelling, counted_list}

-- a file: its number and its length, in 8 bytes each
abbrev pub file_spelling : Spelling NamedFile
file_spelling =
    record { bytes = λ file. big_endian 8 file.number ++ big_endian 8 file.len; fits = λ file. (file.number < 2 ^ 64) × (file.len < 2 ^ 64) }

-- a run: the numbers of its interval in 8 bytes each, and its files after their number in 2
abbrev pub run_spelling : Spelling RunNames
run_spelling =
    record {
      bytes = λ run. big_endian 8 run.lo ++ (big_endian 8 run.hi ++ (counted_list 2 file_spelling).bytes run.files);
      fits = λ run. (run.lo < 2 ^ 64) × (run.hi < 2 ^ 64) × (counted_list 2 file_spelling).fits run.files;
    }

-- a layout: its runs after their number in 2 bytes, its segments after theirs in 4, and its delete lists likewise
abbrev pub layout_spelling : Spelling LayoutNames
layout_spelling =
    record {
      bytes = λ layout. (counted_list 2 run_spelling).bytes layout.runs
          ++ ((counted_list 4 file_spelling).bytes layout.segments ++ (counted_list 4 file_spelling).bytes layout.deletes);
      fits = λ layout. (counted_list 2 run_spelling).fits layout.runs
          × (counted_list 4 file_spelling).fits layout.segments × (counted_list 4 file_spelling).fits layout.deletes;
    }

-- a mark: its number in 8 bytes, and its layout
abbrev pub mark_spelling : Spelling MarkNames
mark_spelling =
    record {
      bytes = λ mark. big_endian 8 mark.mark ++ layout_spelling.bytes mark.layout;
      fits = λ mark. (mark.mark < 2 ^ 64) × layout_spelling.fits mark.layout;
    }

-- what stands before a layout: the format 1, and five numbers in 8 bytes each
abbrev pub numbers_bytes : ℕ → ℕ → ℕ → ℕ → ℕ → List ℕ
numbers_bytes epoch applied receipt flushed next_file =
    big_endian 1 1 ++ (big_endian 8 epoch ++ (big_endian 8 applied ++ (big_endian 8 receipt ++ (big_endian 8 flushed ++ big_endian 8 next_file))))

-- the body of a record: its numbers, its layout, and its marks after their number in a byte; the version is the number of its frame
abbrev pub manifest_body : ManifestRec → List ℕ
manifest_body rec =
    numbers_bytes rec.epoch rec.applied rec.receipt rec.flushed rec.next_file ++ (layout_spelling.bytes rec.layout ++ (counted_list 1 mark_spelling).bytes rec.marks)

-- a record whose fields have room for what it says
pub record HasRoom (rec : ManifestRec) : Type 0 where
  pub epoch : rec.epoch < 2 ^ 64
  pub applied : rec.applied < 2 ^ 64
  pub receipt : rec.receipt < 2 ^ 64
  pub flushed : rec.flushed < 2 ^ 64
  pub next_file : rec.next_file < 2 ^ 64
  pub layout : layout_spelling.fits rec.layout
  pub marks : (counted_list 1 mark_spelling).fits rec.marks

-- a file with a number below the next one's
abbrev pub IsFile : ℕ → NamedFile → Type 0
IsFile next file = (file.number < next) × IsNumber file.len

-- a run of at least one such file
abbrev pub IsRun : ℕ → RunNames → Type 0
IsRun next run = IsNumber run.lo × IsNumber run.hi × (1 ≤ length run.files) × AllByRecursion (IsFile next) run.files

-- a layout of at most 16 such runs, and of such files
abbrev pub IsLayout : ℕ → LayoutNames → Type 0
IsLayout next layout =
    (length layout.runs ≤ 16) × AllByRecursion (IsRun next) layout.runs × AllByRecursion (IsFile next) layout.segments × AllByRecursion (IsFile next) layout.deletes

-- marks that rise from `least` on, with such layouts, none above what is flushed
abbrev pub AreMarks : ℕ → ℕ → ℕ → List MarkNames → Type 0
AreMarks next flushed least [] = ⊤
AreMarks next flushed least (mark ∷ marks) = (least ≤ mark.mark) × (mark.mark ≤ flushed) × IsLayout next mark.layout × AreMarks next flushed (mark.mark + 1) marks

-- a record of the grammar: a file may keep its numbers, and the next file's number is above that of each file that it names
pub record IsManifest (rec : ManifestRec) : Type 0 where
  pub fits : HasRoom rec
  pub version : IsNumber rec.version
  pub epoch : IsNumber rec.epoch
  pub applied : IsNumber rec.applied
  pub receipt : IsNumber rec.receipt
  pub flushed : rec.flushed ≤ 2 ^ 40 - 1
  pub next_file : IsNumber rec.next_file
  pub layout : IsLayout rec.next_file rec.layout
  pub few_marks : length rec.marks ≤ 16
  pub marks : AreMarks rec.next_file rec.flushed 0 rec.marks

-- two records of one version with the same body are one
abbrev pub OneManifestLaw : Type 0
OneManifestLaw = (rec other : ManifestRec) → HasRoom rec → HasRoom other → rec.version ≡ other.version → manifest_body rec ≡ manifest_body other → rec ≡ other
