-- What is wrong with a record that a body spells, from left to right, and how a body is refused.
use Rattle.std.specs.Prelude.{◌≡◌, ◌≢◌, ℕ, ◌+◌, ◌-◌, ◌^◌, ◌⊎◌, List, [], ◌∷◌, length, nat_le, nat_lt, Bool, Option, None, Some, if◌then◌else◌}
use Rattle.std.specs.Option.{option_or}
use Rattle.mg_types.specs.declared.faults.Fault.{Fault}
use Rattle.mg_types.specs.declared.faults.Fault.TheVariants.{Damaged, Malformed}
use Rattle.mg_types.specs.declared.names.FileId.{FileId}
use Rattle.mg_manifest_format.specs.declared.flaws.Flaw.{Flaw}
use Rattle.mg_manifest_format.specs.declared.flaws.Flaw.TheVariants.{BrokenRule, GreatNumber}
use Rattle.mg_manifest_format.specs.declared.layout.LayoutNames.{LayoutNames}
use Rattle.mg_manifest_format.specs.declared.layout.NamedFile.{NamedFile}
use Rattle.mg_manifest_format.specs.declared.layout.RunNames.{RunNames}
use Rattle.mg_manifest_format.specs.declared.record.ManifestRec.{ManifestRec}
use Rattle.mg_manifest_format.specs.declared.record.MarkNames.{MarkNames}
use Rattle.mg_manifest_format.specs.Manifests.{manifest_body, HasRoom}

-- a number of 2^62 or more
abbrev pub number_flaw : ℕ → Option Flaw
number_flaw number = if nat_lt number (2 ^ 62) then None else Some (GreatNumber number)

-- a rule that does not hold
abbrev pub rule_flaw : Bool → Option Flaw
rule_flaw holds = if holds then None else Some BrokenRule

-- the first flaw among those of these values
abbrev pub first_flaw : {X : Type 0} → (X → Option Flaw) → List X → Option Flaw
first_flaw flaw [] = None
first_flaw flaw (x ∷ xs) = option_or (flaw x) (first_flaw flaw xs)

-- of a file: its number is too great or not below the next one's, or its length is too great
abbrev pub file_flaw : ℕ → NamedFile → Option Flaw
file_flaw next file = option_or (number_flaw file.number) (option_or (rule_flaw (nat_lt file.number next)) (number_flaw file.len))

-- of a run: a number of its interval is too great, it has no file, or a file has a flaw
abbrev pub run_flaw : ℕ → RunNames → Option Flaw
run_flaw next run =
    option_or (number_flaw run.lo) (option_or (number_flaw run.hi) (option_or (rule_flaw (nat_le 1 (length run.files))) (first_flaw (file_flaw next) run.files)))

-- of a layout: it has more than 16 runs, or a run, a segment or a delete list has a flaw
abbrev pub layout_flaw : ℕ → LayoutNames → Option Flaw
layout_flaw next layout =
    option_or (rule_flaw (nat_le (length layout.runs) 16))
    (option_or (first_flaw (run_flaw next) layout.runs) (option_or (first_flaw (file_flaw next) layout.segments) (first_flaw (file_flaw next) layout.deletes)))

-- of a mark behind lower ones: its number is too great, below `least` or above what is flushed, or its layout has a flaw
abbrev pub mark_flaw : ℕ → ℕ → ℕ → MarkNames → Option Flaw
mark_flaw next flushed least mark =
    option_or (number_flaw mark.mark)
    (option_or (rule_flaw (nat_le least mark.mark)) (option_or (rule_flaw (nat_le mark.mark flushed)) (layout_flaw next mark.layout)))

-- the first flaw of marks that should rise from `least` on
abbrev pub marks_flaw : ℕ → ℕ → ℕ → List MarkNames → Option Flaw
marks_flaw next flushed least [] = None
marks_flaw next flushed least (mark ∷ marks) = option_or (mark_flaw next flushed least mark) (marks_flaw next flushed (mark.mark + 1) marks)

-- of the numbers before a layout: the version, which the frame has, or another is too great, or what is flushed is above 2^40 - 1
abbrev pub numbers_flaw : ManifestRec → Option Flaw
numbers_flaw rec =
    option_or (number_flaw rec.version) (option_or (number_flaw rec.epoch) (option_or (number_flaw rec.applied) (option_or (number_flaw rec.receipt)
    (option_or (number_flaw rec.flushed) (option_or (rule_flaw (nat_le rec.flushed (2 ^ 40 - 1))) (number_flaw rec.next_file))))))

-- of a record: of its numbers, its layout, or its marks, of which there are more than 16 or one has a flaw
abbrev pub record_flaw : ManifestRec → Option Flaw
record_flaw rec =
    option_or (numbers_flaw rec) (option_or (layout_flaw rec.next_file rec.layout)
    (option_or (rule_flaw (nat_le (length rec.marks) 16)) (marks_flaw rec.next_file rec.flushed 0 rec.marks)))

-- the fault that names a flaw of a record in the frame at this offset
abbrev pub fault_of : FileId → ℕ → Flaw → Fault
fault_of file at BrokenRule = Malformed file at
fault_of file at (GreatNumber number) = Damaged file at number (2 ^ 62)

-- the body spells no record
abbrev pub SpellsNone : List ℕ → Type 0
SpellsNone body = (rec : ManifestRec) → HasRoom rec → body ≢ manifest_body rec

-- a body that spells no record is malformed, and else the record of this version has the flaw that the fault names
abbrev pub IsRefused : FileId → ℕ → ℕ → List ℕ → Fault → Type 0
IsRefused file at version body fault =
    (SpellsNone body × (fault ≡ Malformed file at))
    ⊎ ((rec : ManifestRec) × (flaw : Flaw) × (rec.version ≡ version) × HasRoom rec × (body ≡ manifest_body rec) × (record_flaw rec ≡ Some flaw) × (fault ≡ fault_of file at flaw))
