-- A record without a flaw is one of the grammar, and one of the grammar has no flaw.
use Rattle.std.proofs.Common.{◌≡◌, ℕ, ◌+◌, ◌-◌, ◌<◌, ◌≤◌, ◌^◌, List, [], ◌∷◌, length, Bool, true, false, Option, Some, None, nat_le, nat_lt, if◌then◌else◌, refl, arith}
use Rattle.std.proofs.lemmas.Bool.{le-leb, leb-true, lt-ltb, ltb-true}
use Rattle.std.specs.List.{AllByRecursion}
use Rattle.std.specs.Option.{option_or}
use Rattle.mg_types.specs.Limits.{IsNumber}
use Rattle.mg_manifest_format.specs.declared.flaws.Flaw.{Flaw}
use Rattle.mg_manifest_format.specs.declared.flaws.Flaw.TheVariants.{BrokenRule, GreatNumber}
use Rattle.mg_manifest_format.specs.declared.layout.LayoutNames.{LayoutNames}
use Rattle.mg_manifest_format.specs.declared.layout.NamedFile.{NamedFile}
use Rattle.mg_manifest_format.specs.declared.layout.RunNames.{RunNames}
use Rattle.mg_manifest_format.specs.declared.record.ManifestRec.{ManifestRec}
use Rattle.mg_manifest_format.specs.declared.record.MarkNames.{MarkNames}
use Rattle.mg_manifest_format.specs.Flaws.{file_flaw, first_flaw, layout_flaw, mark_flaw, marks_flaw, number_flaw, numbers_flaw, record_flaw, rule_flaw, run_flaw}
use Rattle.mg_manifest_format.specs.Manifests.{AreMarks, HasRoom, IsFile, IsLayout, IsManifest, IsRun}

-- ---- flaws one after another

both_none : (a b : Option Flaw) → option_or a b ≡ None → (a ≡ None) × (b ≡ None)
both_none None b none = (refl, none)
both_none (Some flaw) b none = absurd cc

none_of_both : (a b : Option Flaw) → a ≡ None → b ≡ None → option_or a b ≡ None
none_of_both None b first second = second
none_of_both (Some flaw) b first second = absurd cc

holds_if_none : (b : Bool) (flaw : Flaw) → (if b then None else Some flaw) ≡ None → b ≡ true
holds_if_none true flaw none = refl
holds_if_none false flaw none = absurd cc

none_if_holds : (b : Bool) (flaw : Flaw) → b ≡ true → (if b then None else Some flaw) ≡ None
none_if_holds true flaw holds = refl
none_if_holds false flaw holds = absurd cc

kept : (n : ℕ) → number_flaw n ≡ None → IsNumber n
kept n none = ltb-true n (2 ^ 62) (holds_if_none (nat_lt n (2 ^ 62)) (GreatNumber n) none)

kept_none : (n : ℕ) → IsNumber n → number_flaw n ≡ None
kept_none n small = none_if_holds (nat_lt n (2 ^ 62)) (GreatNumber n) (lt-ltb n (2 ^ 62) small)

at_most : (n m : ℕ) → rule_flaw (nat_le n m) ≡ None → n ≤ m
at_most n m none = leb-true n m (holds_if_none (nat_le n m) BrokenRule none)

at_most_none : (n m : ℕ) → n ≤ m → rule_flaw (nat_le n m) ≡ None
at_most_none n m small = none_if_holds (nat_le n m) BrokenRule (le-leb n m small)

below : (n m : ℕ) → rule_flaw (nat_lt n m) ≡ None → n < m
below n m none = ltb-true n m (holds_if_none (nat_lt n m) BrokenRule none)

below_none : (n m : ℕ) → n < m → rule_flaw (nat_lt n m) ≡ None
below_none n m small = none_if_holds (nat_lt n m) BrokenRule (lt-ltb n m small)

all_from_none : {X : Type 0} (flaw : X → Option Flaw) (P : X → Type 0) → ((x : X) → flaw x ≡ None → P x) → (xs : List X) → first_flaw flaw xs ≡ None → AllByRecursion P xs
all_from_none flaw P each [] none = tt
all_from_none flaw P each (x ∷ xs) none =
    let parts = both_none (flaw x) (first_flaw flaw xs) none in
    (each x parts.0, all_from_none flaw P each xs parts.1)

none_from_all : {X : Type 0} (flaw : X → Option Flaw) (P : X → Type 0) → ((x : X) → P x → flaw x ≡ None) → (xs : List X) → AllByRecursion P xs → first_flaw flaw xs ≡ None
none_from_all flaw P each [] all = refl
none_from_all flaw P each (x ∷ xs) all = none_of_both (flaw x) (first_flaw flaw xs) (each x all.0) (none_from_all flaw P each xs all.1)

-- ---- files, runs and layouts

sound_file : (next : ℕ) (file : NamedFile) → file_flaw next file ≡ None → IsFile next file
sound_file next file none =
    let first = both_none (number_flaw file.number) (option_or (rule_flaw (nat_lt file.number next)) (number_flaw file.len)) none in
    let second = both_none (rule_flaw (nat_lt file.number next)) (number_flaw file.len) first.1 in
    (below file.number next second.0, kept file.len second.1)

fine_file : (next : ℕ) → IsNumber next → (file : NamedFile) → IsFile next file → file_flaw next file ≡ None
fine_file next small file is =
    none_of_both (number_flaw file.number) (option_or (rule_flaw (nat_lt file.number next)) (number_flaw file.len)) (kept_none file.number (omega (arith, small, is.0)))
    (none_of_both (rule_flaw (nat_lt file.number next)) (number_flaw file.len) (below_none file.number next is.0) (kept_none file.len is.1))

sound_run : (next : ℕ) (run : RunNames) → run_flaw next run ≡ None → IsRun next run
sound_run next run none =
    let files = first_flaw (file_flaw next) run.files in
    let some = rule_flaw (nat_le 1 (length run.files)) in
    let first = both_none (number_flaw run.lo) (option_or (number_flaw run.hi) (option_or some files)) none in
    let second = both_none (number_flaw run.hi) (option_or some files) first.1 in
    let third = both_none some files second.1 in
    (kept run.lo first.0, kept run.hi second.0, at_most 1 (length run.files) third.0, all_from_none (file_flaw next) (IsFile next) (sound_file next) run.files third.1)

fine_run : (next : ℕ) → IsNumber next → (run : RunNames) → IsRun next run → run_flaw next run ≡ None
fine_run next small run is =
    let files = first_flaw (file_flaw next) run.files in
    let some = rule_flaw (nat_le 1 (length run.files)) in
    none_of_both (number_flaw run.lo) (option_or (number_flaw run.hi) (option_or some files)) (kept_none run.lo is.0)
    (none_of_both (number_flaw run.hi) (option_or some files) (kept_none run.hi is.1)
    (none_of_both some files (at_most_none 1 (length run.files) is.2) (none_from_all (file_flaw next) (IsFile next) (fine_file next small) run.files is.3)))

sound_layout : (next : ℕ) (layout : LayoutNames) → layout_flaw next layout ≡ None → IsLayout next layout
sound_layout next layout none =
    let few = rule_flaw (nat_le (length layout.runs) 16) in
    let runs = first_flaw (run_flaw next) layout.runs in
    let segments = first_flaw (file_flaw next) layout.segments in
    let deletes = first_flaw (file_flaw next) layout.deletes in
    let first = both_none few (option_or runs (option_or segments deletes)) none in
    let second = both_none runs (option_or segments deletes) first.1 in
    let third = both_none segments deletes second.1 in (
      at_most (length layout.runs) 16 first.0,
      all_from_none (run_flaw next) (IsRun next) (sound_run next) layout.runs second.0,
      all_from_none (file_flaw next) (IsFile next) (sound_file next) layout.segments third.0,
      all_from_none (file_flaw next) (IsFile next) (sound_file next) layout.deletes third.1,
    )

fine_layout : (next : ℕ) → IsNumber next → (layout : LayoutNames) → IsLayout next layout → layout_flaw next layout ≡ None
fine_layout next small layout is =
    let few = rule_flaw (nat_le (length layout.runs) 16) in
    let runs = first_flaw (run_flaw next) layout.runs in
    let segments = first_flaw (file_flaw next) layout.segments in
    let deletes = first_flaw (file_flaw next) layout.deletes in
    none_of_both few (option_or runs (option_or segments deletes)) (at_most_none (length layout.runs) 16 is.0)
    (none_of_both runs (option_or segments deletes) (none_from_all (run_flaw next) (IsRun next) (fine_run next small) layout.runs is.1)
    (none_of_both segments deletes (none_from_all (file_flaw next) (IsFile next) (fine_file next small) layout.segments is.2)
    (none_from_all (file_flaw next) (IsFile next) (fine_file next small) layout.deletes is.3)))

-- ---- marks

sound_marks : (next flushed least : ℕ) (marks : List MarkNames) → marks_flaw next flushed least marks ≡ None → AreMarks next flushed least marks
sound_marks next flushed least [] none = tt
sound_marks next flushed least (mark ∷ marks) none =
    let rises = rule_flaw (nat_le least mark.mark) in
    let among = rule_flaw (nat_le mark.mark flushed) in
    let layout = layout_flaw next mark.layout in
    let first = both_none (mark_flaw next flushed least mark) (marks_flaw next flushed (mark.mark + 1) marks) none in
    let second = both_none (number_flaw mark.mark) (option_or rises (option_or among layout)) first.0 in
    let third = both_none rises (option_or among layout) second.1 in
    let fourth = both_none among layout third.1 in
    (at_most least mark.mark third.0, at_most mark.mark flushed fourth.0, sound_layout next mark.layout fourth.1, sound_marks next flushed (mark.mark + 1) marks first.1)

fine_marks : (next flushed least : ℕ) → IsNumber next → IsNumber flushed → (marks : List MarkNames) → AreMarks next flushed least marks → marks_flaw next flushed least marks ≡ None
fine_marks next flushed least small small' [] are = refl
fine_marks next flushed least small small' (mark ∷ marks) are =
    let rises = rule_flaw (nat_le least mark.mark) in
    let among = rule_flaw (nat_le mark.mark flushed) in
    let layout = layout_flaw next mark.layout in
    none_of_both (mark_flaw next flushed least mark) (marks_flaw next flushed (mark.mark + 1) marks)
    (none_of_both (number_flaw mark.mark) (option_or rises (option_or among layout)) (kept_none mark.mark (omega (arith, small', are.1)))
    (none_of_both rises (option_or among layout) (at_most_none least mark.mark are.0)
    (none_of_both among layout (at_most_none mark.mark flushed are.1) (fine_layout next small mark.layout are.2))))
    (fine_marks next flushed (mark.mark + 1) small small' marks are.3)

-- ---- records

pub sound : (rec : ManifestRec) → HasRoom rec → record_flaw rec ≡ None → IsManifest rec
sound rec fits none =
    let layout = layout_flaw rec.next_file rec.layout in
    let few = rule_flaw (nat_le (length rec.marks) 16) in
    let marks = marks_flaw rec.next_file rec.flushed 0 rec.marks in
    let first = both_none (numbers_flaw rec) (option_or layout (option_or few marks)) none in
    let second = both_none layout (option_or few marks) first.1 in
    let third = both_none few marks second.1 in
    let next = number_flaw rec.next_file in
    let most = option_or (rule_flaw (nat_le rec.flushed (2 ^ 40 - 1))) next in
    let flushed = option_or (number_flaw rec.flushed) most in
    let receipt = option_or (number_flaw rec.receipt) flushed in
    let applied = option_or (number_flaw rec.applied) receipt in
    let a = both_none (number_flaw rec.version) (option_or (number_flaw rec.epoch) applied) first.0 in
    let b = both_none (number_flaw rec.epoch) applied a.1 in
    let c = both_none (number_flaw rec.applied) receipt b.1 in
    let d = both_none (number_flaw rec.receipt) flushed c.1 in
    let e = both_none (number_flaw rec.flushed) most d.1 in
    let f = both_none (rule_flaw (nat_le rec.flushed (2 ^ 40 - 1))) next e.1 in
    record {
      fits = fits;
      version = kept rec.version a.0;
      epoch = kept rec.epoch b.0;
      applied = kept rec.applied c.0;
      receipt = kept rec.receipt d.0;
      flushed = at_most rec.flushed (2 ^ 40 - 1) f.0;
      next_file = kept rec.next_file f.1;
      layout = sound_layout rec.next_file rec.layout second.0;
      few_marks = at_most (length rec.marks) 16 third.0;
      marks = sound_marks rec.next_file rec.flushed 0 rec.marks third.1;
    }

pub fine : (rec : ManifestRec) → IsManifest rec → record_flaw rec ≡ None
fine rec is =
    let layout = layout_flaw rec.next_file rec.layout in
    let few = rule_flaw (nat_le (length rec.marks) 16) in
    let marks = marks_flaw rec.next_file rec.flushed 0 rec.marks in
    let next = number_flaw rec.next_file in
    let most = option_or (rule_flaw (nat_le rec.flushed (2 ^ 40 - 1))) next in
    let flushed = option_or (number_flaw rec.flushed) most in
    let receipt = option_or (number_flaw rec.receipt) flushed in
    let applied = option_or (number_flaw rec.applied) receipt in
    let small : IsNumber rec.flushed = omega (arith, is.flushed) in
    none_of_both (numbers_flaw rec) (option_or layout (option_or few marks))
    (none_of_both (number_flaw rec.version) (option_or (number_flaw rec.epoch) applied) (kept_none rec.version is.version)
    (none_of_both (number_flaw rec.epoch) applied (kept_none rec.epoch is.epoch)
    (none_of_both (number_flaw rec.applied) receipt (kept_none rec.applied is.applied)
    (none_of_both (number_flaw rec.receipt) flushed (kept_none rec.receipt is.receipt)
    (none_of_both (number_flaw rec.flushed) most (kept_none rec.flushed small)
    (none_of_both (rule_flaw (nat_le rec.flushed (2 ^ 40 - 1))) next (at_most_none rec.flushed (2 ^ 40 - 1) is.flushed) (kept_none rec.next_file is.next_file)))))))
    (none_of_both layout (option_or few marks) (fine_layout rec.next_file is.next_file rec.layout is.layout)
    (none_of_both few marks (at_most_none (length rec.marks) 16 is.few_marks) (fine_marks rec.next_file rec.flushed 0 is.next_file small rec.marks is.marks)))
