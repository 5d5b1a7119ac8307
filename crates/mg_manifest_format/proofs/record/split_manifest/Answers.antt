use Rattle.std.proofs.Common.{◌≡◌, ℕ, List, [], ◌++◌, length, Option, Some, refl, sym, ap, ◌∙◌, arith, rules}
use Rattle.std.proofs.lemmas.Bool.{false≢true}
use Rattle.std.proofs.lemmas.Grind.{common_steps}
use Rattle.std.proofs.lemmas.List.{append-nil, nil_from_length}
use Rattle.mg_manifest_format.specs.declared.record.ManifestRec.{ManifestRec}
use Rattle.mg_manifest_format.specs.Manifests.{layout_spelling, mark_spelling, numbers_bytes}
use Rattle.mg_manifest_format.specs.Spelling.{counted_list}
use Rattle.mg_manifest_format.proofs.ReadingLaws.{same_record}
use Rattle.mg_manifest_format.proofs.record.split_manifest.Goals as goal

pub returns-in_default-3-clause-written : goal.returns-in_default-3-clause-written
returns-in_default-3-clause-written c = λ rec version fits spelled.
    let layout = layout_spelling.bytes rec.layout in
    let marks = (counted_list 1 mark_spelling).bytes rec.marks in
    let numbers = (c.in-Some.ensures.written rec.epoch rec.applied rec.receipt rec.flushed rec.next_file (layout ++ marks) fits.epoch fits.applied fits.receipt fits.flushed fits.next_file spelled).1 in
    let behind = ((rw c.in-Some-2.is at c.in_ok-layout.ensures.read).1 rec.layout marks fits.layout numbers.5).1 in
    absurd (false≢true ((rw c.in_default-3.is at c.in_ok-marks.ensures.read).1 rec.marks [] fits.marks (behind.1 ∙ sym (append-nil marks))).0)

pub returns-then-not-is_empty-clause-written : goal.returns-then-not-is_empty-clause-written
returns-then-not-is_empty-clause-written c = λ rec version fits spelled.
    let layout = layout_spelling.bytes rec.layout in
    let marks = (counted_list 1 mark_spelling).bytes rec.marks in
    let numbers = (c.in-Some.ensures.written rec.epoch rec.applied rec.receipt rec.flushed rec.next_file (layout ++ marks) fits.epoch fits.applied fits.receipt fits.flushed fits.next_file spelled).1 in
    let behind = ((rw c.in-Some-2.is at c.in_ok-layout.ensures.read).1 rec.layout marks fits.layout numbers.5).1 in
    let last = ((rw c.in-Some-3.is at c.in_ok-marks.ensures.read).1 rec.marks [] fits.marks (behind.1 ∙ sym (append-nil marks))).1 in
    grind (arith, common_steps, last.1, ap length last.1)

pub returns-clause-read : goal.returns-clause-read
returns-clause-read c =
    let layout_read = rw c.in-Some-2.is at c.in_ok-layout.ensures.read in
    let marks_read = rw c.in-Some-3.is at c.in_ok-marks.ensures.read in
    let numbers = c.in-Some.numbers in
    let none : length c.in-Some-3.rest.now ≡ 0 = grind (arith, common_steps) in
    let layout = layout_spelling.bytes c.in-Some-2.layout in
    let marks = (counted_list 1 mark_spelling).bytes c.in-Some-3.marks in
    let front = numbers_bytes numbers.epoch numbers.applied numbers.receipt numbers.flushed numbers.next_file in (
      refl,
      record {
        epoch = search rules;
        applied = search rules;
        receipt = search rules;
        flushed = search rules;
        next_file = search rules;
        layout = layout_read.0.0;
        marks = marks_read.0.0;
      },
      c.in-Some.ensures.split ∙ ap (λ (l : List ℕ). front ++ l) (layout_read.0.1 ∙ ap (λ (l : List ℕ). layout ++ l)
          (marks_read.0.1 ∙ ap (λ (l : List ℕ). marks ++ l) (nil_from_length c.in-Some-3.rest.now none) ∙ append-nil marks)),
    )

pub returns-clause-written : goal.returns-clause-written
returns-clause-written c = λ rec version fits spelled.
    let layout = layout_spelling.bytes rec.layout in
    let marks = (counted_list 1 mark_spelling).bytes rec.marks in
    let numbers = (c.in-Some.ensures.written rec.epoch rec.applied rec.receipt rec.flushed rec.next_file (layout ++ marks) fits.epoch fits.applied fits.receipt fits.flushed fits.next_file spelled).1 in
    let behind = ((rw c.in-Some-2.is at c.in_ok-layout.ensures.read).1 rec.layout marks fits.layout numbers.5).1 in
    let last = ((rw c.in-Some-3.is at c.in_ok-marks.ensures.read).1 rec.marks [] fits.marks (behind.1 ∙ sym (append-nil marks))).1 in
    ap (λ (r : ManifestRec). let o : Option ManifestRec = Some r in o)
    (same_record _ rec (sym version) numbers.0 numbers.1 numbers.2 numbers.3 numbers.4 behind.0 last.0)
