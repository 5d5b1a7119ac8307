use Rattle.std.proofs.Common.{◌++◌, refl, ◌∙◌}
use Rattle.mg_manifest_format.specs.Manifests.{file_spelling, run_spelling}
use Rattle.mg_manifest_format.specs.Spelling.{counted_list}
use Rattle.mg_manifest_format.proofs.ReadingLaws.{same_layout, three_behind, three_read}
use Rattle.mg_manifest_format.proofs.layout.LayoutNamesSpelled.split.Goals as goal

pub returns-in_default-3-clause-read : goal.returns-in_default-3-clause-read
returns-in_default-3-clause-read c = (
  tt,
  λ x rest fits spelled.
      let runs = (counted_list 2 run_spelling).bytes x.runs in
      let segments = (counted_list 4 file_spelling).bytes x.segments in
      let deletes = (counted_list 4 file_spelling).bytes x.deletes in
      let first = ((rw c.in-Some.is at c.in_ok-runs.ensures.read).1 x.runs (segments ++ (deletes ++ rest)) fits.0 (spelled ∙ three_behind runs segments deletes rest)).1 in
      let second = ((rw c.in-Some-2.is at c.in_ok-segments.ensures.read).1 x.segments (deletes ++ rest) fits.1 first.1).1 in
      (rw c.in_default-3.is at c.in_ok-deletes.ensures.read).1 x.deletes rest fits.2 second.1,
)

pub returns-clause-read : goal.returns-clause-read
returns-clause-read c =
    let runs_read = rw c.in-Some.is at c.in_ok-runs.ensures.read in
    let segments_read = rw c.in-Some-2.is at c.in_ok-segments.ensures.read in
    let deletes_read = rw c.in-Some-3.is at c.in_ok-deletes.ensures.read in (
      (
        (runs_read.0.0, segments_read.0.0, deletes_read.0.0),
        three_read c.args.bytes.now ((counted_list 2 run_spelling).bytes c.in-Some.runs) ((counted_list 4 file_spelling).bytes c.in-Some-2.segments)
            ((counted_list 4 file_spelling).bytes c.in-Some-3.deletes) c.in-Some.rest.now c.in-Some-2.rest.now c.in-Some-3.rest.now runs_read.0.1 segments_read.0.1 deletes_read.0.1,
      ),
      λ x rest fits spelled.
          let runs = (counted_list 2 run_spelling).bytes x.runs in
          let segments = (counted_list 4 file_spelling).bytes x.segments in
          let deletes = (counted_list 4 file_spelling).bytes x.deletes in
          let first = (runs_read.1 x.runs (segments ++ (deletes ++ rest)) fits.0 (spelled ∙ three_behind runs segments deletes rest)).1 in
          let second = (segments_read.1 x.segments (deletes ++ rest) fits.1 first.1).1 in
          let third = (deletes_read.1 x.deletes rest fits.2 second.1).1 in
          (refl, (same_layout _ x first.0 second.0 third.0, third.1)),
    )
