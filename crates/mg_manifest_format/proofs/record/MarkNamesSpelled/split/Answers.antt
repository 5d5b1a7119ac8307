use Rattle.std.proofs.Common.{◌++◌, refl, ◌∙◌, rules}
use Rattle.std.proofs.lemmas.List.{append_assoc}
use Rattle.mg_frame.specs.BigEndian.{big_endian}
use Rattle.mg_manifest_format.specs.Manifests.{layout_spelling}
use Rattle.mg_manifest_format.proofs.ReadingLaws.{same_mark, two_read}
use Rattle.mg_manifest_format.proofs.record.MarkNamesSpelled.split.Goals as goal

pub returns-clause-read : goal.returns-clause-read
returns-clause-read c =
    let layout_read = rw c.in-Some-2.is at c.in_ok-layout.ensures.read in (
      (
        (search rules, layout_read.0.0),
        two_read c.args.bytes.now (big_endian 8 c.in-Some.mark) (layout_spelling.bytes c.in-Some-2.layout) c.in-Some.rest.now c.in-Some-2.rest.now c.in-Some.ensures.split layout_read.0.1,
      ),
      λ x rest fits spelled.
          let layout = layout_spelling.bytes x.layout in
          let first = (c.in-Some.ensures.written x.mark (layout ++ rest) fits.0 (spelled ∙ append_assoc (big_endian 8 x.mark) layout rest)).1 in
          let second = (layout_read.1 x.layout rest fits.1 first.1).1 in
          (refl, (same_mark _ x first.0 second.0, second.1)),
    )
