use Rattle.std.proofs.Common.{◌≡◌, ◌+◌, refl, length, sym, subst, arith}
use Rattle.std.proofs.lemmas.Grind.{common_steps}
use Rattle.mg_disk.specs.Files.{extended}
use Rattle.mg_frame.specs.Frame.{frame}
use Rattle.mg_sealed.specs.Writing.{HasFrames}
use Rattle.mg_sealed.proofs.WritingLaws.{puts_frame}
use Rattle.mg_sealed.proofs.writing.append_frame.Goals as goal

pub returns-clause-frames : goal.returns-clause-frames
returns-clause-frames g c =
    let inside = c.writer.inside in
    let drafted = g.F.Files.drafted in
    let piece = c.deref.result.now in
    let put : drafted c.append.new.draft ≡ extended (drafted inside.draft) piece = grind arith in
    let framed : piece ≡ frame inside.count c.args.body.now = grind (arith, common_steps) in
    λ bodies has.
    let has' = subst (λ w. HasFrames drafted w bodies) (sym c.writer.view_is) has in
    puts_frame drafted (record { draft = inside.draft; len = inside.len; count = inside.count })
    (record { draft = c.append.new.draft; len = inside.len + (length c.args.body.now + 20); count = inside.count + 1 })
    bodies c.args.body.now piece has' put framed refl refl
