use Rattle.std.proofs.Common.{ap, ◌∙◌, drop}
use Rattle.std.proofs.lemmas.List.{take_rest}
use Rattle.mg_frame.specs.Frame.{digest}
use Rattle.mg_frame.proofs.FrameLaws.{appended_last, frame_ended}
use Rattle.mg_frame.proofs.frame.end_frame.Goals as goal

pub returns-clause-ok : goal.returns-clause-ok
returns-clause-ok c before number body at all_is =
    appended_last c.extend_from_slice.result _ _ c.digest-digest.result _ c.extend_from_slice.ensures.items (λ after.
    frame_ended c.args.start number before body c.args.out.now.items _ c.digest-digest.result at all_is
    ((rw take_rest at c.digest-digest.ensures) ∙ ap (λ xs. digest (drop c.args.start xs)) c.deref.ensures.value) after)
