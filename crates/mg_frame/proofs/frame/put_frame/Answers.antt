use Rattle.std.proofs.Common.{◌≡◌, arith, drop, length, ap, ◌∙◌}
use Rattle.std.proofs.lemmas.Grind.{common_steps}
use Rattle.std.proofs.lemmas.List.{take_rest}
use Rattle.std.proofs.lemmas.Slice.{pushed}
use Rattle.mg_frame.specs.BigEndian.{big_endian}
use Rattle.mg_frame.specs.Frame.{digest}
use Rattle.mg_frame.proofs.FrameLaws.{frame_built, appended_last}
use Rattle.mg_frame.proofs.frame.put_frame.Goals as goal

pub returns-clause-ok : goal.returns-clause-ok
unfolding big_endian
returns-clause-ok c =
    let with_size = pushed c.to_be_bytes.result c.reserve.ensures.items c.in_ok-extend_from_slice.was c.extend_from_slice.ensures.items in
    let with_number = pushed c.to_be_bytes-2.result with_size c.in_ok-extend_from_slice-2.was c.extend_from_slice-2.ensures.items in
    let with_body = pushed c.args.body.now with_number c.in_ok-extend_from_slice-3.was c.extend_from_slice-3.ensures.items in
    let start : c.len-start.result ≡ length c.args.out.now.items = grind (arith, common_steps) in
    appended_last c.extend_from_slice-4.result _ _ c.digest-digest.result _ c.extend_from_slice-4.ensures.items (λ after. frame_built c.args.number c.args.body.now c.args.out.now.items _ c.to_be_bytes.result c.to_be_bytes-2.result c.digest-digest.result _ (record {
      size_is = c.to_be_bytes.ensures;
      number_is = c.to_be_bytes-2.ensures;
      digest_is = (rw take_rest at c.digest-digest.ensures) ∙ ap (λ xs. digest (drop c.len-start.result xs)) c.deref.ensures.value
          ∙ ap (λ k. digest (drop k c.extend_from_slice-3.new.self.items)) start;
      all_is = with_body;
      after_is = after;
    }))
