use Rattle.std.proofs.Common.{ap, ◌∙◌, ◌++◌, append_assoc}
use Rattle.std.proofs.lemmas.Slice.{pushed}
use Rattle.mg_frame.specs.BigEndian.{big_endian}
use Rattle.mg_frame.proofs.frame.begin_frame.Goals as goal

pub returns-clause-ok : goal.returns-clause-ok
unfolding big_endian
returns-clause-ok c =
    let with_size = pushed c.to_be_bytes.result c.reserve.ensures.items c.in_ok-extend_from_slice.was c.extend_from_slice.ensures.items in
    let with_number = pushed c.to_be_bytes-2.result with_size c.in_ok-extend_from_slice-2.was c.extend_from_slice-2.ensures.items in
    with_number ∙ append_assoc c.args.out.now.items _ _ ∙ ap (λ xs. c.args.out.now.items ++ (xs ++ c.to_be_bytes-2.result)) c.to_be_bytes.ensures
    ∙ ap (λ xs. c.args.out.now.items ++ (big_endian 4 c.args.body_len ++ xs)) c.to_be_bytes-2.ensures
