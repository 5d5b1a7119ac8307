use Rattle.mg_frame.proofs.BigEndianLaws.{value_of_8}
use Rattle.std.proofs.Common.{length, ap, ◌∙◌}
use Rattle.mg_frame.proofs.FrameLaws.{compared-torn, compared-whole, length-digest}
use Rattle.mg_frame.proofs.frame.judge_digest.Goals as goal

pub returns-then-kept-found : goal.returns-then-kept-found
returns-then-kept-found c =
    compared-torn c.args.left.now c.split_at.result.0.now c.split_at.result.1.now c.digest.result c.args.body c.args.at _ _
    (record {
      sized = c.requires.body;
      front_is = c.split_at.ensures.front;
      back_is = c.split_at.ensures.back;
      kept_is = c.front_u64-kept.ensures;
      digested = c.digest.ensures;
      found_is = c.from_be_bytes-found.ensures ∙ value_of_8 c.digest.result (ap length c.digest.ensures ∙ length-digest c.split_at.result.0.now);
    })
    c.if-kept-found.true

pub returns : goal.returns
returns c =
    compared-whole c.args.left.now c.split_at.result.0.now c.split_at.result.1.now c.digest.result c.args.body c.args.at _ _
    (record {
      sized = c.requires.body;
      front_is = c.split_at.ensures.front;
      back_is = c.split_at.ensures.back;
      kept_is = c.front_u64-kept.ensures;
      digested = c.digest.ensures;
      found_is = c.from_be_bytes-found.ensures ∙ value_of_8 c.digest.result (ap length c.digest.ensures ∙ length-digest c.split_at.result.0.now);
    })
    c.if-kept-found.false
