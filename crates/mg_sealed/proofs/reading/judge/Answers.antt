use Rattle.std.proofs.Common.{◌≡◌}
use Rattle.mg_frame.specs.Frame.{taken}
use Rattle.mg_frame.specs.declared.frame.Taken.TheVariants.{Short}
use Rattle.mg_sealed.proofs.ReadingLaws.{short_needs}
use Rattle.mg_sealed.proofs.reading.judge.Goals as goal

pub returns-in-Short-clause-judged : goal.returns-in-Short-clause-judged
returns-in-Short-clause-judged c =
    let is : taken c.args.bytes.items 0 c.args.number ≡ Short c.in-Short.want c.in-Short.have = cc in
    let needs = short_needs c.args.bytes.items c.args.number c.in-Short.want c.in-Short.have is in
    rw is cc
