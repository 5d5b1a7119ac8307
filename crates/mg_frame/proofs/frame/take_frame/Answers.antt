use Rattle.std.proofs.lemmas.List.{take_rest}
use Rattle.mg_frame.specs.Frame.{taken}
use Rattle.mg_frame.proofs.BigEndianLaws.{AreBytes-from_reads}
use Rattle.mg_frame.proofs.FrameLaws.{Means-taken, TakesWritten-taken, EndsLog-taken}
use Rattle.mg_frame.proofs.frame.take_frame.Goals as goal

pub returns-clause-exact : goal.returns-clause-exact
unfolding taken
returns-clause-exact c = rw take_rest at c.judge.ensures

pub returns-clause-meaning : goal.returns-clause-meaning
returns-clause-meaning c = rw (returns-clause-exact c) (Means-taken c.args.bytes.now c.args.at c.args.number (AreBytes-from_reads c.args.bytes.now (λ i. (c.type_inv.bytes i).fits)) c.requires)

pub returns-clause-written : goal.returns-clause-written
returns-clause-written c = rw (returns-clause-exact c) (TakesWritten-taken c.args.bytes.now c.args.at c.args.number c.ranges.number.fits)

pub returns-clause-ends : goal.returns-clause-ends
returns-clause-ends c = EndsLog-taken c.args.bytes.now c.args.at c.args.number _ (returns-clause-written c)
