use Rattle.std.proofs.Common.{arith, ap, take, length, ◌∙◌}
use Rattle.sha2.proofs.Facts256.{length-sha256}
use Rattle.mg_frame.specs.Frame.{digest}
use Rattle.mg_frame.proofs.FrameLaws.{first_eight}
use Rattle.mg_frame.proofs.frame.digest.Goals as goal

pub returns : goal.returns
unfolding digest
returns c = first_eight c.digest.result (omega (arith, ap length c.digest.ensures, length-sha256 c.args.covered.now)) ∙ ap (take 8) c.digest.ensures
