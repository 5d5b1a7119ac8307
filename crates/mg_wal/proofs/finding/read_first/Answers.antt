use Rattle.std.proofs.Common.{subst}
use Rattle.mg_wal.specs.Findings.{IsFirstSize}
use Rattle.mg_wal.proofs.FindLaws.{body_read}
use Rattle.mg_wal.proofs.finding.read_first.Goals as goal

pub returns-clause-first : goal.returns-clause-first
returns-clause-first g c tells =
    body_read (g.V.Volume.view c.args.vol.now).contents (g.V.Volume.view c.first_size.new.vol).contents c.args.number c.in-Some.size c.in_ok-frame.frame.items c.deref.result.now c.in_ok-body.body
    (c.first_size.ensures.stays tells).contents c.deref.ensures.value
    (subst (IsFirstSize (g.V.Volume.view c.args.vol.now).contents c.args.number) c.in-Some.is (c.in_ok-size.ensures.size tells)) (rw c.log_name-name.ensures at c.in_ok-frame.ensures.bytes tells) c.in_ok-body.ensures
