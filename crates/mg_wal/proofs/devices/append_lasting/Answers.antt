use Rattle.std.proofs.Common.{subst}
use Rattle.std.specs.Prelude.{OnOk}
use Rattle.mg_disk.specs.Images.{Synced}
use Rattle.mg_wal.proofs.StoryLaws.{append_keeps, of_value, sync_keeps}
use Rattle.mg_wal.proofs.devices.append_lasting.Goals as goal
use Rattle.mg_disk.proofs.Moments.{goes_on}
use Rattle.mg_wal.proofs.MomentLaws.{append_begins, one_call, sync_begins}

pub returns-in_err-map_err-clause-reaches : goal.returns-in_err-map_err-clause-reaches
returns-in_err-map_err-clause-reaches g c tells =
    append_keeps _ (g.V.Volume.view c.args.vol.now) _ c.args.bytes.now c.append.result c.map_err.result _ _ c.map_err.ensures.variant c.in_err-map_err.was c.from_residual.ensures.0
    (g.met.V.Volume.may_leave_contents tells c.args.vol.now) (c.append.ensures.part tells)

pub returns-clause-reaches : goal.returns-clause-reaches
returns-clause-reaches g c tells =
    sync_keeps _ (g.V.Volume.view c.args.vol.now) (g.V.Volume.view c.append.new.self) _ c.args.bytes.now c.sync.result c.map_err-2.result c.map_err-2.ensures.variant (g.met.V.Volume.may_leave_contents tells c.args.vol.now)
    (g.met.V.Volume.may_leave_contents tells c.append.new.self) (of_value c.append.result c.map_err.result _ _ c.map_err.ensures.variant c.in_ok-map_err.was (c.append.ensures.appended tells))
    (subst (λ n. OnOk c.sync.result (Synced n (g.V.Volume.view c.append.new.self) (g.V.Volume.view c.sync.new.self))) c.append.ensures.named (c.sync.ensures.synced tells)) (c.sync.ensures.stays tells)

pub returns-in_err-map_err-clause-sure : goal.returns-in_err-map_err-clause-sure
returns-in_err-map_err-clause-sure g c tells name kept all =
    one_call _ _ _ (g.met.V.Volume.only_now tells c.args.vol.now) all (append_begins c.append.result _ name _ kept _ _ (c.append.ensures.appended tells) (c.append.ensures.part tells) all)

pub returns-clause-sure : goal.returns-clause-sure
returns-clause-sure g c tells name kept all =
    let first = append_begins c.append.result _ name _ kept _ _ (c.append.ensures.appended tells) (c.append.ensures.part tells) all in
    let second = sync_begins c.sync.result _ name kept _ _ (g.met.V.Volume.may_leave_contents tells c.append.new.self) (c.sync.ensures.synced tells) (c.sync.ensures.stays tells) first.1 in
    goes_on _ _ _ _ (one_call _ _ _ (g.met.V.Volume.only_now tells c.args.vol.now) all first) second.0 second.1
