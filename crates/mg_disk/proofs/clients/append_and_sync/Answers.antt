use Rattle.std.proofs.Common.{subst}
use Rattle.std.specs.Prelude.{OnOk}
use Rattle.mg_disk.specs.Images.{Synced}
use Rattle.mg_disk.proofs.Moments.{started, goes_on, append_keeps, append_elsewhere, as_left, sync_keeps, sync_elsewhere}
use Rattle.mg_disk.proofs.clients.append_and_sync.Goals as goal

pub returns-in_err-append-clause-any_moment : goal.returns-in_err-append-clause-any_moment
returns-in_err-append-clause-any_moment g c tells kept all =
    let done = append_keeps c.append.result _ _ kept _ _ (c.append.ensures.appended tells) (c.append.ensures.part tells) all in
    let before = started _ _ (g.met.V.Volume.only_now tells c.args.volume.now) all in
    goes_on _ _ _ _ before done.0 done.1

pub returns-in_err-append-clause-elsewhere : goal.returns-in_err-append-clause-elsewhere
returns-in_err-append-clause-elsewhere g c tells =
    let done = append_elsewhere c.append.result _ _ _ _ (c.append.ensures.appended tells) (c.append.ensures.part tells) in
    let before = started _ _ (g.met.V.Volume.only_now tells c.args.volume.now) (as_left (g.V.Volume.view c.args.volume.now) _) in
    goes_on _ _ _ _ before done.0 done.1

pub returns-clause-still : goal.returns-clause-still
returns-clause-still g c tells kept all =
    let done = append_keeps c.append.result _ _ kept _ _ (c.append.ensures.appended tells) (c.append.ensures.part tells) all in
    let synced = subst (λ n. OnOk c.sync.result (Synced n (g.V.Volume.view c.append.new.self) (g.V.Volume.view c.sync.new.self))) c.append.ensures.named (c.sync.ensures.synced tells) in
    (sync_keeps c.sync.result _ kept _ _ (g.met.V.Volume.may_leave_contents tells c.append.new.self) synced (c.sync.ensures.stays tells) done.1).1

pub returns-clause-any_moment : goal.returns-clause-any_moment
returns-clause-any_moment g c tells kept all =
    let done = append_keeps c.append.result _ _ kept _ _ (c.append.ensures.appended tells) (c.append.ensures.part tells) all in
    let synced = subst (λ n. OnOk c.sync.result (Synced n (g.V.Volume.view c.append.new.self) (g.V.Volume.view c.sync.new.self))) c.append.ensures.named (c.sync.ensures.synced tells) in
    let then = sync_keeps c.sync.result _ kept _ _ (g.met.V.Volume.may_leave_contents tells c.append.new.self) synced (c.sync.ensures.stays tells) done.1 in
    let before = started _ _ (g.met.V.Volume.only_now tells c.args.volume.now) all in
    goes_on _ _ _ _ (goes_on _ _ _ _ before done.0 done.1) then.0 then.1

pub returns-clause-elsewhere : goal.returns-clause-elsewhere
returns-clause-elsewhere g c tells =
    let done = append_elsewhere c.append.result _ _ _ _ (c.append.ensures.appended tells) (c.append.ensures.part tells) in
    let synced = subst (λ n. OnOk c.sync.result (Synced n (g.V.Volume.view c.append.new.self) (g.V.Volume.view c.sync.new.self))) c.append.ensures.named (c.sync.ensures.synced tells) in
    let then = sync_elsewhere c.sync.result _ (g.V.Volume.view c.args.volume.now) _ _ synced (c.sync.ensures.stays tells) done.1 in
    let before = started _ _ (g.met.V.Volume.only_now tells c.args.volume.now) (as_left (g.V.Volume.view c.args.volume.now) _) in
    goes_on _ _ _ _ (goes_on _ _ _ _ before done.0 done.1) then.0 then.1
