use Rattle.mg_disk.proofs.Moments.{started, goes_on, append_keeps, append_elsewhere, as_left}
use Rattle.mg_disk.proofs.clients.append_behind.Goals as goal

pub returns-clause-still : goal.returns-clause-still
returns-clause-still g c tells kept all =
    (append_keeps c.append.result _ _ kept _ _ (c.append.ensures.appended tells) (c.append.ensures.part tells) all).1

pub returns-clause-any_moment : goal.returns-clause-any_moment
returns-clause-any_moment g c tells kept all =
    let done = append_keeps c.append.result _ _ kept _ _ (c.append.ensures.appended tells) (c.append.ensures.part tells) all in
    let before = started _ _ (g.met.V.Volume.only_now tells c.args.volume.now) all in
    goes_on _ _ _ _ before done.0 done.1

pub returns-clause-elsewhere : goal.returns-clause-elsewhere
returns-clause-elsewhere g c tells =
    let done = append_elsewhere c.append.result _ _ _ _ (c.append.ensures.appended tells) (c.append.ensures.part tells) in
    let before = started _ _ (g.met.V.Volume.only_now tells c.args.volume.now) (as_left (g.V.Volume.view c.args.volume.now) _) in
    goes_on _ _ _ _ before done.0 done.1
