use Rattle.std.proofs.Common.{◌≡◌, ℕ, List, subst, rules}
use Rattle.std.specs.Prelude.{OnOk}
use Rattle.mg_disk.specs.Images.{Appended}
use Rattle.mg_memdisk.specs.Events.{kept}
use Rattle.mg_memdisk.specs.Volumes.{mem_view}
use Rattle.mg_memdisk.proofs.Views.{on_append, on_behind}
use Rattle.mg_memdisk.proofs.volumes.MemVolume.put_behind.Goals as goal

pub returns-clause-happened : goal.returns-clause-happened
returns-clause-happened c =
    let same : kept c.new-behind.result ≡ c.args.bytes.now = search rules in
    on_behind _ _ c.args.name c.push.result _ c.args.bytes.now same c.push.ensures.pushed

pub returns-clause-appended : goal.returns-clause-appended
returns-clause-appended c =
    let same : kept c.new-behind.result ≡ c.args.bytes.now = search rules in
    let done = on_append _ _ c.args.name c.push.result _ c.requires c.push.ensures.pushed in
    subst (λ (l : List ℕ). OnOk c.push.result (Appended c.args.name l (mem_view c.args.self.now) (mem_view c.push.new.self))) same done
