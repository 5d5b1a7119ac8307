use Rattle.std.proofs.Common.{◌∙◌, arith}
use Rattle.std.proofs.lemmas.List.{drop_all}
use Rattle.mg_memdisk.proofs.Views.{settled_of, found_contents}
use Rattle.mg_memdisk.proofs.volumes.MemVolume.found.Goals as goal

pub returns-clause-contents : goal.returns-clause-contents
returns-clause-contents c = found_contents c.args.events.items c.len-settled.result

pub returns-clause-settled : goal.returns-clause-settled
returns-clause-settled c =
    let all = c.len-settled.ensures ∙ c.args.events.ok.0 in
    settled_of _ _ (drop_all c.len-settled.result c.args.events.items (omega (arith, all)))
