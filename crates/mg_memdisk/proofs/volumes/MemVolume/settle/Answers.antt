use Rattle.std.proofs.Common.{◌∙◌, arith}
use Rattle.std.proofs.lemmas.List.{drop_all}
use Rattle.mg_memdisk.proofs.Views.{settled_of, contents_of}
use Rattle.mg_memdisk.proofs.volumes.MemVolume.settle.Goals as goal

pub returns-clause-contents : goal.returns-clause-contents
returns-clause-contents c = contents_of c.args.self.now c.len-self.result

pub returns-clause-settled : goal.returns-clause-settled
returns-clause-settled c =
    let all = c.len-self.ensures ∙ c.args.self.now.events.ok.0 in
    settled_of _ _ (drop_all c.len-self.result c.args.self.now.events.items (omega (arith, all)))
