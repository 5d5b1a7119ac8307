use Rattle.std.proofs.Common.{◌<◌, length, subst, sym}
use Rattle.mg_recover.proofs.GivesLemmas.{read_gives}
use Rattle.mg_recover.proofs.store.Store.read.Goals as goal

pub returns-clause-gives : goal.returns-clause-gives
returns-clause-gives g c =
    let within : c.args.part < length c.args.self.now.partitions.items = subst (λ n. c.args.part < n) (sym c.args.self.now.counted) c.requires.part in
    read_gives c.args.part c.from.result c.args.call.now c.apply.result _ c.args.self.now.partitions.items c.index_mut.result.now c.apply.new.self c.from.ensures within c.index_mut.ensures.value c.requires.reads c.apply.ensures.step c.apply.ensures.places c.apply.ensures.err
