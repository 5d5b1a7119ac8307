use Rattle.std.proofs.Common.{◌∙◌, ◌<◌, length, subst, sym}
use Rattle.mg_recover.proofs.StandLemmas.{call_answered, call_carries}
use Rattle.mg_recover.proofs.store.Store.call.Goals as goal

pub returns-clause-answered : goal.returns-clause-answered
returns-clause-answered g c = λ basis placed client stands.
    let gives = c.result_of-given.ensures.gives in
    let within : c.args.part < length c.result_of-given.new.self.partitions.items = subst (λ n. c.args.part < n) (sym (c.result_of-given.new.self.counted ∙ gives.parts)) c.requires.part in
    call_answered basis placed c.args.part client c.from.result c.args.call c.result_of-given.result c.is_read-reads.result _ _ _ _ c.index_mut.result.now c.place.new.self c.place.result
    c.requires.served c.requires.part c.from.ensures within c.index_mut.ensures.value c.is_read-reads.ensures c.place.ensures.answer c.place.ensures.plain c.place.ensures.places gives stands

pub returns-clause-reaches : goal.returns-clause-reaches
returns-clause-reaches g c = λ tells basis placed client stands.
    let gives = c.result_of-given.ensures.gives in
    let within : c.args.part < length c.result_of-given.new.self.partitions.items = subst (λ n. c.args.part < n) (sym (c.result_of-given.new.self.counted ∙ gives.parts)) c.requires.part in
    call_carries basis placed c.args.part client c.from.result c.args.call c.result_of-given.result c.is_read-reads.result _ _ _ c.result_of-given.new.self.partitions.items c.index_mut.result.now c.place.result _ _
    c.requires.served c.from.ensures within c.index_mut.ensures.value c.is_read-reads.ensures c.place.ensures.answer (c.result_of-given.ensures.reaches tells) stands
