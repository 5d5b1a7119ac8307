use Rattle.std.proofs.Common.{◌<◌, length, subst, sym, Ok}
use Rattle.std.proofs.lemmas.Result.{err_from_is_err_and}
use Rattle.mg_model.specs.declared.calls.Call.{Call}
use Rattle.mg_model.specs.History.{call_for}
use Rattle.mg_recover.specs.Steps.{IsStep}
use Rattle.mg_recover.proofs.GivesLemmas.{made_gives, made_reach, unmade_gives, unreserved_gives}
use Rattle.mg_recover.proofs.store.Store.change.Goals as goal

pub returns-in_err-reserve-clause-gives : goal.returns-in_err-reserve-clause-gives
returns-in_err-reserve-clause-gives g c =
    let p = err_from_is_err_and c.from_residual.result c.from_residual.ensures.1 in
    rw (p.1, p.2) (unreserved_gives c.args.part c.args.what c.in_err-reserve.field-0.0 _ _ c.args.self.now.partitions.items c.requires.served c.requires.room c.in_err-reserve.ensures.same c.reserve.ensures.keeps c.in_err-reserve.ensures.err)

pub returns-in_err-reply-clause-gives : goal.returns-in_err-reply-clause-gives
returns-in_err-reply-clause-gives g c =
    let p = err_from_is_err_and c.from_residual-in_err-reply.result c.from_residual-in_err-reply.ensures.1 in
    let within : c.args.part < length c.args.self.now.partitions.items = subst (λ n. c.args.part < n) (sym c.args.self.now.counted) c.requires.part in
    rw (p.1, p.2) (unmade_gives c.args.part c.from.result c.args.what c.in_err-reply.field-0.0 _ _ c.args.self.now.partitions.items c.index_mut.result.now c.apply.new.self c.from.ensures within c.index_mut.ensures.value c.requires.served c.in_err-reply.ensures.step c.apply.ensures.places c.in_ok-reserve.ensures.staged c.reserve.ensures.keeps c.in_err-reply.ensures.err)

pub returns-clause-gives : goal.returns-clause-gives
returns-clause-gives g c =
    let within : c.args.part < length c.args.self.now.partitions.items = subst (λ n. c.args.part < n) (sym c.args.self.now.counted) c.requires.part in
    let made : IsStep c.index_mut.result.now.plain (call_for c.args.what) (Ok c.in_ok-reply.reply) c.apply.new.self.plain =
    subst (λ (call : Call). IsStep c.index_mut.result.now.plain call (Ok c.in_ok-reply.reply) c.apply.new.self.plain) c.call_for-call.ensures c.in_ok-reply.ensures.step in
    made_gives c.args.part c.from.result c.args.what c.in_ok-reply.reply _ _ _ c.args.self.now.partitions.items c.index_mut.result.now c.apply.new.self c.from.ensures within c.index_mut.ensures.value c.requires.served made c.apply.ensures.places c.in_ok-reserve.ensures.staged c.in_ok-reserve.ensures.next c.reserve.ensures.keeps c.push.ensures.parts c.push.ensures.book c.push.ensures.keeps

pub returns-clause-reaches : goal.returns-clause-reaches
returns-clause-reaches g c = λ tells.
    made_reach c.args.part c.args.what _ _ _ c.in_ok-reserve.ensures.staged c.in_ok-reserve.ensures.next c.in_ok-reply.reply _ _ _ c.requires.served c.reserve.ensures.keeps (c.reserve.ensures.reaches tells) (c.push.ensures.reaches tells)
