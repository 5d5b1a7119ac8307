use Rattle.std.proofs.Common.{◌≡◌, ◌∙◌, IsTrue, OnErr, Result, Ok, Err, ap, arith, refl, subst, sym}
use Rattle.mg_model.specs.declared.replies.Reply.TheVariants.{Found}
use Rattle.mg_model.specs.declared.replies.Reply.{Reply}
use Rattle.mg_model.specs.Mutations.{held, newest, read}
use Rattle.mg_model.specs.State.{State, get_reply, takes_memory}
use Rattle.mg_model.proofs.ListLemmas.{get_absent, get_found, get_deleted, newest_within}
use Rattle.mg_model.proofs.machine.Plain.get.Goals as goal

pub returns-then-place-eq0-clause-reply : goal.returns-then-place-eq0-clause-reply
returns-then-place-eq0-clause-reply c =
    let none : newest (held c.self.inside.mutations.items) c.args.key.now ≡ 0 = cc in
    let view = ap (λ (s : State). get_reply (read s.mutations c.args.key.now)) c.self.view_is in
    sym (get_absent c.self.inside.mutations.items c.args.key.now none) ∙ view

pub index-requires : goal.index-requires
index-requires c =
    let within = newest_within c.deref.result.now c.args.key.now c.newest_place-place.result c.newest_place-place.ensures in
    omega arith

pub returns-in_ok-copy-in-Some-clause-reply : goal.returns-in_ok-copy-in-Some-clause-reply
returns-in_ok-copy-in-Some-clause-reply c =
    let found : newest (held c.self.inside.mutations.items) c.args.key.now ≡ c.newest_place-place.result = cc in
    let view = ap (λ (s : State). get_reply (read s.mutations c.args.key.now)) c.self.view_is in
    let read = get_found c.self.inside.mutations.items c.args.key.now c.newest_place-place.result c.index.result.now c.in-Some.doc found c.if-place-eq0.false c.index.ensures c.in-Some.is in
    ap (Found c.newest_place-place.result) c.in_ok-copy-in-Some.ensures.ok ∙ sym read ∙ view

pub returns-in-None-clause-reply : goal.returns-in-None-clause-reply
returns-in-None-clause-reply c =
    let found : newest (held c.self.inside.mutations.items) c.args.key.now ≡ c.newest_place-place.result = cc in
    let view = ap (λ (s : State). get_reply (read s.mutations c.args.key.now)) c.self.view_is in
    let read = get_deleted c.self.inside.mutations.items c.args.key.now c.newest_place-place.result c.index.result.now found c.if-place-eq0.false c.index.ensures c.in-None.is in
    sym read ∙ view

pub returns-in_err-copy-in-Some-clause-memory : goal.returns-in_err-copy-in-Some-clause-memory
returns-in_err-copy-in-Some-clause-memory c =
    let found : newest (held c.self.inside.mutations.items) c.args.key.now ≡ c.newest_place-place.result = cc in
    let view = ap (λ (s : State). get_reply (read s.mutations c.args.key.now)) c.self.view_is in
    let read = get_found c.self.inside.mutations.items c.args.key.now c.newest_place-place.result c.index.result.now c.in-Some.doc found c.if-place-eq0.false c.index.ensures c.in-Some.is in
    on_err c.from_residual.result _ (subst (λ (r : Reply). IsTrue (takes_memory r)) (sym read ∙ view) refl)
  where
    on_err : {T E : Type 0} (r : Result T E) (P : Type 0) → P → OnErr r P
    on_err (Ok x) P p = tt
    on_err (Err e) P p = p
