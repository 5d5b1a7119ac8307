use Rattle.std.proofs.Common.{◌≡◌, ◌⊎◌, ◌∙◌, ◌+◌, ◌<◌, ◌++◌, [], ◌∷◌, inl, inr, sym, ap, subst, append_assoc, length, List, ℕ, arith}
use Rattle.std.proofs.lemmas.Bool.{false≢true}
use Rattle.std.proofs.lemmas.Grind.{common_steps}
use Rattle.std.proofs.lemmas.List.{append-nil, length-append}
use Rattle.mg_types.specs.declared.faults.Fault.TheVariants.{NoMemory}
use Rattle.mg_sealed.proofs.AnswerLaws.{err_is}
use Rattle.mg_indexed.specs.Index.{first_after, handle_bytes, index_bytes, item_bytes, IsHandleAt, IsHandleUnfit, IsIndexFrom, IsIndexUnfit}
use Rattle.mg_indexed.proofs.FieldLaws.{length-item_bytes, none_left}
use Rattle.mg_indexed.proofs.HandleLaws.{index_bytes-push, index_push}
use Rattle.mg_indexed.proofs.index.read_index_body.Goals as goal

pub loop-item-smaller : goal.loop-item-smaller
loop-item-smaller g c =
    let item = c.in-Some.item in
    let bytes = item_bytes item.first.now item.at item.len in
    let less : length c.in-Some.behind.now < length c.loop-item.rest.now =
    omega (arith, ap length c.in-Some.ensures.split, length-append bytes c.in-Some.behind.now, length-item_bytes item.first.now item.at item.len) in less

pub returns-in_err-handle-clause-refusals : goal.returns-in_err-handle-clause-refusals
returns-in_err-handle-clause-refusals g c =
    let keys = g.K.BlockKey.keys in
    let form = g.T.BlockItem.form in
    let inv = c.loop-item.invariant in
    let fault = c.in_err-handle.field-0.0 in
    err_is c.from_residual.result fault (λ f. (f ≡ NoMemory) ⊎ IsIndexUnfit keys form c.args.id c.args.at c.args.body.now f) (grind (arith, common_steps))
    (elim c.in_err-handle.ensures.refusals [
      | inl memory ↦ inl memory
      | inr unfit ↦
          inr (record {
            front = c.loop-item.index;
            rest = c.loop-item.rest.now;
            body_is = inv.begins;
            end = c.loop-item.end;
            right = inv.right;
            stops = inl (
              unfit.0,
              c.in-Some.behind.now,
              (unfit.1, c.in-Some.ensures.split ∙ ap (λ (xs : List ℕ). xs ++ c.in-Some.behind.now) unfit.2),
              subst (λ hs. IsHandleUnfit keys form c.args.id c.args.at (first_after keys.lowest hs) c.loop-item.end unfit.0 fault) c.as_slice.ensures unfit.3,
            );
          })
    ])

pub loop-item-preserved : goal.loop-item-preserved
loop-item-preserved g c =
    let keys = g.K.BlockKey.keys in
    let form = g.T.BlockItem.form in
    let inv = c.loop-item.invariant in
    let index = c.loop-item.index in
    let handle = c.in_ok-handle.handle in
    let behind = c.in-Some.behind.now in
    let put = c.in_ok-push.ensures.ok in
    let right = subst (λ hs. IsHandleAt keys form (first_after keys.lowest hs) c.loop-item.end handle) c.as_slice.ensures c.in_ok-handle.ensures.right in
    record {
      right = subst (λ hs. IsIndexFrom keys form keys.lowest 0 hs (handle.at + c.from.result)) (sym put)
          (subst (λ n. IsIndexFrom keys form keys.lowest 0 (index ++ handle ∷ []) n) (omega (arith, c.from.ensures, right.1))
          (index_push keys form keys.lowest 0 index c.loop-item.end handle inv.right right));
      begins = inv.begins
          ∙ ap (λ (xs : List ℕ). index_bytes keys index ++ xs) (c.in-Some.ensures.split ∙ ap (λ (xs : List ℕ). xs ++ behind) c.in_ok-handle.ensures.spelled)
          ∙ sym (append_assoc (index_bytes keys index) (handle_bytes keys handle) behind)
          ∙ ap (λ (xs : List ℕ). xs ++ behind) (sym (ap (index_bytes keys) put ∙ index_bytes-push keys index handle));
    }

pub returns-then-not-is_empty-clause-refusals : goal.returns-then-not-is_empty-clause-refusals
returns-then-not-is_empty-clause-refusals g c =
    let inv = c.loop-item.invariant in
    inr (record {
      front = c.loop-item.index;
      rest = c.loop-item.rest.now;
      body_is = inv.begins;
      end = c.loop-item.end;
      right = inv.right;
      stops = inr (
        λ handle more begins. false≢true (c.in_default.ensures.written handle more begins),
        inl (λ none. absurd (grind (arith, common_steps, ap length none))),
        c.malformed.ensures,
      );
    })

pub returns-then-end-at-clause-refusals : goal.returns-then-end-at-clause-refusals
returns-then-end-at-clause-refusals g c =
    let inv = c.loop-item.invariant in
    inr (record {
      front = c.loop-item.index;
      rest = c.loop-item.rest.now;
      body_is = inv.begins;
      end = c.loop-item.end;
      right = inv.right;
      stops = inr (
        λ handle more begins. false≢true (c.in_default.ensures.written handle more begins),
        inr c.if-end-at.true,
        c.malformed-then-end-at.ensures,
      );
    })

pub returns-clause-is_index : goal.returns-clause-is_index
returns-clause-is_index g c =
    let keys = g.K.BlockKey.keys in
    let form = g.T.BlockItem.form in
    let inv = c.loop-item.invariant in
    let index = c.loop-item.index in
    let ends : c.loop-item.end ≡ c.args.at = grind (arith, common_steps) in
    let none : c.loop-item.rest.now ≡ [] = none_left c.loop-item.rest.now (grind (arith, common_steps)) in (
      subst (λ (n : ℕ). IsIndexFrom keys form keys.lowest 0 index n) ends inv.right,
      inv.begins ∙ ap (λ (xs : List ℕ). index_bytes keys index ++ xs) none ∙ append-nil (index_bytes keys index),
    )
