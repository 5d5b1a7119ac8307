use Rattle.std.proofs.Common.{◌≡◌, ◌+◌, ◌++◌, ◌∷◌, [], List, ℕ, take, sym, ap, ◌∙◌}
use Rattle.std.proofs.lemmas.List.{take_more}
use Rattle.mg_indexed.specs.Index.{index_bytes, handle_bytes}
use Rattle.mg_indexed.proofs.HandleLaws.{index_bytes-push}
use Rattle.mg_indexed.proofs.index.index_body.Goals as goal

pub loop-handle-preserved : goal.loop-handle-preserved
loop-handle-preserved g c =
    let keys = g.K.BlockKey.keys in
    let i = c.loop-handle.handle-index in
    let handles = c.args.handles.now in
    let handle = c.handle-item.result in
    let more : take (i + 1) handles ≡ take i handles ++ handle ∷ [] =
    take_more handles i handle c.loop-handle-test.true ∙ ap (λ p. take i handles ++ p ∷ []) (sym c.handle-item.is) in
    c.in_ok-put_handle.ensures ∙ ap (λ (xs : List ℕ). xs ++ handle_bytes keys handle) c.loop-handle.invariant
    ∙ sym (ap (index_bytes keys) more ∙ index_bytes-push keys (take i handles) handle)
