use Rattle.std.proofs.Common.{◌≡◌, ◌∙◌, ◌+◌, ◌&&◌, ◌==◌, ap, length, arith, ◌∷◌, [], true, false}
use Rattle.std.specs.Option.{is_some}
use Rattle.std.proofs.lemmas.List.{length_push}
use Rattle.std.proofs.lemmas.List.Sums.{sum_by-append}
use Rattle.std.specs.List.{sum_by}
use Rattle.mg_types.specs.Items.{doc_size}
use Rattle.mg_model.specs.Mutations.{held, newest, item_of}
use Rattle.mg_model.proofs.ListLemmas.{live_sets, live_sets_grow, live_sets_stay}
use Rattle.mg_model.proofs.scan.live_documents.Goals as goal
use Rattle.mg_model.proofs.scan.live_documents.Goals.{then-is_live_set, else-is_live_set}

pub loop-index-preserved : goal.loop-index-preserved
loop-index-preserved c =
    let ms = c.args.mutations.now in
    let i = c.loop-index.index in
    let x = c.index-mutations-index.result in
    elim c.if-is_live_set.branch [
      | then-is_live_set w ↦
          let counts : (is_some x.doc && (newest (held ms) x.key == i + 1)) ≡ true = cc in
          let step = live_sets_grow ms i x c.loop-index-test.true c.index-mutations-index.is counts in
          let one_more = ap length step ∙ length_push (live_sets ms i) (item_of (i + 1) x) in
          let summed = ap (sum_by doc_size) step ∙ sum_by-append doc_size (live_sets ms i) (item_of (i + 1) x ∷ []) in
          record {
            counted = omega (arith, one_more);
            summed = omega (arith, summed, w.document_size-bytes.ensures.size);
            few = omega arith;
            small = omega (arith, w.document_size-bytes.ensures.bound);
          }
      | else-is_live_set w ↦
          let counts : (is_some x.doc && (newest (held ms) x.key == i + 1)) ≡ false = cc in
          let step = live_sets_stay ms i x c.loop-index-test.true c.index-mutations-index.is counts in
          record {
            counted = omega (arith, ap length step);
            summed = omega (arith, ap (sum_by doc_size) step);
            few = omega arith;
            small = omega arith;
          }
    ]
