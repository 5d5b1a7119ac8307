use Rattle.std.proofs.Common.{◌≡◌, ◌≢◌, ◌∙◌, ◌+◌, ◌==◌, ℕ, true, false, ap, length, arith, ◌∷◌, []}
use Rattle.std.proofs.lemmas.Bool.{eqb-true, eqb-false}
use Rattle.std.proofs.lemmas.List.{length_push}
use Rattle.std.proofs.lemmas.List.Sums.{sum_by-append}
use Rattle.std.specs.List.{sum_by}
use Rattle.mg_types.specs.Items.{size_of}
use Rattle.mg_model.specs.Mutations.{held, newest, item_of}
use Rattle.mg_model.proofs.ListLemmas.{live_so_far, live_grows, live_stays}
use Rattle.mg_model.proofs.scan.live_sizes.Goals as goal
use Rattle.mg_model.proofs.scan.live_sizes.Goals.{then-is_newest, else-is_newest}

is_same : (a b : ℕ) → (a == b) ≡ true → a ≡ b
is_same a b e = eqb-true a b e

is_other : (a b : ℕ) → (a == b) ≡ false → a ≢ b
is_other a b e = eqb-false a b e

pub loop-index-preserved : goal.loop-index-preserved
loop-index-preserved c =
    let ms = c.args.mutations.now in
    let i = c.loop-index.index in
    let x = c.index-mutations-index.result in
    elim c.if-is_newest.branch [
      | then-is_newest w ↦
          let a : newest (held ms) x.key ≡ i + 1 = is_same (newest (held ms) x.key) (i + 1) (cc) in
          let step = live_grows ms i x c.loop-index-test.true c.index-mutations-index.is a in
          let one_more = ap length step ∙ length_push (live_so_far ms i) (item_of (i + 1) x) in
          let summed = ap (sum_by size_of) step ∙ sum_by-append size_of (live_so_far ms i) (item_of (i + 1) x ∷ []) in
          record {
            counted = omega (arith, one_more);
            summed = omega (arith, summed, w.mutation_size-bytes.ensures.size);
            few = omega arith;
            small = omega (arith, w.mutation_size-bytes.ensures.bound);
          }
      | else-is_newest w ↦
          let a : newest (held ms) x.key ≢ i + 1 = is_other (newest (held ms) x.key) (i + 1) (cc) in
          let step = live_stays ms i x c.loop-index-test.true c.index-mutations-index.is a in
          record {
            counted = omega (arith, ap length step);
            summed = omega (arith, ap (sum_by size_of) step);
            few = omega arith;
            small = omega arith;
          }
    ]
