use Rattle.std.proofs.Common.{◌≡◌, ◌∷◌, ◌∙◌, List, ℕ, ap, sym, drop, arith}
use Rattle.std.specs.Bool.{◌==◌}
use Rattle.std.specs.List.{slice_split}
use Rattle.mg_script.proofs.Cuts.{cut_at, cut_nowhere}
use Rattle.mg_script.proofs.pieces.cut.Goals as goal

pub returns-in-Some-clause-pieces : goal.returns-in-Some-clause-pieces
returns-in-Some-clause-pieces c =
    let cuts = cut_at c.args.separator c.args.bytes.now c.in-Some.place c.in-Some.ensures.0.high c.in-Some.ensures.1 (λ j l. c.in-Some.ensures.0.before j (omega arith) l) in
    let front = c.split_at.ensures.front in
    let behind : c.split_at-in-Some.result.1.now ≡ drop 1 (drop c.in-Some.place c.args.bytes.now) = c.split_at-in-Some.ensures.back ∙ ap (drop 1) c.split_at.ensures.back in
    cuts ∙ ap (λ (l : List ℕ). l ∷ slice_split (λ b. b == c.args.separator) (drop 1 (drop c.in-Some.place c.args.bytes.now))) (sym front)
    ∙ ap (λ (l : List ℕ). c.split_at.result.0.now ∷ slice_split (λ b. b == c.args.separator) l) (sym behind)

pub returns-in-None-clause-pieces : goal.returns-in-None-clause-pieces
returns-in-None-clause-pieces c = cut_nowhere c.args.separator c.args.bytes.now c.in-None.ensures
