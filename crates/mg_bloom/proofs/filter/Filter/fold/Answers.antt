use Rattle.std.proofs.Common.{◌*◌, ◌<◌, ◌≤◌, ◌^◌, ℕ, List, length, sym, ap, subst, ◌∙◌}
use Rattle.mg_bloom.specs.Bloom.{IsBodyLength, IsBitCountFor}
use Rattle.mg_bloom.specs.Folding.{KeepsWords}
use Rattle.mg_bloom.proofs.BloomLaws.{IsBodyLength-bits}
use Rattle.mg_bloom.proofs.FoldLaws.{folds_to}
use Rattle.mg_bloom.proofs.filter.Filter.fold.Goals as goal

pub fold_to-requires-clause-bytes : goal.fold_to-requires-clause-bytes
fold_to-requires-clause-bytes c = (IsBodyLength-bits c.args.keys c.bits_for.result c.bits_for.ensures).0

pub fold_to-requires-clause-fits : goal.fold_to-requires-clause-fits
fold_to-requires-clause-fits c =
    folds_to c.args.keys c.bits_for.result (length c.self.inside.body.items) c.bits_for.ensures c.self.invariant
    (subst (λ (body : List ℕ). 8 * length body < 2 ^ 31 → 10 * c.args.keys ≤ 8 * length body) (sym c.self.view_is) c.requires.enough)

pub invariant_of-self : goal.invariant_of-self
invariant_of-self c = subst IsBodyLength (sym c.fold_to.ensures.length) (IsBodyLength-bits c.args.keys c.bits_for.result c.bits_for.ensures).0

pub returns-clause-size : goal.returns-clause-size
returns-clause-size c =
    let bits = (IsBodyLength-bits c.args.keys c.bits_for.result c.bits_for.ensures).1 in
    subst (IsBitCountFor c.args.keys) (sym (ap (λ n. 8 * n) c.fold_to.ensures.length ∙ bits)) c.bits_for.ensures

pub returns-clause-words : goal.returns-clause-words
returns-clause-words c = subst (λ (body : List ℕ). KeepsWords body c.fold_to.new.body.items) c.self.view_is c.fold_to.ensures.words
