use Rattle.std.proofs.Common.{List, ℕ, sym, subst}
use Rattle.std.proofs.lemmas.Result.{IfOk-weaker}
use Rattle.mg_bloom.specs.Folding.{KeepsWords}
use Rattle.mg_table.proofs.writer.folded.Goals as goal

pub returns-clause-words : goal.returns-clause-words
returns-clause-words c =
    IfOk-weaker c.fitted.result _ _ (λ folded same. subst (λ (body : List ℕ). KeepsWords c.args.filter body) (sym same) c.fold.ensures.words) c.fitted.ensures
