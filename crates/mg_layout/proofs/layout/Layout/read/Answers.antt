use Rattle.std.proofs.Common.{ℕ, Option, Ok, subst}
use Rattle.mg_sealed.specs.Answers.{Answers}
use Rattle.mg_types.specs.declared.documents.Doc.{Doc}
use Rattle.mg_layout.proofs.layout.Layout.read.Goals as goal

pub returns-clause-list : goal.returns-clause-list
returns-clause-list g c tells l m holds stands =
    subst (λ (o : Option (ℕ × Doc)). Answers (Ok o) c.read_by_index.result) (c.reads_by_runs_are_those_of_the_list.ensures.document l m c.args.key.now stands)
    (c.read_by_index.ensures.files tells l holds)
