use Rattle.std.proofs.Common.{List, ℕ, length, Option, Bor, sym, ap, ◌∙◌}
use Rattle.std.specs.Option.{option_copied}
use Rattle.mg_records.specs.Contents.{doc_part}
use Rattle.mg_records.specs.ContentsLaws.{length-doc_part}
use Rattle.mg_records.proofs.contents.doc_part_len.Goals as goal

pub returns-in-Some-clause-exact : goal.returns-in-Some-clause-exact
returns-in-Some-clause-exact c = sym (length-doc_part c.in-Some.doc.now) ∙ ap (λ (o : Option (Bor (List ℕ))). length (doc_part (option_copied o))) (sym c.in-Some.is)
