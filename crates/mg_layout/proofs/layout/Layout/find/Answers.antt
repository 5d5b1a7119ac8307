use Rattle.std.proofs.Common.{◌⊎◌, List, IfErr, subst}
use Rattle.std.specs.Prelude.{Any}
use Rattle.mg_sealed.specs.Answers.{IsOutside}
use Rattle.mg_table.specs.Reading.{HasUnfit}
use Rattle.mg_layout.specs.Files.{RunFile}
use Rattle.mg_layout.proofs.layout.Layout.find.Goals as goal

pub returns-clause-refusals : goal.returns-clause-refusals
returns-clause-refusals g c =
    subst (λ (files : List (RunFile g.row.S.Denot)). IfErr c.find_in_runs.result (λ fault. IsOutside fault ⊎ Any (λ (run : RunFile g.row.S.Denot). HasUnfit run.table fault) files))
    c.runs.ensures c.find_in_runs.ensures.refusals
