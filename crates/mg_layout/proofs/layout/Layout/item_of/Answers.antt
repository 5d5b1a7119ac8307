use Rattle.std.proofs.Common.{◌⊎◌, List, IfErr, subst}
use Rattle.std.specs.Prelude.{Any}
use Rattle.mg_records.specs.Lookup.{IsBlockFault}
use Rattle.mg_records.specs.Writing.{Filed}
use Rattle.mg_sealed.specs.Answers.{IsOutside}
use Rattle.mg_layout.proofs.layout.Layout.item_of.Goals as goal

pub returns-clause-refusals : goal.returns-clause-refusals
returns-clause-refusals g c =
    subst (λ (files : List (Filed g.row.S.Denot)). IfErr c.item_in_segments.result (λ fault. IsOutside fault ⊎ Any (λ (s : Filed g.row.S.Denot). IsBlockFault s.file.id s.index fault) files))
    c.segments.ensures c.item_in_segments.ensures.refusals
