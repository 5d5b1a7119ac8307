use Rattle.std.proofs.Common.{◌⊎◌, inl, inr}
use Rattle.std.specs.Prelude.{Any}
use Rattle.std.proofs.Common.{arith}
use Rattle.std.proofs.lemmas.Grind.{common_steps}
use Rattle.mg_records.specs.Lookup.{IsBlockFault}
use Rattle.mg_records.specs.Writing.{Filed}
use Rattle.mg_sealed.specs.Answers.{IsOutside}
use Rattle.mg_sealed.proofs.AnswerLaws.{err_is}
use Rattle.mg_table.specs.Reading.{HasUnfit}
use Rattle.mg_types.specs.declared.faults.Fault.{Fault}
use Rattle.mg_layout.specs.Files.{LayoutFiles, RunFile}
use Rattle.mg_layout.proofs.layout.Layout.read_by_index.Goals as goal

-- what a fault of a read can be
abbrev IsRefused : {S : Type 0} → LayoutFiles S → Fault → Type 0
IsRefused {S} files fault =
    IsOutside fault ⊎ Any (λ (run : RunFile S). HasUnfit run.table fault) files.runs ⊎ Any (λ (s : Filed S). IsBlockFault s.file.id s.index fault) files.segments

pub returns-in_err-entry-clause-refusals : goal.returns-in_err-entry-clause-refusals
returns-in_err-entry-clause-refusals g c =
    err_is c.from_residual.result c.in_err-entry.field-0.0 (IsRefused c.args.self.now) (grind (arith, common_steps)) (elim c.in_err-entry.ensures.refusals [
      | inl from ↦ inl from
      | inr unfit ↦ inr (inl unfit)
    ])

pub returns-in_err-item-clause-refusals : goal.returns-in_err-item-clause-refusals
returns-in_err-item-clause-refusals g c =
    err_is c.from_residual-in_err-item.result c.in_err-item.field-0.0 (IsRefused c.args.self.now) (grind (arith, common_steps)) (elim c.in_err-item.ensures.refusals [
      | inl from ↦ inl from
      | inr unfit ↦ inr (inr unfit)
    ])
