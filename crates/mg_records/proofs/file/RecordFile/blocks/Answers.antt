use Rattle.std.proofs.Common.{◌∙◌, ap, length}
use Rattle.mg_records.specs.Writing.{Filed}
use Rattle.mg_records.proofs.LookupLaws.{blocks_many}
use Rattle.mg_records.proofs.file.RecordFile.blocks.Goals as goal

pub returns-clause-records : goal.returns-clause-records
returns-clause-records g c = λ told records holds.
    ap length c.handles.ensures.handles ∙ ap (λ (f : Filed g.row.S.Denot). length f.index) c.self.view_is ∙ blocks_many g.R.Record.kind told c.args.self.now records holds
