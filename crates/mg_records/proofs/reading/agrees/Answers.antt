use Rattle.mg_records.proofs.HandleLaws.{agrees_where}
use Rattle.mg_records.proofs.reading.agrees.Goals as goal

pub returns-then-handles-footer : goal.returns-then-handles-footer
returns-then-handles-footer g = agrees_where g.args.footer.now g.args.handles.now (record { first = 0; at = 0; len = 0 }) g.requires g.if-handles-footer.true
