use Rattle.std.proofs.Common.{◌≤◌, ◌≡◌, ap, arith, length}
use Rattle.mg_records.specs.Writing.{Filed}
use Rattle.mg_indexed.specs.declared.footer.Footer.{Footer}
use Rattle.mg_records.proofs.LookupLaws.{scan_starts}
use Rattle.mg_records.proofs.PageLaws.{none_from}
use Rattle.mg_records.proofs.file.RecordFile.start.Goals as goal

pub returns-then-after-footer-clause-records : goal.returns-then-after-footer-clause-records
returns-then-after-footer-clause-records g c = λ told records holds.
    scan_starts g.R.Record.kind told c.args.self.now records holds c.args.after c.first_block.result c.first_block.ensures.within c.first_block.ensures.starts

pub returns-else-after-footer-clause-records : goal.returns-else-after-footer-clause-records
returns-else-after-footer-clause-records g c = λ told records holds.
    none_from g.R.Record.kind told c.args.self.now records holds c.args.after c.blocks-else-after-footer.result
    (omega (arith, c.if-after-footer.false, ap (λ (f : Footer). f.high) c.footer.ensures.footer, ap (λ (f : Filed g.row.S.Denot). f.footer.high) c.self.view_is))
    (omega (arith, c.blocks-else-after-footer.ensures.index))
