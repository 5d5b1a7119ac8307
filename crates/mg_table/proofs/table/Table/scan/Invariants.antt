use Rattle.mg_table.proofs.ScanLaws.{ScansTo}
use Rattle.mg_table.proofs.table.Table.scan.Given as goal

abbrev pub invariant-loop-number : goal.invariant-loop-number
invariant-loop-number g l = ScansTo g.F.Files.told l.self (g.F.Files.faults l.fn.port) (g.F.Files.faults l.port) l.number l.entries l.len
