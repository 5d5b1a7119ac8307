use Rattle.mg_layout.proofs.SeekLaws.{SeeksKey}
use Rattle.mg_layout.proofs.reading.find_in_runs.Given as goal

abbrev pub invariant-loop-run : goal.invariant-loop-run
invariant-loop-run g l = SeeksKey g.F.Files.told (g.F.Files.faults l.fn.port) (g.F.Files.faults l.port) l.runs l.key l.run-index
