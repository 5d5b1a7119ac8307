use Rattle.std.proofs.Common.{◌≡◌, drop}
use Rattle.mg_manifest_format.specs.Flaws.{first_flaw, run_flaw}
use Rattle.mg_manifest_format.proofs.flaws.check_runs.Given as goal

-- what is wrong with those that are left is what is wrong with all
abbrev pub invariant-loop-run : goal.invariant-loop-run
invariant-loop-run l = first_flaw (run_flaw l.next) (drop l.run-index l.runs) ≡ first_flaw (run_flaw l.next) l.runs
