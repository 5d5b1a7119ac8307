use Rattle.std.proofs.Common.{◌≡◌, drop}
use Rattle.mg_manifest_format.specs.Flaws.{marks_flaw}
use Rattle.mg_manifest_format.proofs.flaws.check_marks.Given as goal

-- what is wrong with those that are left is what is wrong with all
abbrev pub invariant-loop-mark : goal.invariant-loop-mark
invariant-loop-mark l = marks_flaw l.next l.flushed l.least (drop l.mark-index l.marks) ≡ marks_flaw l.next l.flushed 0 l.marks
