use Rattle.std.proofs.Common.{◌≡◌, ◌≤◌, ◌+◌, length}
use Rattle.std.specs.List.{All}
use Rattle.mg_script.specs.Script.{IsLine, script_of}
use Rattle.mg_script.proofs.ScriptLemmas.{with_front, rest_of}
use Rattle.mg_script.proofs.script.read_script.Given as goal

abbrev pub invariant-loop-rest : goal.invariant-loop-rest
invariant-loop-rest l = record {
  read : with_front l.lines.items (rest_of l.parts (length l.lines.items + 1) l.rest) ≡ script_of l.parts l.bytes;
  formed : All (IsLine l.parts) l.lines.items;
  few : length l.lines.items + length l.rest ≤ length l.bytes;
}

abbrev pub decreases-loop-rest : goal.decreases-loop-rest
decreases-loop-rest l = length l.rest
