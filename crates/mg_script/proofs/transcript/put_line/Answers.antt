use Rattle.std.proofs.Common.{◌++◌, ◌∙◌, List, ℕ, ap}
use Rattle.mg_script.proofs.ScriptLaws.{line_in_parts}
use Rattle.mg_script.proofs.transcript.put_line.Goals as goal

pub returns-clause-ok : goal.returns-clause-ok
returns-clause-ok c = c.in_ok-put_parts.ensures ∙ ap (λ (t : List ℕ). c.args.out.now.items ++ t) (line_in_parts c.args.line.now)
