use Rattle.mg_script.proofs.ScriptLaws.{script_again, script_spelled}
use Rattle.mg_script.proofs.laws.scripts_have_one_spelling.Goals as goal

pub returns-clause-read : goal.returns-clause-read
returns-clause-read c = script_spelled

pub returns-clause-again : goal.returns-clause-again
returns-clause-again c = λ parts lines few s. script_again parts 1 lines few s
