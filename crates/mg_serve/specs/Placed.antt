-- What lines and their answers enter among the placed calls.
use Rattle.std.specs.Prelude.{List, [], ◌∷◌, ◌++◌, map}
use Rattle.mg_model.specs.declared.replies.Answer.{Answer}
use Rattle.mg_model.specs.Fits.{entry_of}
use Rattle.mg_model.specs.Placed.{Placed}
use Rattle.mg_script.specs.declared.script.Line.{Line}

-- what a line and its answer enter among the placed calls: nothing where the call has no place
abbrev pub placed_by : Line → Answer → List Placed
placed_by line answer = map (λ e. record { part = line.part; client = e.0; call = e.1 }) (entry_of line.client line.call answer)

-- the placed calls of some lines, by their answers
abbrev pub placed_of : List Line → List Answer → List Placed
placed_of [] answers = []
placed_of (line ∷ lines) [] = []
placed_of (line ∷ lines) (answer ∷ answers) = placed_by line answer ++ placed_of lines answers
