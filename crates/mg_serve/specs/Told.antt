-- What clients are told, and the lines of a run.
use Rattle.std.specs.Prelude.{◌≡◌, ℕ, zero, suc, ◌+◌, List, [], ◌∷◌, ◌++◌, map, ◌==◌}
use Rattle.std.specs.Option.{option_to_list}
use Rattle.std.specs.List.{count_by, filter, flat_map, zip}
use Rattle.mg_model.specs.declared.replies.Answer.{Answer}
use Rattle.mg_model.specs.State.{length_of}
use Rattle.mg_model.specs.Placed.{calls_in, state_in, Opening, Placed}
use Rattle.mg_script.specs.declared.script.Line.{Line}
use Rattle.mg_script.specs.Transcript.{answer_line, end_line}

-- which of its client's calls a line is, counted from 1, where these lines came before it
abbrev pub call_number : List Line → Line → ℕ
call_number earlier line = count_by (λ other. other.client == line.client) earlier + 1

-- an answer with what its line begins with: the client, which of the client's calls it answers, and the partition
pub record NumberedAnswer : Type 0 where
  pub client : ℕ
  pub number : ℕ
  pub part : ℕ
  pub answer : Answer

-- the answer to a line, where these lines came before it
abbrev pub numbered_answer : List Line → Line → Answer → NumberedAnswer
numbered_answer earlier line answer = record { client = line.client; number = call_number earlier line; part = line.part; answer = answer }

-- the answers to some lines, numbered, where some lines came before
abbrev pub numbered : List Line → List Line → List Answer → List NumberedAnswer
numbered earlier [] answers = []
numbered earlier (line ∷ lines) [] = []
numbered earlier (line ∷ lines) (answer ∷ answers) = numbered_answer earlier line answer ∷ numbered (earlier ++ line ∷ []) lines answers

-- the line of an answer
abbrev pub numbered_text : NumberedAnswer → List ℕ
numbered_text it = answer_line it.client it.number it.part it.answer

-- of numbered answers those to one client
abbrev pub told_by : List NumberedAnswer → ℕ → List NumberedAnswer
told_by answers client = filter (λ it. it.client == client) answers

-- the lines of one client, each with its answer
abbrev pub answered_of : List Line → List Answer → ℕ → List (Line × Answer)
answered_of lines answers client = filter (λ it. it.0.client == client) (zip lines answers)

-- answers to lines, numbered one after the other, the first by this number
abbrev pub counted_from : ℕ → List (Line × Answer) → List NumberedAnswer
counted_from number [] = []
counted_from number (it ∷ its) = record { client = it.0.client; number = number; part = it.0.part; answer = it.1 } ∷ counted_from (number + 1) its

-- What a client is told: an answer to each of its lines, in their order, numbered from 1.
pub record IsTold (lines : List Line) (answers : List Answer) (client : ℕ) : Type 0 where
  pub order : told_by (numbered [] lines answers) client ≡ counted_from 1 (answered_of lines answers client)
  pub each : map (λ it. it.0) (answered_of lines answers client) ≡ filter (λ line. line.client == client) lines

-- the places that a client is shown of one partition, in the order of its lines
abbrev pub places_shown : List NumberedAnswer → ℕ → ℕ → List ℕ
places_shown answers client part = flat_map (λ it. option_to_list it.answer.place) (filter (λ it. it.part == part) (told_by answers client))

-- the lines of the answers, one by one
abbrev pub call_texts : List Line → List Answer → List (List ℕ)
call_texts lines answers = map numbered_text (numbered [] lines answers)

-- the end line of a partition
abbrev pub end_text : Opening → List Placed → ℕ → List ℕ
end_text opening placed part = let state = state_in opening placed part in end_line part (calls_in placed part) (length_of state) state.epoch

-- the end lines of the first partitions, in rising order, one by one
abbrev pub end_texts : Opening → List Placed → ℕ → List (List ℕ)
end_texts opening placed zero = []
end_texts opening placed (suc part) = end_texts opening placed part ++ end_text opening placed part ∷ []

-- the lines of a run one by one: those of the numbered answers, and then the end lines of the first partitions
abbrev pub texts : Opening → List Placed → List NumberedAnswer → ℕ → List (List ℕ)
texts opening placed answers ends = map numbered_text answers ++ end_texts opening placed ends

-- texts, one behind the other
abbrev pub joined : List (List ℕ) → List ℕ
joined pieces = flat_map (λ piece. piece) pieces
