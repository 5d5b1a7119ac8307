-- What a client is told is numbered in the order of its lines.
use Rattle.std.proofs.Common.{◌≡◌, ℕ, ◌+◌, List, [], ◌∷◌, ◌++◌, map, Bool, true, false, cond, refl, add-zero, ap, ◌∙◌}
use Rattle.std.specs.Bool.{◌==◌}
use Rattle.std.specs.List.{count_by, filter}
use Rattle.std.proofs.lemmas.Bool.{eqb-true}
use Rattle.mg_model.specs.declared.replies.Answer.{Answer}
use Rattle.mg_script.specs.declared.script.Line.{Line}
use Rattle.mg_model.specs.Placed.{Placed}
use Rattle.mg_serve.specs.Placed.{placed_by}
use Rattle.mg_serve.specs.Answers.{AllFit}
use Rattle.mg_wal.specs.Lists.{Basis}
use Rattle.mg_serve.specs.Told.{answered_of, counted_from, IsTold, numbered, numbered_answer, NumberedAnswer, told_by}
use Rattle.mg_serve.proofs.Counts.{count-push}

-- how many of some lines are a client's
abbrev calls_by : List Line → ℕ → ℕ
calls_by lines client = count_by (λ (other : Line). other.client == client) lines

told_from : (earlier lines : List Line) (answers : List Answer) (client : ℕ) → told_by (numbered earlier lines answers) client ≡ counted_from (calls_by earlier client + 1) (answered_of lines answers client)
told_from earlier [] answers client = refl
told_from earlier (line ∷ lines) [] client = refl
told_from earlier (line ∷ lines) (answer ∷ answers) client = by_client (line.client == client) refl (told_from (earlier ++ line ∷ []) lines answers client)
  where
    behind : List NumberedAnswer
    behind = told_by (numbered (earlier ++ line ∷ []) lines answers) client

    by_client : (b : Bool) → (line.client == client) ≡ b → behind ≡ counted_from (calls_by (earlier ++ line ∷ []) client + 1) (answered_of lines answers client)
        → cond b (numbered_answer earlier line answer ∷ behind) behind ≡ counted_from (calls_by earlier client + 1) (cond b ((line, answer) ∷ answered_of lines answers client) (answered_of lines answers client))
    by_client true e later =
        let more : calls_by (earlier ++ line ∷ []) client ≡ calls_by earlier client + 1 = count-push (λ (other : Line). other.client == client) earlier line ∙ ap (λ (b : Bool). calls_by earlier client + cond b 1 0) e in
        ap (λ (k : ℕ). record { client = line.client; number = calls_by earlier k + 1; part = line.part; answer = answer } ∷ behind) (eqb-true line.client client e)
        ∙ ap (λ (l : List NumberedAnswer). record { client = line.client; number = calls_by earlier client + 1; part = line.part; answer = answer } ∷ l) (later ∙ ap (λ (n : ℕ). counted_from (n + 1) (answered_of lines answers client)) more)
    by_client false e later =
        let same : calls_by (earlier ++ line ∷ []) client ≡ calls_by earlier client = count-push (λ (other : Line). other.client == client) earlier line ∙ ap (λ (b : Bool). calls_by earlier client + cond b 1 0) e ∙ add-zero (calls_by earlier client) in
        later ∙ ap (λ (n : ℕ). counted_from (n + 1) (answered_of lines answers client)) same

each_from : (basis : Basis) (before : List Placed) (lines : List Line) (answers : List Answer) (client : ℕ) → AllFit basis before lines answers → map (λ it. it.0) (answered_of lines answers client) ≡ filter (λ line. line.client == client) lines
each_from basis before [] [] client fit = refl
each_from basis before [] (answer ∷ answers) client fit = absurd fit
each_from basis before (line ∷ lines) [] client fit = absurd fit
each_from basis before (line ∷ lines) (answer ∷ answers) client fit = by_client (line.client == client) (each_from basis (before ++ placed_by line answer) lines answers client fit.1)
  where
    by_client : (b : Bool) → map (λ (it : Line × Answer). it.0) (answered_of lines answers client) ≡ filter (λ (line : Line). line.client == client) lines
        → map (λ (it : Line × Answer). it.0) (cond b ((line, answer) ∷ answered_of lines answers client) (answered_of lines answers client)) ≡ cond b (line ∷ filter (λ (line : Line). line.client == client) lines) (filter (λ (line : Line). line.client == client) lines)
    by_client true later = ap (λ (l : List Line). line ∷ l) later
    by_client false later = later

pub is_told : (basis : Basis) (lines : List Line) (answers : List Answer) (client : ℕ) → AllFit basis [] lines answers → IsTold lines answers client
is_told basis lines answers client fit = record { order = told_from [] lines answers client; each = each_from basis [] lines answers client fit }
