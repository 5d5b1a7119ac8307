-- Answers to lines, one more at the end.
use Rattle.std.proofs.Common.{◌≡◌, ℕ, List, [], ◌∷◌, ◌++◌, map, ap, subst, sym, ◌∙◌}
use Rattle.std.specs.List.{fold}
use Rattle.std.proofs.lemmas.List.{append_assoc, append-nil, map-append}
use Rattle.std.proofs.lemmas.List.Sums.{fold-append}
use Rattle.std.proofs.lemmas.Grind.{flat_map-append}
use Rattle.mg_model.specs.declared.replies.Answer.{Answer}
use Rattle.mg_script.specs.declared.script.Line.{Line}
use Rattle.mg_model.specs.Placed.{Placed}
use Rattle.mg_serve.specs.Placed.{placed_by, placed_of}
use Rattle.mg_serve.specs.Answers.{AllFit, FitsNext}
use Rattle.mg_serve.specs.Statuses.{answers_status, graver, result_status}
use Rattle.mg_serve.specs.Told.{call_texts, joined, numbered, numbered_answer, numbered_text, NumberedAnswer}
use Rattle.mg_wal.specs.Lists.{Basis}

-- the calls that took a place, with one more
pub placed-push : (basis : Basis) (before : List Placed) (lines : List Line) (answers : List Answer) (line : Line) (answer : Answer) → AllFit basis before lines answers
    → placed_of (lines ++ line ∷ []) (answers ++ answer ∷ []) ≡ placed_of lines answers ++ placed_by line answer
placed-push basis before [] [] line answer e = append-nil (placed_by line answer)
placed-push basis before [] (a ∷ answers) line answer e = absurd e
placed-push basis before (l ∷ lines) [] line answer e = absurd e
placed-push basis before (l ∷ lines) (a ∷ answers) line answer e =
    ap (λ (ps : List Placed). placed_by l a ++ ps) (placed-push basis (before ++ placed_by l a) lines answers line answer e.1) ∙ sym (append_assoc (placed_by l a) (placed_of lines answers) (placed_by line answer))

-- one answer more fits
pub fit-push : (basis : Basis) (before : List Placed) (lines : List Line) (answers : List Answer) (line : Line) (answer : Answer) → AllFit basis before lines answers → FitsNext basis (before ++ placed_of lines answers) line answer
    → AllFit basis before (lines ++ line ∷ []) (answers ++ answer ∷ [])
fit-push basis before [] [] line answer e f = (subst (λ (ps : List Placed). FitsNext basis ps line answer) (append-nil before) f, tt)
fit-push basis before [] (a ∷ answers) line answer e f = absurd e
fit-push basis before (l ∷ lines) [] line answer e f = absurd e
fit-push basis before (l ∷ lines) (a ∷ answers) line answer e f =
    (e.0, fit-push basis (before ++ placed_by l a) lines answers line answer e.1 (subst (λ (ps : List Placed). FitsNext basis ps line answer) (sym (append_assoc before (placed_by l a) (placed_of lines answers))) f))

numbered-push : (basis : Basis) (before : List Placed) (earlier lines : List Line) (answers : List Answer) (line : Line) (answer : Answer) → AllFit basis before lines answers
    → numbered earlier (lines ++ line ∷ []) (answers ++ answer ∷ []) ≡ numbered earlier lines answers ++ numbered_answer (earlier ++ lines) line answer ∷ []
numbered-push basis before earlier [] [] line answer e = ap (λ (ls : List Line). numbered_answer ls line answer ∷ []) (sym (append-nil earlier))
numbered-push basis before earlier [] (a ∷ answers) line answer e = absurd e
numbered-push basis before earlier (l ∷ lines) [] line answer e = absurd e
numbered-push basis before earlier (l ∷ lines) (a ∷ answers) line answer e =
    ap (λ (ts : List NumberedAnswer). numbered_answer earlier l a ∷ ts) (numbered-push basis (before ++ placed_by l a) (earlier ++ l ∷ []) lines answers line answer e.1
    ∙ ap (λ (ls : List Line). numbered (earlier ++ l ∷ []) lines answers ++ numbered_answer ls line answer ∷ []) (append_assoc earlier (l ∷ []) lines))

-- one line more is written
pub texts-push : (basis : Basis) (lines : List Line) (answers : List Answer) (line : Line) (answer : Answer) → AllFit basis [] lines answers
    → call_texts (lines ++ line ∷ []) (answers ++ answer ∷ []) ≡ call_texts lines answers ++ numbered_text (numbered_answer lines line answer) ∷ []
texts-push basis lines answers line answer e = ap (map numbered_text) (numbered-push basis [] [] lines answers line answer e) ∙ map-append numbered_text (numbered [] lines answers) (numbered_answer lines line answer ∷ [])

pub joined-push : (pieces : List (List ℕ)) (piece : List ℕ) → joined (pieces ++ piece ∷ []) ≡ joined pieces ++ piece
joined-push pieces piece = flat_map-append (λ (p : List ℕ). p) pieces (piece ∷ []) ∙ ap (λ (t : List ℕ). joined pieces ++ t) (append-nil piece)

-- one status more
pub status-push : (answers : List Answer) (answer : Answer) → answers_status (answers ++ answer ∷ []) ≡ graver (answers_status answers) (result_status answer.result)
status-push answers answer = ap (fold graver 0) (map-append (λ (a : Answer). result_status a.result) answers (answer ∷ [])) ∙ fold-append graver 0 (map (λ (a : Answer). result_status a.result) answers) (result_status answer.result ∷ [])
