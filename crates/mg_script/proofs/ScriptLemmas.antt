-- Reading a script line by line, as a loop does.
use Rattle.std.proofs.Common.{◌≡◌, ℕ, ◌+◌, ◌<◌, List, [], ◌∷◌, ◌++◌, length, Bool, false, Result, Ok, Err, refl, ap, sym, ◌∙◌, arith}
use Rattle.std.specs.Bool.{◌==◌, if◌then◌else◌}
use Rattle.std.specs.List.{slice_split, join_with_byte}
use Rattle.std.proofs.lemmas.List.{append_assoc, append-nil, length_push}
use Rattle.std.proofs.lemmas.List.Splits.{length-slice_split, join_with_byte-slice_split}
use Rattle.std.proofs.lemmas.Bool.Decides.{nat_tests}
use Rattle.mg_types.specs.declared.faults.Why.{Why}
use Rattle.mg_types.specs.declared.faults.Why.TheVariants.{Ending}
use Rattle.mg_script.specs.declared.script.Line.{Line}
use Rattle.mg_script.specs.declared.fields.LineError.{LineError}
use Rattle.mg_script.specs.declared.fields.LineError.TheVariants as errors
use Rattle.mg_script.specs.Script.{◌>>=◌, fields_of, line_of, lines_of, numbered, Fails, Refuses, located}

-- the lines read so far, and those still to be read
abbrev pub with_front : List Line → Result (List Line) (ℕ × Why) → Result (List Line) (ℕ × Why)
with_front front read = read >>= λ lines. Ok (front ++ lines)

-- what reading the pieces of some bytes gives, where the first has the number n
abbrev pub rest_of : ℕ → ℕ → List ℕ → Result (List Line) (ℕ × Why)
rest_of parts n bytes = lines_of parts n (slice_split (λ b. b == 10) bytes)

pub at_least_one : (bytes : List ℕ) → 0 < length (slice_split (λ b. b == 10) bytes)
at_least_one bytes = omega (arith, length-slice_split (λ b. b == 10) bytes)

-- a piece with more pieces behind it
pub first_of : (parts n : ℕ) (piece : List ℕ) (pieces : List (List ℕ)) → 0 < length pieces
    → lines_of parts n (piece ∷ pieces) ≡ (numbered n (line_of parts (fields_of piece)) >>= λ line. lines_of parts (n + 1) pieces >>= λ lines. Ok (line ∷ lines))
unfolding lines_of
first_of parts n piece [] l = absurd (omega arith)
first_of parts n piece (next ∷ pieces) l = refl

regroup : (front : List Line) (line : Line) (read : Result (List Line) (ℕ × Why)) → with_front front (read >>= λ lines. Ok (line ∷ lines)) ≡ with_front (front ++ line ∷ []) read
regroup front line (Ok lines) = ap Ok (sym (append_assoc front (line ∷ []) lines))
regroup front line (Err e) = refl

-- what the rest is, by its first piece
rest_by_piece : (parts n : ℕ) (rest behind piece : List ℕ) → slice_split (λ b. b == 10) rest ≡ piece ∷ slice_split (λ b. b == 10) behind
    → rest_of parts n rest ≡ (numbered n (line_of parts (fields_of piece)) >>= λ line. rest_of parts (n + 1) behind >>= λ lines. Ok (line ∷ lines))
rest_by_piece parts n rest behind piece cut = ap (lines_of parts n) cut ∙ first_of parts n piece (slice_split (λ b. b == 10) behind) (at_least_one behind)

-- one line more
pub reads_on : (parts : ℕ) (front : List Line) (rest behind piece : List ℕ) (line : Line) (total : Result (List Line) (ℕ × Why)) → slice_split (λ b. b == 10) rest ≡ piece ∷ slice_split (λ b. b == 10) behind → line_of parts (fields_of piece) ≡ Ok line
    → with_front front (rest_of parts (length front + 1) rest) ≡ total → with_front (front ++ line ∷ []) (rest_of parts (length (front ++ line ∷ []) + 1) behind) ≡ total
reads_on parts front rest behind piece line total cut read so_far =
    ap (λ n. with_front (front ++ line ∷ []) (rest_of parts (n + 1) behind)) (length_push front line)
    ∙ sym (regroup front line (rest_of parts (length front + 1 + 1) behind))
    ∙ ap (λ (r : Result Line Why). with_front front (numbered (length front + 1) r >>= λ line. rest_of parts (length front + 1 + 1) behind >>= λ lines. Ok (line ∷ lines))) (sym read)
    ∙ sym (ap (with_front front) (rest_by_piece parts (length front + 1) rest behind piece cut))
    ∙ so_far

-- a line that is no call
pub fails_at : (parts n : ℕ) (front : List Line) (rest behind piece : List ℕ) (error : LineError) (total : Result (List Line) (ℕ × Why)) → slice_split (λ b. b == 10) rest ≡ piece ∷ slice_split (λ b. b == 10) behind → Fails error (line_of parts (fields_of piece)) → n ≡ length front + 1
    → with_front front (rest_of parts (length front + 1) rest) ≡ total → Refuses (located n error) total
fails_at parts n front rest behind piece errors.NoMemory total cut read e so_far = tt
fails_at parts n front rest behind piece (errors.Wrong why) total cut read e so_far =
    sym so_far
    ∙ ap (with_front front) (rest_by_piece parts (length front + 1) rest behind piece cut)
    ∙ ap (λ (r : Result Line Why). with_front front (numbered (length front + 1) r >>= λ line. rest_of parts (length front + 1 + 1) behind >>= λ lines. Ok (line ∷ lines))) read
    ∙ ap (λ k. Err (k, why)) (sym e)

-- the last piece
pub last_of : (parts n : ℕ) (rest : List ℕ) → lines_of parts n (rest ∷ []) ≡ if length rest == 0 then Ok [] else Err (n, Ending)
unfolding lines_of
last_of parts n rest = refl

-- a last line without its line feed
pub unended : (parts n : ℕ) (front : List Line) (rest piece : List ℕ) (total : Result (List Line) (ℕ × Why)) → slice_split (λ b. b == 10) rest ≡ piece ∷ [] → 0 < length rest → n ≡ length front + 1
    → with_front front (rest_of parts (length front + 1) rest) ≡ total → total ≡ Err (n, Ending)
unended parts n front rest piece total cut l e so_far =
    let whole : piece ≡ rest = sym (ap (join_with_byte 10) cut) ∙ join_with_byte-slice_split 10 rest in
    sym so_far
    ∙ ap (λ (pieces : List (List ℕ)). with_front front (lines_of parts (length front + 1) pieces)) cut
    ∙ ap (with_front front) (last_of parts (length front + 1) piece)
    ∙ ap (λ (b : Bool). with_front front (if b then Ok [] else Err (length front + 1, Ending))) (not_empty (length piece) (omega (arith, ap length whole)))
    ∙ ap (λ k. Err (k, Ending)) (sym e)
  where
    not_empty : (n : ℕ) → 0 < n → (n == 0) ≡ false
    not_empty n l = grind (arith, nat_tests)

-- the end of the script
pub all_read : (parts : ℕ) (front : List Line) (rest : List ℕ) (total : Result (List Line) (ℕ × Why)) → rest ≡ [] → with_front front (rest_of parts (length front + 1) rest) ≡ total → total ≡ Ok front
all_read parts front rest total e so_far =
    sym so_far
    ∙ ap (λ (r : List ℕ). with_front front (rest_of parts (length front + 1) r)) e
    ∙ ap (with_front front) (last_of parts (length front + 1) [])
    ∙ ap Ok (append-nil front)
