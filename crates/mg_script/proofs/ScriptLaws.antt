-- Scripts: each has one spelling, and is read back from it.
use Rattle.std.proofs.Common.{◌≡◌, ℕ, ◌+◌, ◌/◌, ◌%◌, ◌^◌, ◌<◌, ◌≤◌, List, [], ◌∷◌, ◌++◌, length, Bool, true, false, ◌&&◌, cond, Result, Ok, Err, refl, ap, sym, ◌∙◌, arith}
use Rattle.std.specs.Bool.{◌==◌, if◌then◌else◌}
use Rattle.std.specs.Char.{is_ascii_digit}
use Rattle.std.specs.Fmt.{decimal}
use Rattle.std.specs.List.{AllByRecursion, flat_map, join_with_byte, list_all, onto_first, slice_split}
use Rattle.std.proofs.lemmas.List.{append-nil, append_assoc, nil_from_length}
use Rattle.std.proofs.lemmas.List.Splits.{join_with_byte-slice_split}
use Rattle.std.proofs.lemmas.Fmt.{digits_decimal}
use Rattle.std.proofs.lemmas.Bool.{eqb-true}
use Rattle.std.proofs.lemmas.Bool.Decides.{nat_tests}
use Rattle.mg_model.specs.declared.calls.Call.{Call}
use Rattle.mg_model.specs.declared.calls.Call.TheVariants as call
use Rattle.mg_types.specs.declared.faults.Why.{Why}
use Rattle.mg_types.specs.declared.faults.Why.TheVariants.{Ending}
use Rattle.mg_script.specs.declared.script.Line.{Line}
use Rattle.mg_script.specs.Tokens.{is_plain, hex_digit, byte_text, token_of}
use Rattle.mg_script.specs.Script.{◌>>=◌, fields_of, line_of, lines_of, numbered, script_of}
use Rattle.mg_script.specs.Lines.{verb_word, call_fields, line_fields, line_parts, line_text, script_text, IsAskable, IsSpellable}
use Rattle.mg_script.proofs.Numbers.{numerals}
use Rattle.mg_script.proofs.FieldLaws.{line_again, line_spelled}
use Rattle.mg_script.proofs.ScriptLemmas.{at_least_one, first_of, last_of}

-- no byte of some text is this one
Free : ℕ → List ℕ → Type 0
Free c text = AllByRecursion (λ b. (b == c) ≡ false) text

-- no byte of some text is a blank
Solid : List ℕ → Type 0
Solid text = AllByRecursion (λ b. 33 ≤ b) text

solid_free : (c : ℕ) (text : List ℕ) → c < 33 → Solid text → Free c text
unfolding Free Solid
solid_free c [] l s = tt
solid_free c (b ∷ text) l s = (other b (omega (arith, s.0)), solid_free c text l s.1)
  where
    other : (b : ℕ) → c < b → (b == c) ≡ false
    other b h = grind (arith, nat_tests)

-- a text up to its first separator, and one without any
split_at_free : (c : ℕ) (text rest : List ℕ) → Free c text → slice_split (λ b. b == c) (text ++ c ∷ rest) ≡ text ∷ slice_split (λ b. b == c) rest
unfolding Free
split_at_free c [] rest f = ap (λ (t : Bool). cond t ([] ∷ slice_split (λ b. b == c) rest) (onto_first c (slice_split (λ b. b == c) rest))) (same c)
  where
    same : (c : ℕ) → (c == c) ≡ true
    same c = grind (arith, nat_tests)
split_at_free c (b ∷ text) rest f =
    ap (λ (t : Bool). cond t ([] ∷ slice_split (λ b. b == c) (text ++ c ∷ rest)) (onto_first b (slice_split (λ b. b == c) (text ++ c ∷ rest)))) f.0
    ∙ ap (onto_first b) (split_at_free c text rest f.1)

split_free : (c : ℕ) (text : List ℕ) → Free c text → slice_split (λ b. b == c) text ≡ text ∷ []
unfolding Free
split_free c [] f = refl
split_free c (b ∷ text) f = ap (λ (t : Bool). cond t ([] ∷ slice_split (λ b. b == c) text) (onto_first b (slice_split (λ b. b == c) text))) f.0 ∙ ap (onto_first b) (split_free c text f.1)

-- fields without separators are what their join is cut into
split_join : (c : ℕ) (field : List ℕ) (fields : List (List ℕ)) → Free c field → AllByRecursion (Free c) fields → slice_split (λ b. b == c) (join_with_byte c (field ∷ fields)) ≡ field ∷ fields
split_join c field [] f fs = split_free c field f
split_join c field (next ∷ fields) f fs = split_at_free c field (join_with_byte c (next ∷ fields)) f ∙ ap (λ (l : List (List ℕ)). field ∷ l) (split_join c next fields fs.0 fs.1)

free_append : (c : ℕ) (a b : List ℕ) → Free c a → Free c b → Free c (a ++ b)
unfolding Free
free_append c [] b f g = g
free_append c (x ∷ a) b f g = (f.0, free_append c a b f.1 g)

free_join : (c d : ℕ) (field : List ℕ) (fields : List (List ℕ)) → (c == d) ≡ false → Free d field → AllByRecursion (Free d) fields → Free d (join_with_byte c (field ∷ fields))
unfolding Free
free_join c d field [] n f fs = f
free_join c d field (next ∷ fields) n f fs = free_append d field (c ∷ join_with_byte c (next ∷ fields)) f (n, free_join c d next fields n fs.0 fs.1)

-- decimal numbers, tokens and verbs have no blanks
digits_solid : (ds : List ℕ) → list_all is_ascii_digit ds ≡ true → Solid ds
unfolding Solid
digits_solid [] e = tt
digits_solid (d ∷ ds) e = let p = both (is_ascii_digit d) (list_all is_ascii_digit ds) e in (digit d p.0, digits_solid ds p.1)
  where
    both : (a b : Bool) → (a && b) ≡ true → (a ≡ true) × (b ≡ true)
    both true b e = (refl, e)
    both false b e = absurd (cc)

    digit : (d : ℕ) → is_ascii_digit d ≡ true → 33 ≤ d
    digit d e = grind (arith, nat_tests)

decimal_solid : (n : ℕ) → n < 2 ^ 64 → Solid (decimal n)
decimal_solid n l = digits_solid (decimal n) (digits_decimal numerals n l)

solid_append : (a b : List ℕ) → Solid a → Solid b → Solid (a ++ b)
unfolding Solid
solid_append [] b s t = t
solid_append (x ∷ a) b s t = (s.0, solid_append a b s.1 t)

byte_solid : (b : ℕ) → Solid (byte_text b)
unfolding Solid byte_text
byte_solid b = by_plain (is_plain b) refl
  where
    plain_high : (b : ℕ) → is_plain b ≡ true → 33 ≤ b
    plain_high b e = grind (arith, nat_tests)

    digit_high : (n : ℕ) → 33 ≤ hex_digit n
    digit_high n = grind (arith, nat_tests)

    by_plain : (p : Bool) → is_plain b ≡ p → AllByRecursion (λ x. 33 ≤ x) (if p then b ∷ [] else 37 ∷ hex_digit (b / 16) ∷ hex_digit (b % 16) ∷ [])
    by_plain true e = (plain_high b e, tt)
    by_plain false e = (omega arith, (digit_high (b / 16), (digit_high (b % 16), tt)))

bytes_solid : (bytes : List ℕ) → Solid (flat_map byte_text bytes)
unfolding Solid
bytes_solid [] = tt
bytes_solid (b ∷ bytes) = solid_append (byte_text b) (flat_map byte_text bytes) (byte_solid b) (bytes_solid bytes)

token_solid : (bytes : List ℕ) → Solid (token_of bytes)
unfolding Solid token_of
token_solid bytes = by_length (length bytes == 0)
  where
    by_length : (t : Bool) → AllByRecursion (λ x. 33 ≤ x) (if t then 37 ∷ [] else flat_map byte_text bytes)
    by_length true = (omega arith, tt)
    by_length false = bytes_solid bytes

verb_solid : (c : Call) → Solid (verb_word c)
unfolding Solid
verb_solid (call.Set key doc) = (omega arith, (omega arith, (omega arith, tt)))
verb_solid (call.Del key) = (omega arith, (omega arith, (omega arith, tt)))
verb_solid (call.Get key) = (omega arith, (omega arith, (omega arith, tt)))
verb_solid (call.Feed epoch after limit) = (omega arith, (omega arith, (omega arith, (omega arith, tt))))
verb_solid call.Stats = (omega arith, (omega arith, (omega arith, (omega arith, (omega arith, tt)))))
verb_solid call.Mark = (omega arith, (omega arith, (omega arith, (omega arith, tt))))
verb_solid (call.Forget mark) = (omega arith, (omega arith, (omega arith, (omega arith, (omega arith, (omega arith, tt))))))
verb_solid (call.Rollback to) = (omega arith, (omega arith, (omega arith, (omega arith, (omega arith, (omega arith, (omega arith, (omega arith, tt))))))))
verb_solid call.Clear = (omega arith, (omega arith, (omega arith, (omega arith, (omega arith, tt)))))
verb_solid call.Sync = (omega arith, (omega arith, (omega arith, (omega arith, tt))))
verb_solid (call.Compact through) = (omega arith, (omega arith, (omega arith, (omega arith, (omega arith, (omega arith, (omega arith, tt)))))))

call_solid : (c : Call) → IsAskable c → AllByRecursion Solid (call_fields c)
call_solid (call.Set key doc) k = (token_solid key, (token_solid doc, tt))
call_solid (call.Del key) k = (token_solid key, tt)
call_solid (call.Get key) k = (token_solid key, tt)
call_solid (call.Feed epoch after limit) k = (decimal_solid epoch k.0, (decimal_solid after k.1, (decimal_solid limit (omega (arith, k.3)), tt)))
call_solid call.Sync k = tt
call_solid call.Stats k = tt
call_solid call.Mark k = absurd k
call_solid (call.Forget mark) k = absurd k
call_solid (call.Rollback to) k = absurd k
call_solid call.Clear k = absurd k
call_solid (call.Compact through) k = absurd k

all_free : (c : ℕ) (fields : List (List ℕ)) → c < 33 → AllByRecursion Solid fields → AllByRecursion (Free c) fields
all_free c [] l s = tt
all_free c (field ∷ fields) l s = (solid_free c field l s.0, all_free c fields l s.1)

-- the fields behind the client's
later_solid : (parts : ℕ) (line : Line) → parts < 2 ^ 16 → IsSpellable parts line → AllByRecursion Solid (verb_word line.call ∷ decimal line.part ∷ call_fields line.call)
later_solid parts line few s = (verb_solid line.call, (decimal_solid line.part (omega (arith, s.part)), call_solid line.call s.call))

-- a line without its line feed is cut into its fields, and has no line feed in it
fields_back : (parts : ℕ) (line : Line) → parts < 2 ^ 16 → IsSpellable parts line → fields_of (join_with_byte 32 (line_fields line)) ≡ line_fields line
fields_back parts line few s =
    split_join 32 (decimal line.client) (verb_word line.call ∷ decimal line.part ∷ call_fields line.call) (solid_free 32 (decimal line.client) (omega arith) (decimal_solid line.client (omega (arith, s.client)))) (all_free 32 (verb_word line.call ∷ decimal line.part ∷ call_fields line.call) (omega arith) (later_solid parts line few s))

no_line_feed : (parts : ℕ) (line : Line) → parts < 2 ^ 16 → IsSpellable parts line → Free 10 (join_with_byte 32 (line_fields line))
no_line_feed parts line few s =
    free_join 32 10 (decimal line.client) (verb_word line.call ∷ decimal line.part ∷ call_fields line.call) other (solid_free 10 (decimal line.client) (omega arith) (decimal_solid line.client (omega (arith, s.client)))) (all_free 10 (verb_word line.call ∷ decimal line.part ∷ call_fields line.call) (omega arith) (later_solid parts line few s))
  where
    other : (32 == 10) ≡ false
    other = refl

-- a script is read back from its spelling
pub script_again : (parts n : ℕ) (lines : List Line) → parts < 2 ^ 16 → AllByRecursion (IsSpellable parts) lines → lines_of parts n (slice_split (λ b. b == 10) (script_text lines)) ≡ Ok lines
script_again parts n [] few s = last_of parts n []
script_again parts n (line ∷ lines) few s =
    let piece = join_with_byte 32 (line_fields line) in
    let rest = script_text lines in
    let cut : slice_split (λ b. b == 10) (script_text (line ∷ lines)) ≡ piece ∷ slice_split (λ b. b == 10) rest =
    ap (slice_split (λ b. b == 10)) (append_assoc piece (10 ∷ []) rest) ∙ split_at_free 10 piece rest (no_line_feed parts line few s.0) in
    let read : line_of parts (fields_of piece) ≡ Ok line = ap (line_of parts) (fields_back parts line few s.0) ∙ line_again parts line few s.0 in
    ap (lines_of parts n) cut
    ∙ first_of parts n piece (slice_split (λ b. b == 10) rest) (at_least_one rest)
    ∙ ap (λ (r : Result Line Why). numbered n r >>= λ l. lines_of parts (n + 1) (slice_split (λ b. b == 10) rest) >>= λ ls. Ok (l ∷ ls)) read
    ∙ ap (λ (r : Result (List Line) (ℕ × Why)). r >>= λ ls. Ok (line ∷ ls)) (script_again parts (n + 1) lines few s.1)

-- the two parts of a step that went on
went_on : {A B : Type 0} (r : Result A (ℕ × Why)) (f : A → Result B (ℕ × Why)) (y : B) → (r >>= f) ≡ Ok y → (x : A) × (r ≡ Ok x) × (f x ≡ Ok y)
went_on (Ok x) f y e = (x, refl, e)
went_on (Err w) f y e = absurd (cc)

read_numbered : (n : ℕ) (r : Result Line Why) (line : Line) → numbered n r ≡ Ok line → r ≡ Ok line
read_numbered n (Ok l) line e = let same : l ≡ line = cc in ap Ok same
read_numbered n (Err w) line e = absurd (cc)

-- pieces that are read are those of the lines' spelling
pieces_spelled : (parts n : ℕ) (pieces : List (List ℕ)) (lines : List Line) → 0 < length pieces → lines_of parts n pieces ≡ Ok lines → script_text lines ≡ join_with_byte 10 pieces
pieces_spelled parts n [] lines l e = absurd (omega arith)
pieces_spelled parts n (rest ∷ []) lines l e = by_length (length rest == 0) refl (sym (last_of parts n rest) ∙ e)
  where
    by_length : (t : Bool) → (length rest == 0) ≡ t → if◌then◌else◌ {A = Result (List Line) (ℕ × Why)} t (Ok []) (Err (n, Ending)) ≡ Ok lines → script_text lines ≡ rest
    by_length true k q = let none : lines ≡ [] = cc in ap script_text none ∙ sym (nil_from_length rest (eqb-true (length rest) 0 k))
    by_length false k q = absurd (cc)
pieces_spelled parts n (piece ∷ next ∷ pieces) lines l e =
    let a = went_on (numbered n (line_of parts (fields_of piece))) _ lines (sym (first_of parts n piece (next ∷ pieces) (omega arith)) ∙ e) in
    let b = went_on (lines_of parts (n + 1) (next ∷ pieces)) _ lines a.2 in
    let fields = line_spelled parts (fields_of piece) a.0 (read_numbered n (line_of parts (fields_of piece)) a.0 a.1) in
    let back : join_with_byte 32 (line_fields a.0) ≡ piece = ap (join_with_byte 32) fields ∙ join_with_byte-slice_split 32 piece in
    let whole : a.0 ∷ b.0 ≡ lines = cc in
    sym (ap script_text whole)
    ∙ append_assoc (join_with_byte 32 (line_fields a.0)) (10 ∷ []) (script_text b.0)
    ∙ ap (λ (t : List ℕ). t ++ 10 ∷ script_text b.0) back
    ∙ ap (λ (t : List ℕ). piece ++ 10 ∷ t) (pieces_spelled parts (n + 1) (next ∷ pieces) b.0 (omega arith) b.1)

-- what is read is spelled so
pub script_spelled : (parts : ℕ) (bytes : List ℕ) (lines : List Line) → script_of parts bytes ≡ Ok lines → bytes ≡ script_text lines
script_spelled parts bytes lines e = sym (pieces_spelled parts 1 (slice_split (λ b. b == 10) bytes) lines (at_least_one bytes) e ∙ join_with_byte-slice_split 10 bytes)

-- fields, joined
joined : (c : ℕ) (field : List ℕ) (fields : List (List ℕ)) → join_with_byte c (field ∷ fields) ≡ field ++ flat_map (λ f. c ∷ f) fields
joined c field [] = sym (append-nil field)
joined c field (next ∷ fields) = ap (λ (t : List ℕ). field ++ c ∷ t) (joined c next fields)

-- a line is written part by part
pub line_in_parts : (line : Line) → line_parts line ≡ line_text line
line_in_parts line =
    let fields = flat_map (λ f. 32 ∷ f) (call_fields line.call) in
    sym (ap (λ (t : List ℕ). t ++ 10 ∷ []) (joined 32 (decimal line.client) (verb_word line.call ∷ decimal line.part ∷ call_fields line.call)) ∙ simp append_assoc)
    ∙ refl
