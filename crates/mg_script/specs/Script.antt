-- A script, read from left to right, with the first line that is no call and what is wrong with it.
use Rattle.std.specs.Prelude.{◌≡◌, ◌<◌, ◌≤◌, ℕ, ◌+◌, List, [], ◌∷◌, length, Bool, ◌&&◌, ◌==◌, nat_lt, nat_le, codes, Option, None, Some, Result, Ok, Err, if◌then◌else◌}
use Rattle.std.specs.Option.{option_map_or, option_and_then}
use Rattle.std.specs.List.{slice_split}
use Rattle.std.specs.Str.{bytes_eq}
use Rattle.mg_model.specs.declared.calls.Call.{Call}
use Rattle.mg_model.specs.declared.calls.Call.TheVariants as call
use Rattle.mg_types.specs.declared.faults.Fault.{Fault}
use Rattle.mg_types.specs.declared.faults.Fault.TheVariants.{NoMemory, BadLine}
use Rattle.mg_types.specs.declared.faults.Why.{Why}
use Rattle.mg_types.specs.declared.faults.Why.TheVariants.{Ending, Client, Verb, Part, Key, Doc, Number, Extra}
use Rattle.mg_script.specs.declared.script.Line.{Line}
use Rattle.mg_script.specs.declared.fields.Verb.{Verb as VerbWord}
use Rattle.mg_script.specs.declared.fields.Verb.TheVariants as verb
use Rattle.mg_script.specs.declared.fields.LineError.{LineError}
use Rattle.mg_script.specs.declared.fields.LineError.TheVariants as errors
use Rattle.mg_script.specs.Tokens.{number_of, bytes_of_token}

-- one step after another, up to the first reason why there is none
infixl 10 ◌>>=◌
abbrev pub ◌>>=◌ : {A B E : Type 0} → Result A E → (A → Result B E) → Result B E
(Ok x) >>= f = f x
(Err e) >>= f = Err e

-- the fields of a line: the pieces between its spaces
abbrev pub fields_of : List ℕ → List (List ℕ)
fields_of line = slice_split (λ b. b == 32) line

-- the next field, as what it is read as, and the fields behind it
unfoldable pub take_field : {X : Type 0} → Why → (List ℕ → Option X) → List (List ℕ) → Result (X × List (List ℕ)) Why
take_field why read [] = Err why
take_field why read (field ∷ fields) = option_map_or (λ x. Ok (x, fields)) (read field) (Err why)

-- the value, where it passes the test
abbrev pub passing : {X : Type 0} → (X → Bool) → Option X → Option X
passing test value = option_and_then (λ x. if test x then Some x else None) value

-- a client's number
abbrev pub client_of : List ℕ → Option ℕ
client_of field = passing (λ n. nat_lt n 16) (number_of field)

-- the number of one of the partitions
abbrev pub part_of : ℕ → List ℕ → Option ℕ
part_of parts field = passing (λ n. nat_lt n parts) (number_of field)

-- how many items a feed may have
abbrev pub limit_of : List ℕ → Option ℕ
limit_of field = passing (λ n. nat_le 1 n && nat_le n 1000) (number_of field)

-- a key
abbrev pub key_of : List ℕ → Option (List ℕ)
key_of field = passing (λ bytes. nat_le 1 (length bytes) && nat_le (length bytes) 250) (bytes_of_token field)

-- a document
abbrev pub doc_of : List ℕ → Option (List ℕ)
doc_of field = passing (λ bytes. nat_le (length bytes) 1048576) (bytes_of_token field)

-- a verb
abbrev pub verb_of : List ℕ → Option VerbWord
verb_of field =
    if bytes_eq field (codes "set") then Some verb.Set
    else (if bytes_eq field (codes "del") then Some verb.Del
    else (if bytes_eq field (codes "get") then Some verb.Get
    else (if bytes_eq field (codes "feed") then Some verb.Feed
    else (if bytes_eq field (codes "sync") then Some verb.Sync
    else (if bytes_eq field (codes "stats") then Some verb.Stats else None)))))

-- the call of a verb, and the fields behind it
unfoldable pub call_of : VerbWord → List (List ℕ) → Result (Call × List (List ℕ)) Why
call_of verb.Set fields = do
  key ← take_field Key key_of fields
  doc ← take_field Doc doc_of key.1
  Ok (call.Set key.0 doc.0, doc.1)
call_of verb.Del fields = do
  key ← take_field Key key_of fields
  Ok (call.Del key.0, key.1)
call_of verb.Get fields = do
  key ← take_field Key key_of fields
  Ok (call.Get key.0, key.1)
call_of verb.Feed fields = do
  epoch ← take_field Number number_of fields
  after ← take_field Number number_of epoch.1
  limit ← take_field Number limit_of after.1
  Ok (call.Feed epoch.0 after.0 limit.0, limit.1)
call_of verb.Sync fields = Ok (call.Sync, fields)
call_of verb.Stats fields = Ok (call.Stats, fields)

-- nothing, where no field is left
abbrev pub no_more : List (List ℕ) → Result (List (List ℕ)) Why
no_more [] = Ok []
no_more (field ∷ fields) = Err Extra

-- the line that some fields are
unfoldable pub line_of : ℕ → List (List ℕ) → Result Line Why
line_of parts fields = do
  client ← take_field Client client_of fields
  verb ← take_field Verb verb_of client.1
  part ← take_field Part (part_of parts) verb.1
  call ← call_of verb.0 part.1
  end ← no_more call.1
  Ok (record { client = client.0; part = part.0; call = call.0 })

-- a line in its place: what is wrong with it goes with its number
abbrev pub numbered : {X : Type 0} → ℕ → Result X Why → Result X (ℕ × Why)
numbered n (Ok x) = Ok x
numbered n (Err why) = Err (n, why)

-- the lines that some pieces are, where the first has the number n and the last has no line feed behind it
unfoldable pub lines_of : ℕ → ℕ → List (List ℕ) → Result (List Line) (ℕ × Why)
lines_of parts n [] = Ok []
lines_of parts n (rest ∷ []) = if length rest == 0 then Ok [] else Err (n, Ending)
lines_of parts n (piece ∷ next ∷ pieces) = do
  line ← numbered n (line_of parts (fields_of piece))
  lines ← lines_of parts (n + 1) (next ∷ pieces)
  Ok (line ∷ lines)

-- the calls that a script is, or the number of its first line that is none with what is wrong with it
abbrev pub script_of : ℕ → List ℕ → Result (List Line) (ℕ × Why)
script_of parts bytes = lines_of parts 1 (slice_split (λ b. b == 10) bytes)

-- What a function returned, seen by view, is what reading gives, unless memory ran out.
abbrev pub Fails : {Y : Type 0} → LineError → Result Y Why → Type 0
Fails errors.NoMemory read = Unit {0}
Fails (errors.Wrong why) read = read ≡ Err why

abbrev pub Gives : {X Y : Type 0} → (X → Y) → Result X LineError → Result Y Why → Type 0
Gives view (Ok x) read = read ≡ Ok (view x)
Gives view (Err e) read = Fails e read

-- A script is refused for want of memory, or at its first bad line.
abbrev pub Refuses : Fault → Result (List Line) (ℕ × Why) → Type 0
Refuses NoMemory script = Unit {0}
Refuses (BadLine line why) script = script ≡ Err (line, why)
Refuses fault script = ⊥

-- what is wrong with a line, as a fault that has its number
abbrev pub located : ℕ → LineError → Fault
located n errors.NoMemory = NoMemory
located n (errors.Wrong why) = BadLine n why

-- a call whose line is read
abbrev pub IsSpoken : Call → Type 0
IsSpoken (call.Set key doc) = Unit {0}
IsSpoken (call.Del key) = Unit {0}
IsSpoken (call.Get key) = Unit {0}
IsSpoken (call.Feed epoch after limit) = (1 ≤ limit) × (limit ≤ 1000)
IsSpoken call.Sync = Unit {0}
IsSpoken call.Stats = Unit {0}
IsSpoken other = ⊥

-- a line of a script over so many partitions
pub record IsLine (parts : ℕ) (line : Line) : Type 0 where
  pub client : line.client < 16
  pub part : line.part < parts
  pub call : IsSpoken line.call
