-- The one spelling of a script.
use Rattle.std.specs.Prelude.{◌≡◌, ◌<◌, ◌≤◌, ◌^◌, ⊤, ℕ, List, [], ◌∷◌, ◌++◌, codes}
use Rattle.std.specs.Fmt.{decimal}
use Rattle.std.specs.List.{flat_map, join_with_byte}
use Rattle.mg_model.specs.declared.calls.Call.{Call}
use Rattle.mg_model.specs.declared.calls.Call.TheVariants as call
use Rattle.mg_types.specs.Bytes.{AreBytes, IsDoc, IsKey}
use Rattle.mg_script.specs.declared.script.Line.{Line}
use Rattle.mg_script.specs.Tokens.{token_of}

-- the word for what a call asks
abbrev pub verb_word : Call → List ℕ
verb_word (call.Set key doc) = codes "set"
verb_word (call.Del key) = codes "del"
verb_word (call.Get key) = codes "get"
verb_word (call.Feed epoch after limit) = codes "feed"
verb_word call.Mark = codes "mark"
verb_word (call.Forget mark) = codes "forget"
verb_word (call.Rollback to) = codes "rollback"
verb_word call.Clear = codes "clear"
verb_word call.Sync = codes "sync"
verb_word (call.Compact through) = codes "compact"
verb_word call.Stats = codes "stats"

-- the fields behind the partition
abbrev pub call_fields : Call → List (List ℕ)
call_fields (call.Set key doc) = token_of key ∷ token_of doc ∷ []
call_fields (call.Del key) = token_of key ∷ []
call_fields (call.Get key) = token_of key ∷ []
call_fields (call.Feed epoch after limit) = decimal epoch ∷ decimal after ∷ decimal limit ∷ []
call_fields call.Mark = []
call_fields (call.Forget mark) = decimal mark ∷ []
call_fields (call.Rollback to) = decimal to ∷ []
call_fields call.Clear = []
call_fields call.Sync = []
call_fields (call.Compact through) = []
call_fields call.Stats = []

-- a call that has a line: a feed asks for 1 to 1,000 items, and a compaction names no end, which is 0 for it
abbrev pub HasLine : Call → Type 0
HasLine (call.Feed epoch after limit) = (1 ≤ limit) × (limit ≤ 1000)
HasLine (call.Compact through) = through ≡ 0
HasLine other = ⊤

-- the fields of a line
abbrev pub line_fields : Line → List (List ℕ)
line_fields line = decimal line.client ∷ verb_word line.call ∷ decimal line.part ∷ call_fields line.call

-- a line: its fields, parted by spaces, and a line feed
abbrev pub line_text : Line → List ℕ
line_text line = join_with_byte 32 (line_fields line) ++ 10 ∷ []

-- the same, part by part
abbrev pub line_parts : Line → List ℕ
line_parts line = decimal line.client ++ codes " " ++ verb_word line.call ++ codes " " ++ decimal line.part ++ flat_map (λ field. 32 ∷ field) (call_fields line.call) ++ codes "\n"

-- a script: its lines, one after the other
abbrev pub script_text : List Line → List ℕ
script_text lines = flat_map line_text lines

-- a call whose line is read, with keys, documents and numbers in their limits; the other verbs are refused until their turn comes
abbrev pub IsAskable : Call → Type 0
IsAskable (call.Set key doc) = IsKey key × AreBytes key × IsDoc doc × AreBytes doc
IsAskable (call.Del key) = IsKey key × AreBytes key
IsAskable (call.Get key) = IsKey key × AreBytes key
IsAskable (call.Feed epoch after limit) = (epoch < 2 ^ 64) × (after < 2 ^ 64) × (1 ≤ limit) × (limit ≤ 1000)
IsAskable call.Sync = Unit {0}
IsAskable call.Stats = Unit {0}
IsAskable other = ⊥

-- a line that is read
pub record IsSpellable (parts : ℕ) (line : Line) : Type 0 where
  pub client : line.client < 16
  pub part : line.part < parts
  pub call : IsAskable line.call
