-- The fields of a line: each line has one list of fields, and is read back from it.
use Rattle.std.proofs.Common.{◌≡◌, ℕ, ◌^◌, ◌<◌, ◌≤◌, List, [], ◌∷◌, ◌++◌, length, Bool, true, false, ◌&&◌, nat_lt, nat_le, Option, Some, None, Result, Ok, Err, refl, ap, sym, ◌∙◌, codes, arith}
use Rattle.std.specs.Bool.{if◌then◌else◌}
use Rattle.std.specs.Option.{option_map_or}
use Rattle.std.specs.Fmt.{decimal}
use Rattle.std.specs.Str.{bytes_eq}
use Rattle.std.specs.Cmp.Lexicographic.{same_text}
use Rattle.std.proofs.lemmas.List.{append-nil}
use Rattle.std.proofs.lemmas.Bool.{ltb-true, lt-ltb}
use Rattle.std.proofs.lemmas.Bool.Decides.{nat_tests}
use Rattle.mg_types.specs.Bytes.{AreBytes, IsDoc, IsKey}
use Rattle.mg_model.specs.declared.calls.Call.{Call}
use Rattle.mg_model.specs.declared.calls.Call.TheVariants as call
use Rattle.mg_types.specs.declared.faults.Why.{Why}
use Rattle.mg_types.specs.declared.faults.Why.TheVariants.{Client, Verb, Part, Key, Doc, Number}
use Rattle.mg_script.specs.declared.fields.Verb.{Verb as VerbWord}
use Rattle.mg_script.specs.declared.fields.Verb.TheVariants as verb
use Rattle.mg_script.specs.declared.script.Line.{Line}
use Rattle.mg_script.specs.Tokens.{number_of, token_of, bytes_of_token}
use Rattle.mg_script.specs.Script.{◌>>=◌, take_field, passing, client_of, part_of, limit_of, key_of, doc_of, verb_of, call_of, no_more, line_of}
use Rattle.mg_script.specs.Lines.{verb_word, call_fields, line_fields, IsAskable, IsSpellable}
use Rattle.mg_script.proofs.TokenLaws.{number_spelled, number_again, token_spelled, token_again}

-- the two parts of a step that went on
bind_ok : {A B : Type 0} (r : Result A Why) (f : A → Result B Why) (y : B) → (r >>= f) ≡ Ok y → (x : A) × (r ≡ Ok x) × (f x ≡ Ok y)
bind_ok (Ok x) f y e = (x, refl, e)
bind_ok (Err w) f y e = absurd (cc)

-- what a field was taken from
take_ok : {X : Type 0} (why : Why) (read : List ℕ → Option X) (fields : List (List ℕ)) (x : X × List (List ℕ)) → take_field why read fields ≡ Ok x → (field : List ℕ) × (fields ≡ field ∷ x.1) × (read field ≡ Some x.0)
unfolding take_field
take_ok {X} why read [] x e = absurd (cc)
take_ok {X} why read (field ∷ fields) x e = by_read (read field) refl e
  where
    by_read : (o : Option X) → read field ≡ o → option_map_or (λ y. Ok (y, fields)) o (Err why) ≡ Ok x → (f : List ℕ) × (field ∷ fields ≡ f ∷ x.1) × (read f ≡ Some x.0)
    by_read None k q = absurd (cc)
    by_read (Some y) k q = let same : (y, fields) ≡ x = cc in (field, ap (λ (z : X × List (List ℕ)). field ∷ z.1) same, k ∙ ap (λ (z : X × List (List ℕ)). Some z.0) same)

-- taking a field that is read
take_again : {X : Type 0} (why : Why) (read : List ℕ → Option X) (field : List ℕ) (fields : List (List ℕ)) (x : X) → read field ≡ Some x → take_field why read (field ∷ fields) ≡ Ok (x, fields)
unfolding take_field
take_again {X} why read field fields x e = ap (λ (o : Option X). option_map_or (λ y. Ok (y, fields)) o (Err why)) e

-- a value that passed a test
passed : {X : Type 0} (test : X → Bool) (o : Option X) (x : X) → passing test o ≡ Some x → (o ≡ Some x) × (test x ≡ true)
passed {X} test None x e = absurd (cc)
passed {X} test (Some y) x e = by_test (test y) refl e
  where
    by_test : (b : Bool) → test y ≡ b → (if b then Some y else None) ≡ Some x → (Some y ≡ Some x) × (test x ≡ true)
    by_test true k q = (q, let same : y ≡ x = cc in ap test (sym same) ∙ k)
    by_test false k q = absurd (cc)

passes : {X : Type 0} (test : X → Bool) (o : Option X) (x : X) → o ≡ Some x → test x ≡ true → passing test o ≡ Some x
passes {X} test o x e t = ap (passing test) e ∙ ap (λ (b : Bool). if b then Some x else None) t

-- numbers in a range
client_spelled : (field : List ℕ) (n : ℕ) → client_of field ≡ Some n → (decimal n ≡ field) × (n < 16)
client_spelled field n e = let p = passed (λ n. nat_lt n 16) (number_of field) n e in ((number_spelled field n p.0).0, ltb-true n 16 p.1)

client_again : (n : ℕ) → n < 16 → client_of (decimal n) ≡ Some n
client_again n l = passes (λ n. nat_lt n 16) (number_of (decimal n)) n (number_again n (omega arith)) (lt-ltb n 16 l)

part_spelled : (parts : ℕ) (field : List ℕ) (n : ℕ) → part_of parts field ≡ Some n → (decimal n ≡ field) × (n < parts)
part_spelled parts field n e = let p = passed (λ n. nat_lt n parts) (number_of field) n e in ((number_spelled field n p.0).0, ltb-true n parts p.1)

part_again : (parts n : ℕ) → parts < 2 ^ 16 → n < parts → part_of parts (decimal n) ≡ Some n
part_again parts n few l = passes (λ n. nat_lt n parts) (number_of (decimal n)) n (number_again n (omega arith)) (lt-ltb n parts l)

limit_spelled : (field : List ℕ) (n : ℕ) → limit_of field ≡ Some n → decimal n ≡ field
limit_spelled field n e = (number_spelled field n (passed (λ n. nat_le 1 n && nat_le n 1000) (number_of field) n e).0).0

limit_again : (n : ℕ) → 1 ≤ n → n ≤ 1000 → limit_of (decimal n) ≡ Some n
limit_again n low high = passes (λ n. nat_le 1 n && nat_le n 1000) (number_of (decimal n)) n (number_again n (omega arith)) (within n low high)
  where
    within : (n : ℕ) → 1 ≤ n → n ≤ 1000 → (nat_le 1 n && nat_le n 1000) ≡ true
    within n a b = grind (arith, nat_tests)

-- keys and documents
key_spelled : (field key : List ℕ) → key_of field ≡ Some key → token_of key ≡ field
key_spelled field key e = token_spelled field key (passed (λ bytes. nat_le 1 (length bytes) && nat_le (length bytes) 250) (bytes_of_token field) key e).0

key_again : (key : List ℕ) → IsKey key → AreBytes key → key_of (token_of key) ≡ Some key
key_again key k b = passes (λ bytes. nat_le 1 (length bytes) && nat_le (length bytes) 250) (bytes_of_token (token_of key)) key (token_again key b) (within (length key) k.0 k.1)
  where
    within : (n : ℕ) → 1 ≤ n → n ≤ 250 → (nat_le 1 n && nat_le n 250) ≡ true
    within n a b = grind (arith, nat_tests)

doc_spelled : (field doc : List ℕ) → doc_of field ≡ Some doc → token_of doc ≡ field
doc_spelled field doc e = token_spelled field doc (passed (λ bytes. nat_le (length bytes) 1048576) (bytes_of_token field) doc e).0

doc_again : (doc : List ℕ) → IsDoc doc → AreBytes doc → doc_of (token_of doc) ≡ Some doc
doc_again doc d b = passes (λ bytes. nat_le (length bytes) 1048576) (bytes_of_token (token_of doc)) doc (token_again doc b) (within (length doc) d)
  where
    within : (n : ℕ) → n ≤ 1048576 → nat_le n 1048576 ≡ true
    within n a = grind (arith, nat_tests)

-- the word of a verb
word_of : VerbWord → List ℕ
word_of verb.Set = codes "set"
word_of verb.Del = codes "del"
word_of verb.Get = codes "get"
word_of verb.Feed = codes "feed"
word_of verb.Sync = codes "sync"
word_of verb.Stats = codes "stats"

verb_spelled : (field : List ℕ) (v : VerbWord) → verb_of field ≡ Some v → word_of v ≡ field
unfolding word_of
verb_spelled field v e = one (bytes_eq field (codes "set")) refl e
  where
    told : (w : VerbWord) → bytes_eq field (word_of w) ≡ true → Some w ≡ Some v → word_of v ≡ field
    told w k q = let same : w ≡ v = cc in ap word_of (sym same) ∙ sym (same_text field (word_of w) (sym k))

    six : (b : Bool) → bytes_eq field (codes "stats") ≡ b → (if b then Some verb.Stats else None) ≡ Some v → word_of v ≡ field
    six true k q = told verb.Stats k q
    six false k q = absurd (cc)

    five : (b : Bool) → bytes_eq field (codes "sync") ≡ b → (if b then Some verb.Sync else (if bytes_eq field (codes "stats") then Some verb.Stats else None)) ≡ Some v → word_of v ≡ field
    five true k q = told verb.Sync k q
    five false k q = six (bytes_eq field (codes "stats")) refl q

    four : (b : Bool) → bytes_eq field (codes "feed") ≡ b → (if b then Some verb.Feed else (if bytes_eq field (codes "sync") then Some verb.Sync else (if bytes_eq field (codes "stats") then Some verb.Stats else None))) ≡ Some v → word_of v ≡ field
    four true k q = told verb.Feed k q
    four false k q = five (bytes_eq field (codes "sync")) refl q

    three : (b : Bool) → bytes_eq field (codes "get") ≡ b → (if b then Some verb.Get else (if bytes_eq field (codes "feed") then Some verb.Feed else (if bytes_eq field (codes "sync") then Some verb.Sync else (if bytes_eq field (codes "stats") then Some verb.Stats else None)))) ≡ Some v → word_of v ≡ field
    three true k q = told verb.Get k q
    three false k q = four (bytes_eq field (codes "feed")) refl q

    two : (b : Bool) → bytes_eq field (codes "del") ≡ b → (if b then Some verb.Del else (if bytes_eq field (codes "get") then Some verb.Get else (if bytes_eq field (codes "feed") then Some verb.Feed else (if bytes_eq field (codes "sync") then Some verb.Sync else (if bytes_eq field (codes "stats") then Some verb.Stats else None))))) ≡ Some v → word_of v ≡ field
    two true k q = told verb.Del k q
    two false k q = three (bytes_eq field (codes "get")) refl q

    one : (b : Bool) → bytes_eq field (codes "set") ≡ b → (if b then Some verb.Set else (if bytes_eq field (codes "del") then Some verb.Del else (if bytes_eq field (codes "get") then Some verb.Get else (if bytes_eq field (codes "feed") then Some verb.Feed else (if bytes_eq field (codes "sync") then Some verb.Sync else (if bytes_eq field (codes "stats") then Some verb.Stats else None)))))) ≡ Some v → word_of v ≡ field
    one true k q = told verb.Set k q
    one false k q = two (bytes_eq field (codes "del")) refl q

-- what a call was read from
call_spelled : (v : VerbWord) (fields : List (List ℕ)) (x : Call × List (List ℕ)) → call_of v fields ≡ Ok x → (verb_word x.0 ≡ word_of v) × (fields ≡ call_fields x.0 ++ x.1)
unfolding call_of word_of
call_spelled verb.Set fields x e =
    let k = bind_ok (take_field Key key_of fields) _ x e in
    let key = take_ok Key key_of fields k.0 k.1 in
    let d = bind_ok (take_field Doc doc_of k.0.1) _ x k.2 in
    let doc = take_ok Doc doc_of k.0.1 d.0 d.1 in
    let whole : (call.Set k.0.0 d.0.0, d.0.1) ≡ x = cc in (
      ap (λ (z : Call × List (List ℕ)). verb_word z.0) (sym whole),
      key.1 ∙ ap (λ (f : List (List ℕ)). key.0 ∷ f) doc.1 ∙ ap (λ (t : List ℕ). t ∷ doc.0 ∷ d.0.1) (sym (key_spelled key.0 k.0.0 key.2)) ∙ ap (λ (t : List ℕ). token_of k.0.0 ∷ t ∷ d.0.1) (sym (doc_spelled doc.0 d.0.0 doc.2))
          ∙ ap (λ (z : Call × List (List ℕ)). call_fields z.0 ++ z.1) whole,
    )
call_spelled verb.Del fields x e =
    let k = bind_ok (take_field Key key_of fields) _ x e in
    let key = take_ok Key key_of fields k.0 k.1 in
    let whole : (call.Del k.0.0, k.0.1) ≡ x = cc in
    (ap (λ (z : Call × List (List ℕ)). verb_word z.0) (sym whole), key.1 ∙ ap (λ (t : List ℕ). t ∷ k.0.1) (sym (key_spelled key.0 k.0.0 key.2)) ∙ ap (λ (z : Call × List (List ℕ)). call_fields z.0 ++ z.1) whole)
call_spelled verb.Get fields x e =
    let k = bind_ok (take_field Key key_of fields) _ x e in
    let key = take_ok Key key_of fields k.0 k.1 in
    let whole : (call.Get k.0.0, k.0.1) ≡ x = cc in
    (ap (λ (z : Call × List (List ℕ)). verb_word z.0) (sym whole), key.1 ∙ ap (λ (t : List ℕ). t ∷ k.0.1) (sym (key_spelled key.0 k.0.0 key.2)) ∙ ap (λ (z : Call × List (List ℕ)). call_fields z.0 ++ z.1) whole)
call_spelled verb.Feed fields x e =
    let a = bind_ok (take_field Number number_of fields) _ x e in
    let epoch = take_ok Number number_of fields a.0 a.1 in
    let b = bind_ok (take_field Number number_of a.0.1) _ x a.2 in
    let after = take_ok Number number_of a.0.1 b.0 b.1 in
    let l = bind_ok (take_field Number limit_of b.0.1) _ x b.2 in
    let limit = take_ok Number limit_of b.0.1 l.0 l.1 in
    let whole : (call.Feed a.0.0 b.0.0 l.0.0, l.0.1) ≡ x = cc in (
      ap (λ (z : Call × List (List ℕ)). verb_word z.0) (sym whole),
      epoch.1 ∙ ap (λ (f : List (List ℕ)). epoch.0 ∷ f) after.1 ∙ ap (λ (f : List (List ℕ)). epoch.0 ∷ after.0 ∷ f) limit.1
          ∙ ap (λ (t : List ℕ). t ∷ after.0 ∷ limit.0 ∷ l.0.1) (sym (number_spelled epoch.0 a.0.0 epoch.2).0)
          ∙ ap (λ (t : List ℕ). decimal a.0.0 ∷ t ∷ limit.0 ∷ l.0.1) (sym (number_spelled after.0 b.0.0 after.2).0)
          ∙ ap (λ (t : List ℕ). decimal a.0.0 ∷ decimal b.0.0 ∷ t ∷ l.0.1) (sym (limit_spelled limit.0 l.0.0 limit.2))
          ∙ ap (λ (z : Call × List (List ℕ)). call_fields z.0 ++ z.1) whole,
    )
call_spelled verb.Sync fields x e = let whole : (call.Sync, fields) ≡ x = cc in (ap (λ (z : Call × List (List ℕ)). verb_word z.0) (sym whole), ap (λ (z : Call × List (List ℕ)). call_fields z.0 ++ z.1) whole)
call_spelled verb.Stats fields x e = let whole : (call.Stats, fields) ≡ x = cc in (ap (λ (z : Call × List (List ℕ)). verb_word z.0) (sym whole), ap (λ (z : Call × List (List ℕ)). call_fields z.0 ++ z.1) whole)

-- what a line was read from
pub line_spelled : (parts : ℕ) (fields : List (List ℕ)) (line : Line) → line_of parts fields ≡ Ok line → line_fields line ≡ fields
unfolding line_of
line_spelled parts fields line e =
    let a = bind_ok (take_field Client client_of fields) _ line e in
    let client = take_ok Client client_of fields a.0 a.1 in
    let b = bind_ok (take_field Verb verb_of a.0.1) _ line a.2 in
    let verb = take_ok Verb verb_of a.0.1 b.0 b.1 in
    let d = bind_ok (take_field Part (part_of parts) b.0.1) _ line b.2 in
    let part = take_ok Part (part_of parts) b.0.1 d.0 d.1 in
    let k = bind_ok (call_of b.0.0 d.0.1) _ line d.2 in
    let called = call_spelled b.0.0 d.0.1 k.0 k.1 in
    let f = bind_ok (no_more k.0.1) _ line k.2 in
    let whole : record { client = a.0.0; part = d.0.0; call = k.0.0 } ≡ line = cc in
    sym (
    client.1
    ∙ ap (λ (fs : List (List ℕ)). client.0 ∷ fs) verb.1
    ∙ ap (λ (fs : List (List ℕ)). client.0 ∷ verb.0 ∷ fs) part.1
    ∙ ap (λ (fs : List (List ℕ)). client.0 ∷ verb.0 ∷ part.0 ∷ fs) called.1
    ∙ ap (λ (fs : List (List ℕ)). client.0 ∷ verb.0 ∷ part.0 ∷ (call_fields k.0.0 ++ fs)) (none_left k.0.1 f.0 f.1)
    ∙ ap (λ (fs : List (List ℕ)). client.0 ∷ verb.0 ∷ part.0 ∷ fs) (append-nil (call_fields k.0.0))
    ∙ ap (λ (t : List ℕ). t ∷ verb.0 ∷ part.0 ∷ call_fields k.0.0) (sym (client_spelled client.0 a.0.0 client.2).0)
    ∙ ap (λ (t : List ℕ). decimal a.0.0 ∷ t ∷ part.0 ∷ call_fields k.0.0) (sym (called.0 ∙ verb_spelled verb.0 b.0.0 verb.2))
    ∙ ap (λ (t : List ℕ). decimal a.0.0 ∷ verb_word k.0.0 ∷ t ∷ call_fields k.0.0) (sym (part_spelled parts part.0 d.0.0 part.2).0)
    ∙ ap line_fields whole)
  where
    none_left : (fs : List (List ℕ)) (r : List (List ℕ)) → no_more fs ≡ Ok r → fs ≡ []
    none_left [] r e = refl
    none_left (f ∷ fs) r e = absurd (cc)

-- the verb of a call
verb_for : Call → VerbWord
verb_for (call.Set key doc) = verb.Set
verb_for (call.Del key) = verb.Del
verb_for (call.Get key) = verb.Get
verb_for (call.Feed epoch after limit) = verb.Feed
verb_for call.Sync = verb.Sync
verb_for call.Stats = verb.Stats
verb_for other = verb.Stats

-- a call is read back from its fields
call_again : (c : Call) (rest : List (List ℕ)) → IsAskable c → (verb_of (verb_word c) ≡ Some (verb_for c)) × (call_of (verb_for c) (call_fields c ++ rest) ≡ Ok (c, rest))
unfolding call_of verb_for
call_again (call.Set key doc) rest k = (
  refl,
  ap (λ r. r >>= λ a. take_field Doc doc_of a.1 >>= λ b. Ok (call.Set a.0 b.0, b.1)) (take_again Key key_of (token_of key) (token_of doc ∷ rest) key (key_again key k.0 k.1))
      ∙ ap (λ r. r >>= λ b. Ok (call.Set key b.0, b.1)) (take_again Doc doc_of (token_of doc) rest doc (doc_again doc k.2 k.3)),
)
call_again (call.Del key) rest k = (refl, ap (λ r. r >>= λ a. Ok (call.Del a.0, a.1)) (take_again Key key_of (token_of key) rest key (key_again key k.0 k.1)))
call_again (call.Get key) rest k = (refl, ap (λ r. r >>= λ a. Ok (call.Get a.0, a.1)) (take_again Key key_of (token_of key) rest key (key_again key k.0 k.1)))
call_again (call.Feed epoch after limit) rest k = (
  refl,
  ap (λ r. r >>= λ a. take_field Number number_of a.1 >>= λ b. take_field Number limit_of b.1 >>= λ l. Ok (call.Feed a.0 b.0 l.0, l.1)) (take_again Number number_of (decimal epoch) (decimal after ∷ decimal limit ∷ rest) epoch (number_again epoch k.0))
      ∙ ap (λ r. r >>= λ b. take_field Number limit_of b.1 >>= λ l. Ok (call.Feed epoch b.0 l.0, l.1)) (take_again Number number_of (decimal after) (decimal limit ∷ rest) after (number_again after k.1))
      ∙ ap (λ r. r >>= λ l. Ok (call.Feed epoch after l.0, l.1)) (take_again Number limit_of (decimal limit) rest limit (limit_again limit k.2 k.3)),
)
call_again call.Sync rest k = (refl, refl)
call_again call.Stats rest k = (refl, refl)
call_again call.Mark rest k = absurd k
call_again (call.Forget mark) rest k = absurd k
call_again (call.Rollback to) rest k = absurd k
call_again call.Clear rest k = absurd k
call_again (call.Compact through) rest k = absurd k

-- a line is read back from its fields
pub line_again : (parts : ℕ) (line : Line) → parts < 2 ^ 16 → IsSpellable parts line → line_of parts (line_fields line) ≡ Ok line
unfolding line_of
line_again parts line few s =
    let c = call_again line.call [] s.call in
    let after_part = call_fields line.call in
    let after_verb = decimal line.part ∷ after_part in
    let after_client = verb_word line.call ∷ after_verb in
    ap (λ r. r >>= λ a. take_field Verb verb_of a.1 >>= λ b. take_field Part (part_of parts) b.1 >>= λ d. call_of b.0 d.1 >>= λ k. no_more k.1 >>= λ _. Ok (record { client = a.0; part = d.0; call = k.0 })) (take_again Client client_of (decimal line.client) after_client line.client (client_again line.client s.client))
    ∙ ap (λ r. r >>= λ b. take_field Part (part_of parts) b.1 >>= λ d. call_of b.0 d.1 >>= λ k. no_more k.1 >>= λ _. Ok (record { client = line.client; part = d.0; call = k.0 })) (take_again Verb verb_of (verb_word line.call) after_verb (verb_for line.call) c.0)
    ∙ ap (λ r. r >>= λ d. call_of (verb_for line.call) d.1 >>= λ k. no_more k.1 >>= λ _. Ok (record { client = line.client; part = d.0; call = k.0 })) (take_again Part (part_of parts) (decimal line.part) after_part line.part (part_again parts line.part few s.part))
    ∙ ap (λ (fs : List (List ℕ)). call_of (verb_for line.call) fs >>= λ k. no_more k.1 >>= λ _. Ok (record { client = line.client; part = line.part; call = k.0 })) (sym (append-nil after_part))
    ∙ ap (λ r. r >>= λ k. no_more k.1 >>= λ _. Ok (record { client = line.client; part = line.part; call = k.0 })) c.1
