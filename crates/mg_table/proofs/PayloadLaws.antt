-- What is written as a payload is read again, and what is read of one was written so.
use Rattle.std.proofs.Common.{◌≡◌, ℕ, zero, suc, ◌<◌, ◌≤◌, ◌^◌, Bool, true, false, cond, eqb, ltb, List, [], ◌++◌, length, take, drop, refl, sym, ap, ◌∙◌, arith, append_assoc, Result, Ok, Err}
use Rattle.std.proofs.Math.Nat.{mod-eq_of_lt}
use Rattle.std.proofs.lemmas.Bool.{lt-ltb, le-ltb, ltb-true, ltb-false, eq-eqb, eqb-true}
use Rattle.std.proofs.lemmas.List.{append-nil, drop_at, take_at, take-append-drop, length-append, length-drop}
use Rattle.mg_frame.specs.BigEndian.{big_endian, big_endian_value, AreBytes}
use Rattle.mg_frame.proofs.BigEndianLaws.{big_endian_value-big_endian, drop_past, front_back, length-big_endian, AreBytes-drop}
use Rattle.mg_table.specs.Entries.{flag, payload_of}
use Rattle.mg_types.specs.Items.{IsEntry}
use Rattle.mg_table.specs.Payload.{judged_numbers, judged_payload, numbers_of}
use Rattle.mg_types.specs.declared.items.Entry.{Entry}
use Rattle.mg_table.specs.declared.entry.Payload.{Payload}
use Rattle.mg_table.specs.declared.entry.Refused.{Refused}
use Rattle.mg_table.specs.declared.entry.Refused.TheVariants.{Number, Form}
use Rattle.mg_indexed.proofs.FieldLaws.{none_left}

flag-back : (gone : Bool) → eqb (flag gone) 1 ≡ gone
flag-back true = refl
flag-back false = refl

flag-small : (gone : Bool) → flag gone ≤ 1
flag-small true = omega arith
flag-small false = omega arith

value-front : (width n : ℕ) (rest : List ℕ) → n < 256 ^ width → big_endian_value (take width (big_endian width n ++ rest)) ≡ n
value-front width n rest fits =
    ap big_endian_value (take_at (big_endian width n) rest width (length-big_endian width n))
    ∙ big_endian_value-big_endian width n ∙ mod-eq_of_lt fits

judged_numbers-in_range : (entry : Entry) → IsEntry entry → judged_numbers entry.seq entry.size (flag entry.gone) ≡ Ok (numbers_of entry)
judged_numbers-in_range entry is =
    rw (lt-ltb entry.seq (2 ^ 62) is.0.1, le-ltb entry.seq 1 is.0.0, le-ltb entry.size 1 is.1.0, le-ltb 1048826 entry.size is.1.1, le-ltb 1 (flag entry.gone) (flag-small entry.gone), flag-back entry.gone) refl

pub payload-read : (entry : Entry) → IsEntry entry → judged_payload (payload_of entry) ≡ Ok (numbers_of entry)
unfolding judged_payload payload_of
payload-read entry is =
    let seq = big_endian 8 entry.seq in
    let size = big_endian 4 entry.size in
    let gone = big_endian 1 (flag entry.gone) in
    let first : big_endian_value (take 8 ((seq ++ size) ++ gone)) ≡ entry.seq =
    ap (λ xs. big_endian_value (take 8 xs)) (append_assoc seq size gone) ∙ value-front 8 entry.seq (size ++ gone) (omega (arith, is.0.1)) in
    let second : big_endian_value (take 4 (drop 8 ((seq ++ size) ++ gone))) ≡ entry.size =
    ap (λ xs. big_endian_value (take 4 (drop 8 xs))) (append_assoc seq size gone)
    ∙ ap (λ xs. big_endian_value (take 4 xs)) (drop_at seq (size ++ gone) 8 (length-big_endian 8 entry.seq))
    ∙ value-front 4 entry.size gone (omega (arith, is.1.1)) in
    let front : length (seq ++ size) ≡ 12 = omega (arith, length-append seq size, length-big_endian 8 entry.seq, length-big_endian 4 entry.size) in
    let third : big_endian_value (take 1 (drop 12 ((seq ++ size) ++ gone))) ≡ flag entry.gone =
    ap (λ xs. big_endian_value (take 1 xs)) (drop_at (seq ++ size) gone 12 front ∙ sym (append-nil gone))
    ∙ value-front 1 (flag entry.gone) [] (omega (arith, flag-small entry.gone)) in
    let len : length ((seq ++ size) ++ gone) ≡ 13 = omega (arith, length-append (seq ++ size) gone, front, length-big_endian 1 (flag entry.gone)) in
    rw (eq-eqb (length ((seq ++ size) ++ gone)) 13 len, first, second, third) (judged_numbers-in_range entry is)

-- ---- what is read of any payload

front-spelled : (width : ℕ) (bytes : List ℕ) → width ≤ length bytes → AreBytes bytes → bytes ≡ big_endian width (big_endian_value (take width bytes)) ++ drop width bytes
front-spelled width bytes long are = sym (ap (λ xs. xs ++ drop width bytes) (front_back width bytes long are) ∙ take-append-drop width bytes)

flag-spelled : (gone : ℕ) → gone ≤ 1 → flag (eqb gone 1) ≡ gone
flag-spelled zero small = refl
flag-spelled (suc zero) small = refl
flag-spelled (suc (suc gone)) small = absurd (omega (arith, small))

-- the numbers of a payload are in range, and these are they
pub record IsTaken (seq size gone : ℕ) (payload : Payload) : Type 0 where
  pub seq_to : seq < 2 ^ 62
  pub seq_from : 1 ≤ seq
  pub size_from : 1 ≤ size
  pub size_to : size ≤ 1048826
  pub gone_to : gone ≤ 1
  pub is : payload ≡ record { seq = seq; size = size; gone = eqb gone 1 }

taken-by : (seq size gone : ℕ) (payload : Payload) (a e b c d : Bool) → ltb seq (2 ^ 62) ≡ a → ltb seq 1 ≡ e → ltb size 1 ≡ b → ltb 1048826 size ≡ c → ltb 1 gone ≡ d
    → (let taken : Result Payload Refused = Ok (record { seq = seq; size = size; gone = eqb gone 1 }) in
    let form : Result Payload Refused = Err Form in
    let number : Result Payload Refused = Err (Number seq) in
    cond a (cond e form (cond b form (cond c form (cond d form taken)))) number ≡ Ok payload)
    → IsTaken seq size gone payload
taken-by seq size gone payload false e b c d x v y z w is = absurd cc
taken-by seq size gone payload true true b c d x v y z w is = absurd cc
taken-by seq size gone payload true false true c d x v y z w is = absurd cc
taken-by seq size gone payload true false false true d x v y z w is = absurd cc
taken-by seq size gone payload true false false false true x v y z w is = absurd cc
taken-by seq size gone payload true false false false false x v y z w is = record {
  seq_to = ltb-true seq (2 ^ 62) x;
  seq_from = ltb-false seq 1 v;
  size_from = ltb-false size 1 y;
  size_to = ltb-false 1048826 size z;
  gone_to = ltb-false 1 gone w;
  is = cc;
}

-- the entry of a key and the numbers of a payload
abbrev pub entry_with : List ℕ → Payload → Entry
entry_with key payload = record { key = key; seq = payload.seq; size = payload.size; gone = payload.gone }

spelled-again : (bytes key : List ℕ) (seq size gone : ℕ) (payload : Payload) → IsTaken seq size gone payload
    → bytes ≡ big_endian 8 seq ++ (big_endian 4 size ++ big_endian 1 gone) → (bytes ≡ payload_of (entry_with key payload)) × IsEntry (entry_with key payload)
unfolding payload_of
spelled-again bytes key seq size gone payload t spelled =
    let one : payload.seq ≡ seq = ap (λ (p : Payload). p.seq) t.is in
    let two : payload.size ≡ size = ap (λ (p : Payload). p.size) t.is in
    let three : flag payload.gone ≡ gone = ap (λ (p : Payload). flag p.gone) t.is ∙ flag-spelled gone t.gone_to in (
      spelled ∙ sym (append_assoc (big_endian 8 seq) (big_endian 4 size) (big_endian 1 gone))
          ∙ ap (λ n. (big_endian 8 n ++ big_endian 4 size) ++ big_endian 1 gone) (sym one)
          ∙ ap (λ n. (big_endian 8 payload.seq ++ big_endian 4 n) ++ big_endian 1 gone) (sym two)
          ∙ ap (λ n. (big_endian 8 payload.seq ++ big_endian 4 payload.size) ++ big_endian 1 n) (sym three),
      ((omega (arith, one, t.seq_from), omega (arith, one, t.seq_to)), (omega (arith, two, t.size_from), omega (arith, two, t.size_to))),
    )

three-fields : (bytes : List ℕ) → length bytes ≡ 13 → AreBytes bytes
    → bytes ≡ big_endian 8 (big_endian_value (take 8 bytes)) ++ (big_endian 4 (big_endian_value (take 4 (drop 8 bytes))) ++ big_endian 1 (big_endian_value (take 1 (drop 12 bytes))))
three-fields bytes len are =
    let tail = drop 8 bytes in
    let last = drop 12 bytes in
    let twelve : drop 4 tail ≡ last = drop_past bytes 8 4 in
    let none : drop 1 last ≡ [] = none_left (drop 1 last) (omega (arith, length-drop 1 last, length-drop 12 bytes, len)) in
    let one = front-spelled 8 bytes (omega (arith, len)) are in
    let two = front-spelled 4 tail (omega (arith, length-drop 8 bytes, len)) (AreBytes-drop 8 bytes are) in
    let three = front-spelled 1 last (omega (arith, length-drop 12 bytes, len)) (AreBytes-drop 12 bytes are) in
    one
    ∙ ap (λ xs. big_endian 8 (big_endian_value (take 8 bytes)) ++ xs)
    (two
    ∙ ap (λ xs. big_endian 4 (big_endian_value (take 4 tail)) ++ xs)
    (twelve ∙ three ∙ ap (λ xs. big_endian 1 (big_endian_value (take 1 last)) ++ xs) none ∙ append-nil (big_endian 1 (big_endian_value (take 1 last)))))

judged-by : (bytes key : List ℕ) (payload : Payload) (b : Bool) → eqb (length bytes) 13 ≡ b → AreBytes bytes
    → (let form : Result Payload Refused = Err Form in
    cond b (judged_numbers (big_endian_value (take 8 bytes)) (big_endian_value (take 4 (drop 8 bytes))) (big_endian_value (take 1 (drop 12 bytes)))) form ≡ Ok payload)
    → (bytes ≡ payload_of (entry_with key payload)) × IsEntry (entry_with key payload)
judged-by bytes key payload false test are is = absurd cc
judged-by bytes key payload true test are is =
    let seq = big_endian_value (take 8 bytes) in
    let size = big_endian_value (take 4 (drop 8 bytes)) in
    let gone = big_endian_value (take 1 (drop 12 bytes)) in
    spelled-again bytes key seq size gone payload (taken-by seq size gone payload _ _ _ _ _ refl refl refl refl refl is) (three-fields bytes (eqb-true (length bytes) 13 test) are)

-- a payload that is not refused is that of an entry in range, whatever the key
pub payload-back : (bytes key : List ℕ) (payload : Payload) → AreBytes bytes → judged_payload bytes ≡ Ok payload
    → (bytes ≡ payload_of (entry_with key payload)) × IsEntry (entry_with key payload)
unfolding judged_payload
payload-back bytes key payload are is = judged-by bytes key payload _ refl are is
