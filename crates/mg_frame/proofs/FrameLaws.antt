-- Laws of frames: their lengths, that what was written is taken again, and what each answer means.
use Rattle.std.proofs.Common.{◌≡◌, ℕ, ◌+◌, ◌^◌, ◌<◌, ◌≤◌, List, [], ◌∷◌, ◌++◌, length, take, drop, get_or, slice_index, zero, suc, refl, sym, ap, ◌∙◌, arith, inl, inr, ltb, eqb, true, false, cond, Result, Ok, Err, is_ok}
use Rattle.std.proofs.lemmas.List.{take_at, drop_at, length-take-le, length-append, length-drop, take-append-drop, drop-drop, append_assoc, take_more, nil_from_length}
use Rattle.std.proofs.Math.Seq.{take-add}
use Rattle.std.proofs.Math.Nat.{mod-eq_of_lt}
use Rattle.std.proofs.lemmas.Bool.{lt-ltb, le-ltb, eq-eqb, ne_eqb, cases_lt, cases_eq}
use Rattle.std.specs.Result.{OnOk}
use Rattle.std.specs.Prelude.{slice_range, if◌then◌else◌}
use Rattle.sha2.specs.Sha256.{sha256, digest_bytes, final_hash, initial_hash_256}
use Rattle.sha2.proofs.Facts256.{length-sha256}
use Rattle.mg_frame.specs.BigEndian.{AreBytes, big_endian, big_endian_value}
use Rattle.mg_frame.proofs.BigEndianLaws.{length-big_endian, AreBytes-big_endian, big_endian_value-big_endian, big_endian_value-lt, front_back, same_from_value, AreBytes-take, AreBytes-drop, AreBytes-append}
use Rattle.mg_frame.specs.Frame.{digest, covered, frame, frame_header, said_length, said_number, said_digest, true_digest, compared, judged, taken, IsFrameAt, StandsAt, BeginsWithNone, NoFrame, Means, TakesWritten, EndsLog}
use Rattle.mg_frame.specs.declared.frame.Taken.{Taken}
use Rattle.mg_frame.specs.declared.frame.Taken.TheVariants.{Whole, End, Short, Number, Torn}

pub length-digest : (bytes : List ℕ) → length (digest bytes) ≡ 8
unfolding digest
length-digest bytes = length-take-le 8 (sha256 bytes) (omega (arith, length-sha256 bytes))

pub length-covered : (number : ℕ) (body : List ℕ) → length (covered number body) ≡ length body + 12
unfolding covered
length-covered number body =
    omega (
      arith,
      length-append (big_endian 4 (length body) ++ big_endian 8 number) body,
      length-append (big_endian 4 (length body)) (big_endian 8 number),
      length-big_endian 4 (length body),
      length-big_endian 8 number,
    )

pub length-frame : (number : ℕ) (body : List ℕ) → length (frame number body) ≡ length body + 20
unfolding frame
length-frame number body =
    omega (arith, length-append (covered number body) (digest (covered number body)), length-covered number body, length-digest (covered number body))

-- the first 8 bytes, one by one
pub first_eight : (xs : List ℕ) → 8 ≤ length xs
    → get_or xs 0 0 ∷ get_or xs 1 0 ∷ get_or xs 2 0 ∷ get_or xs 3 0 ∷ get_or xs 4 0 ∷ get_or xs 5 0 ∷ get_or xs 6 0 ∷ get_or xs 7 0 ∷ [] ≡ take 8 xs
first_eight xs enough = sym (more 7 (omega arith) ∙ ap (λ ys. ys ++ get_or xs 7 0 ∷ []) (more 6 (omega arith)
    ∙ ap (λ ys. ys ++ get_or xs 6 0 ∷ []) (more 5 (omega arith) ∙ ap (λ ys. ys ++ get_or xs 5 0 ∷ []) (more 4 (omega arith)
    ∙ ap (λ ys. ys ++ get_or xs 4 0 ∷ []) (more 3 (omega arith) ∙ ap (λ ys. ys ++ get_or xs 3 0 ∷ []) (more 2 (omega arith)
    ∙ ap (λ ys. ys ++ get_or xs 2 0 ∷ []) (more 1 (omega arith) ∙ ap (λ ys. ys ++ get_or xs 1 0 ∷ []) (more 0 (omega arith)))))))))
  where
    more : (i : ℕ) → i < length xs → take (i + 1) xs ≡ take i xs ++ get_or xs i 0 ∷ []
    more i within = take_more xs i 0 within

AreBytes-digest_bytes : (words : List ℕ) (n : ℕ) → AreBytes (digest_bytes words n)
unfolding digest_bytes big_endian
AreBytes-digest_bytes words zero = AreBytes-big_endian 0 0
AreBytes-digest_bytes words (suc n) = AreBytes-append (digest_bytes words n) (big_endian 4 (slice_index words n)) (AreBytes-digest_bytes words n) (AreBytes-big_endian 4 (slice_index words n))

pub AreBytes-digest : (bytes : List ℕ) → AreBytes (digest bytes)
unfolding digest sha256
AreBytes-digest bytes = AreBytes-take 8 (sha256 bytes) (AreBytes-digest_bytes (final_hash initial_hash_256 bytes) 8)

-- ---- a frame that was written is taken again

pub covered_parts : (number : ℕ) (body rest : List ℕ) → covered number body ++ rest ≡ big_endian 4 (length body) ++ (big_endian 8 number ++ (body ++ rest))
unfolding covered
covered_parts number body rest = simp append_assoc

pub frame_covered : (number : ℕ) (body rest : List ℕ) → frame number body ++ rest ≡ covered number body ++ (digest (covered number body) ++ rest)
unfolding frame
frame_covered number body rest = append_assoc (covered number body) (digest (covered number body)) rest

said_length-covered : (number : ℕ) (body rest : List ℕ) → length body < 2 ^ 32 → said_length (covered number body ++ rest) ≡ length body
unfolding said_length
said_length-covered number body rest fits =
    ap big_endian_value (ap (take 4) (covered_parts number body rest) ∙ take_at (big_endian 4 (length body)) (big_endian 8 number ++ (body ++ rest)) 4 (length-big_endian 4 (length body)))
    ∙ big_endian_value-big_endian 4 (length body) ∙ mod-eq_of_lt fits

said_number-covered : (number : ℕ) (body rest : List ℕ) → number < 2 ^ 64 → said_number (covered number body ++ rest) ≡ number
unfolding said_number
said_number-covered number body rest fits =
    ap (λ xs. big_endian_value (take 8 (drop 4 xs))) (covered_parts number body rest)
    ∙ ap (λ xs. big_endian_value (take 8 xs)) (drop_at (big_endian 4 (length body)) (big_endian 8 number ++ (body ++ rest)) 4 (length-big_endian 4 (length body)))
    ∙ ap big_endian_value (take_at (big_endian 8 number) (body ++ rest) 8 (length-big_endian 8 number))
    ∙ big_endian_value-big_endian 8 number ∙ mod-eq_of_lt fits

pub said_length-frame : (number : ℕ) (body rest : List ℕ) → length body < 2 ^ 32 → said_length (frame number body ++ rest) ≡ length body
said_length-frame number body rest fits = ap said_length (frame_covered number body rest) ∙ said_length-covered number body (digest (covered number body) ++ rest) fits

pub said_number-frame : (number : ℕ) (body rest : List ℕ) → number < 2 ^ 64 → said_number (frame number body ++ rest) ≡ number
said_number-frame number body rest fits = ap said_number (frame_covered number body rest) ∙ said_number-covered number body (digest (covered number body) ++ rest) fits

pub said_digest-frame : (number : ℕ) (body rest : List ℕ) → length body < 2 ^ 32 → said_digest (frame number body ++ rest) ≡ big_endian_value (digest (covered number body))
unfolding said_digest
said_digest-frame number body rest fits =
    let left = frame number body ++ rest in
    let tail = digest (covered number body) ++ rest in
    ap (λ k. big_endian_value (take 8 (drop (k + 12) left))) (said_length-frame number body rest fits)
    ∙ ap (λ xs. big_endian_value (take 8 (drop (length body + 12) xs))) (frame_covered number body rest)
    ∙ ap (λ xs. big_endian_value (take 8 xs)) (drop_at (covered number body) tail (length body + 12) (length-covered number body))
    ∙ ap big_endian_value (take_at (digest (covered number body)) rest 8 (length-digest (covered number body)))

pub true_digest-frame : (number : ℕ) (body rest : List ℕ) → length body < 2 ^ 32 → true_digest (frame number body ++ rest) ≡ big_endian_value (digest (covered number body))
unfolding true_digest
true_digest-frame number body rest fits =
    let left = frame number body ++ rest in
    let tail = digest (covered number body) ++ rest in
    ap (λ k. big_endian_value (digest (take (k + 12) left))) (said_length-frame number body rest fits)
    ∙ ap (λ xs. big_endian_value (digest (take (length body + 12) xs))) (frame_covered number body rest)
    ∙ ap (λ xs. big_endian_value (digest xs)) (take_at (covered number body) tail (length body + 12) (length-covered number body))

judged-frame : (number at : ℕ) (body rest : List ℕ) → number < 2 ^ 64 → length body < 2 ^ 32
    → judged (frame number body ++ rest) at number ≡ Whole (at + 12) (at + 12 + length body) (at + 20 + length body)
unfolding judged compared
judged-frame number at body rest number_fits body_fits =
    let left = frame number body ++ rest in
    let said = said_length-frame number body rest body_fits in
    let len : length left ≡ length body + 20 + length rest = omega (arith, length-append (frame number body) rest, length-frame number body) in
    let some : eqb (length left) 0 ≡ false = ne_eqb (length left) 0 (λ none. omega arith) in
    let header : ltb (length left) 12 ≡ false = le-ltb (length left) 12 (omega arith) in
    let all : ltb (length left) (said_length left + 20) ≡ false = le-ltb (length left) (said_length left + 20) (omega arith) in
    let same : eqb (said_number left) number ≡ true = eq-eqb (said_number left) number (said_number-frame number body rest number_fits) in
    let intact : eqb (said_digest left) (true_digest left) ≡ true =
    eq-eqb (said_digest left) (true_digest left) (said_digest-frame number body rest body_fits ∙ sym (true_digest-frame number body rest body_fits)) in
    rw (some, header, all, same, intact, said) refl

pub TakesWritten-taken : (bytes : List ℕ) (at number : ℕ) → number < 2 ^ 64 → TakesWritten bytes at number (taken bytes at number)
unfolding taken
TakesWritten-taken bytes at number number_fits = λ body rest body_fits is. rw is (judged-frame number at body rest number_fits body_fits)

-- where a frame of the number asked for begins, the answer is a whole one
pub EndsLog-taken : (bytes : List ℕ) (at number : ℕ) (answer : Taken) → TakesWritten bytes at number answer → EndsLog bytes at number answer
unfolding NoFrame
EndsLog-taken bytes at number (Whole start end next) written = tt
EndsLog-taken bytes at number End written = λ body rest fits is. (let z = written body rest fits is in cc)
EndsLog-taken bytes at number (Short want have) written = λ body rest fits is. (let z = written body rest fits is in cc)
EndsLog-taken bytes at number (Number kept asked) written = λ body rest fits is. (let z = written body rest fits is in cc)
EndsLog-taken bytes at number (Torn kept found) written = λ body rest fits is. (let z = written body rest fits is in cc)

-- ---- what is taken as whole is a frame

said_covered : (left : List ℕ) → AreBytes left → said_length left + 12 ≤ length left
    → covered (said_number left) (take (said_length left) (drop 12 left)) ≡ take (said_length left + 12) left
unfolding covered said_length said_number
said_covered left small enough =
    let size = said_length left in
    let body = take size (drop 12 left) in
    let body_len : length body ≡ size = length-take-le size (drop 12 left) (omega (arith, length-drop 12 left)) in
    let first : big_endian 4 (length body) ≡ take 4 left = ap (big_endian 4) body_len ∙ front_back 4 left (omega arith) small in
    let second : big_endian 8 (said_number left) ≡ take 8 (drop 4 left) = front_back 8 (drop 4 left) (omega (arith, length-drop 4 left)) (AreBytes-drop 4 left small) in
    let header : take 4 left ++ take 8 (drop 4 left) ≡ take 12 left = sym (take-add 4 8 left) in
    let all : take 12 left ++ body ≡ take (size + 12) left = sym (take-add 12 size left) ∙ ap (λ k. take k left) (omega arith) in
    ap (λ xs. xs ++ big_endian 8 (said_number left) ++ body) first ∙ ap (λ xs. take 4 left ++ xs ++ body) second ∙ ap (λ xs. xs ++ body) header ∙ all

digest_back : (left : List ℕ) → AreBytes left → said_length left + 20 ≤ length left → said_digest left ≡ true_digest left
    → take 8 (drop (said_length left + 12) left) ≡ digest (take (said_length left + 12) left)
unfolding said_digest true_digest
digest_back left small enough intact =
    let rest = drop (said_length left + 12) left in
    let len : length (take 8 rest) ≡ 8 = length-take-le 8 rest (omega (arith, length-drop (said_length left + 12) left)) in
    same_from_value (take 8 rest) (digest (take (said_length left + 12) left)) (len ∙ sym (length-digest (take (said_length left + 12) left)))
    (AreBytes-take 8 rest (AreBytes-drop (said_length left + 12) left small)) (AreBytes-digest (take (said_length left + 12) left)) intact

pub whole_spelled : (left : List ℕ) (number : ℕ) → AreBytes left → said_length left + 20 ≤ length left → said_number left ≡ number → said_digest left ≡ true_digest left
    → left ≡ frame number (take (said_length left) (drop 12 left)) ++ drop (said_length left + 20) left
unfolding frame
whole_spelled left number small enough same intact =
    let size = said_length left in
    let body = take size (drop 12 left) in
    let said : covered number body ≡ take (size + 12) left = ap (λ n. covered n body) (sym same) ∙ said_covered left small (omega arith) in
    let checked : digest (covered number body) ≡ take 8 (drop (size + 12) left) = ap digest said ∙ sym (digest_back left small enough intact) in
    let front : take (size + 12) left ++ take 8 (drop (size + 12) left) ≡ take (size + 20) left = sym (take-add (size + 12) 8 left) ∙ ap (λ k. take k left) (omega arith) in
    sym (ap (λ xs. xs ++ digest (covered number body) ++ drop (size + 20) left) said
    ∙ ap (λ xs. take (size + 12) left ++ xs ++ drop (size + 20) left) checked
    ∙ ap (λ xs. xs ++ drop (size + 20) left) front
    ∙ take-append-drop (size + 20) left)

-- ---- no frame, of whatever number

pub none_if_short : (bytes : List ℕ) → length bytes < said_length bytes + 20 → BeginsWithNone bytes
unfolding BeginsWithNone
none_if_short bytes short = λ entry rest fits is.
    let said : said_length bytes ≡ length entry.1 = ap said_length is ∙ said_length-frame entry.0 entry.1 rest fits.body_fits in
    omega (arith, ap length is, length-append (frame entry.0 entry.1) rest, length-frame entry.0 entry.1)

pub none_if_torn : (bytes : List ℕ) → (said_digest bytes ≡ true_digest bytes → ⊥) → BeginsWithNone bytes
unfolding BeginsWithNone
none_if_torn bytes torn = λ entry rest fits is.
    torn (ap said_digest is ∙ said_digest-frame entry.0 entry.1 rest fits.body_fits ∙ sym (true_digest-frame entry.0 entry.1 rest fits.body_fits) ∙ sym (ap true_digest is))

none_if_few : (bytes : List ℕ) → length bytes < 12 → BeginsWithNone bytes
unfolding BeginsWithNone
none_if_few bytes few = λ entry rest fits is. omega (arith, ap length is, length-append (frame entry.0 entry.1) rest, length-frame entry.0 entry.1)

-- ---- the ranges of what a header says

pub number_fits : (bytes : List ℕ) → AreBytes bytes → 12 ≤ length bytes → said_number bytes < 2 ^ 64
unfolding said_number
number_fits bytes small enough =
    let field = take 8 (drop 4 bytes) in
    let len : length field ≡ 8 = length-take-le 8 (drop 4 bytes) (omega (arith, length-drop 4 bytes)) in
    let below : big_endian_value field < 256 ^ length field = big_endian_value-lt field (AreBytes-take 8 (drop 4 bytes) (AreBytes-drop 4 bytes small)) in
    rw len at below

pub length_fits : (bytes : List ℕ) → AreBytes bytes → 4 ≤ length bytes → said_length bytes < 2 ^ 32
unfolding said_length
length_fits bytes small enough =
    let field = take 4 bytes in
    let len : length field ≡ 4 = length-take-le 4 bytes enough in
    let below : big_endian_value field < 256 ^ length field = big_endian_value-lt field (AreBytes-take 4 bytes small) in
    rw len at below

-- ---- what each answer means

pub slice_body : (bytes : List ℕ) (at size : ℕ) → slice_range bytes (at + 12) (at + 12 + size) ≡ take size (drop 12 (drop at bytes))
slice_body bytes at size = ap (λ k. take k (drop (at + 12) bytes)) (omega arith) ∙ ap (take size) (sym (drop-drop 12 at bytes))

StandsAt-whole : (bytes : List ℕ) (at number next : ℕ) → AreBytes bytes → at ≤ length bytes → said_length (drop at bytes) + 20 ≤ length (drop at bytes)
    → said_number (drop at bytes) ≡ number → IsFrameAt bytes at number (at + 12) (at + 12 + said_length (drop at bytes)) next
    → StandsAt bytes at (number, slice_range bytes (at + 12) (at + 12 + said_length (drop at bytes)))
StandsAt-whole bytes at number next small within enough same frame_at =
    let left = drop at bytes in
    let size = said_length left in
    let small' = AreBytes-drop at bytes small in
    let below : said_number left < 2 ^ 64 = number_fits left small' (omega arith) in
    let len : length (slice_range bytes (at + 12) (at + 12 + size)) ≡ size =
    ap length (slice_body bytes at size) ∙ length-take-le size (drop 12 left) (omega (arith, length-drop 12 left)) in
    record {
      fits = record { number_fits = rw same at below; body_fits = rw len (length_fits left small' (omega arith)) };
      rest = drop next bytes;
      spelled = frame_at.spelled;
    }

IsFrameAt-whole : (bytes : List ℕ) (at number : ℕ) → AreBytes bytes → at ≤ length bytes → said_length (drop at bytes) + 20 ≤ length (drop at bytes)
    → said_number (drop at bytes) ≡ number → said_digest (drop at bytes) ≡ true_digest (drop at bytes)
    → IsFrameAt bytes at number (at + 12) (at + 12 + said_length (drop at bytes)) (at + 20 + said_length (drop at bytes))
IsFrameAt-whole bytes at number small within enough same intact =
    let left = drop at bytes in
    let size = said_length left in
    let body = slice_body bytes at size in
    let rest : drop (at + 20 + size) bytes ≡ drop (size + 20) left = ap (λ k. drop k bytes) (omega arith) ∙ sym (drop-drop (size + 20) at bytes) in
    record {
      begins = refl;
      body_in_order = omega arith;
      goes_on = omega arith;
      within = omega (arith, length-drop at bytes);
      spelled = whole_spelled left number (AreBytes-drop at bytes small) enough same intact ∙ sym (ap (λ xs. frame number xs ++ drop (at + 20 + size) bytes) body
          ∙ ap (λ xs. frame number (take size (drop 12 left)) ++ xs) rest);
    }

means_by_digest : (bytes : List ℕ) (at number : ℕ) → AreBytes bytes → at ≤ length bytes → said_length (drop at bytes) + 20 ≤ length (drop at bytes)
    → said_number (drop at bytes) ≡ number → Means bytes at number (compared (drop at bytes) at)
unfolding compared
means_by_digest bytes at number small within enough same =
    let left = drop at bytes in
    elim (cases_eq (said_digest left) (true_digest left)) [
      | inl intact ↦ rw (eq-eqb (said_digest left) (true_digest left) intact)
          (let frame_at = IsFrameAt-whole bytes at number small within enough same intact in (frame_at, StandsAt-whole bytes at number _ small within enough same frame_at))
      | inr torn ↦ rw (ne_eqb (said_digest left) (true_digest left) torn) (torn, none_if_torn left torn)
    ]

means_by_number : (bytes : List ℕ) (at number : ℕ) → AreBytes bytes → at ≤ length bytes → said_length (drop at bytes) + 20 ≤ length (drop at bytes)
    → Means bytes at number (if eqb (said_number (drop at bytes)) number then compared (drop at bytes) at else Number (said_number (drop at bytes)) number)
means_by_number bytes at number small within enough =
    let left = drop at bytes in
    elim (cases_eq (said_number left) number) [
      | inl same ↦ rw (eq-eqb (said_number left) number same) (means_by_digest bytes at number small within enough same)
      | inr other ↦ rw (ne_eqb (said_number left) number other) (refl, other)
    ]

pub Means-taken : (bytes : List ℕ) (at number : ℕ) → AreBytes bytes → at ≤ length bytes → Means bytes at number (taken bytes at number)
unfolding taken judged
Means-taken bytes at number small within =
    let left = drop at bytes in
    elim (cases_eq (length left) 0) [
      | inl none ↦ rw (eq-eqb (length left) 0 none) (nil_from_length left none)
      | inr some ↦ elim (cases_lt (length left) 12) [
        | inl short ↦ rw (ne_eqb (length left) 0 some, lt-ltb (length left) 12 short) (refl, short, inl refl, none_if_few left short)
        | inr header ↦ elim (cases_lt (length left) (said_length left + 20)) [
          | inl short ↦
              rw (ne_eqb (length left) 0 some, le-ltb (length left) 12 header, lt-ltb (length left) (said_length left + 20) short) (refl, short, inr refl, none_if_short left short)
          | inr enough ↦
              rw (ne_eqb (length left) 0 some, le-ltb (length left) 12 header, le-ltb (length left) (said_length left + 20) enough)
              (means_by_number bytes at number small within enough)
        ]
      ]
    ]

-- ---- the digests as the code reads them

said_digest_is : (left back : List ℕ) (size kept : ℕ) → size ≡ said_length left → back ≡ drop (12 + size) left → kept ≡ big_endian_value (take 8 back) → kept ≡ said_digest left
unfolding said_digest
said_digest_is left back size kept sized is reads = reads ∙ ap (λ xs. big_endian_value (take 8 xs)) (is ∙ ap (λ k. drop k left) (omega arith))

true_digest_is : (left front bytes : List ℕ) (size found : ℕ) → size ≡ said_length left → front ≡ take (12 + size) left → bytes ≡ digest front → found ≡ big_endian_value bytes
    → found ≡ true_digest left
unfolding true_digest
true_digest_is left front bytes size found sized is digested reads = reads ∙ ap big_endian_value (digested ∙ ap digest (is ∙ ap (λ k. take k left) (omega arith)))

pub record ReadsDigests (left front back bytes : List ℕ) (size kept found : ℕ) : Type 0 where
  pub sized : size ≡ said_length left
  pub front_is : front ≡ take (12 + size) left
  pub back_is : back ≡ drop (12 + size) left
  pub kept_is : kept ≡ big_endian_value (take 8 back)
  pub digested : bytes ≡ digest front
  pub found_is : found ≡ big_endian_value bytes

pub compared-torn : (left front back bytes : List ℕ) (size at kept found : ℕ) → ReadsDigests left front back bytes size kept found → (kept ≡ found → ⊥)
    → Torn kept found ≡ compared left at
unfolding compared
compared-torn left front back bytes size at kept found read differ =
    let said = said_digest_is left back size kept read.sized read.back_is read.kept_is in
    let true' = true_digest_is left front bytes size found read.sized read.front_is read.digested read.found_is in
    rw (ne_eqb (said_digest left) (true_digest left) (λ same. differ (said ∙ same ∙ sym true'))) (rw (← said, ← true') refl)

pub compared-whole : (left front back bytes : List ℕ) (size at kept found : ℕ) → ReadsDigests left front back bytes size kept found → kept ≡ found
    → Whole (at + 12) (at + 12 + size) (at + 20 + size) ≡ compared left at
unfolding compared
compared-whole left front back bytes size at kept found read same =
    let said = said_digest_is left back size kept read.sized read.back_is read.kept_is in
    let true' = true_digest_is left front bytes size found read.sized read.front_is read.digested read.found_is in
    rw (eq-eqb (said_digest left) (true_digest left) (sym said ∙ same ∙ true'), read.sized) refl

-- ---- how the writer builds a frame

pub record BuildsFrame (number : ℕ) (body before after size_bytes number_bytes digest_bytes all : List ℕ) : Type 0 where
  pub size_is : size_bytes ≡ big_endian 4 (length body)
  pub number_is : number_bytes ≡ big_endian 8 number
  pub digest_is : digest_bytes ≡ digest (drop (length before) all)
  pub all_is : all ≡ before ++ size_bytes ++ number_bytes ++ body
  pub after_is : after ≡ all ++ digest_bytes

covered_built : (number : ℕ) (body before size_bytes number_bytes : List ℕ) → size_bytes ≡ big_endian 4 (length body) → number_bytes ≡ big_endian 8 number
    → before ++ size_bytes ++ number_bytes ++ body ≡ before ++ covered number body
unfolding covered
covered_built number body before size_bytes number_bytes size_is number_is = rw (size_is, number_is) (simp append_assoc)

pub frame_built : (number : ℕ) (body before after size_bytes number_bytes digest_bytes all : List ℕ)
    → BuildsFrame number body before after size_bytes number_bytes digest_bytes all → after ≡ before ++ frame number body
unfolding frame
frame_built number body before after size_bytes number_bytes digest_bytes all built =
    let parts : all ≡ before ++ covered number body = built.all_is ∙ covered_built number body before size_bytes number_bytes built.size_is built.number_is in
    let rest : drop (length before) all ≡ covered number body = ap (drop (length before)) parts ∙ drop_at before (covered number body) (length before) refl in
    built.after_is ∙ ap (λ xs. xs ++ digest_bytes) parts ∙ append_assoc before (covered number body) digest_bytes
    ∙ ap (λ xs. before ++ (covered number body ++ xs)) (built.digest_is ∙ ap digest rest)

-- what follows where the last append goes well
pub appended_last : {T E : Type 0} (result : Result T E) (now was more : List ℕ) (P : Type 0) → now ≡ cond (is_ok result) (was ++ more) was → (now ≡ was ++ more → P) → OnOk result P
appended_last (Ok x) now was more P is holds = holds is
appended_last (Err e) now was more P is holds = tt

frame_parts : (number : ℕ) (body : List ℕ) → covered number body ++ digest (covered number body) ≡ frame number body
unfolding frame
frame_parts number body = refl

-- a header and a body behind some bytes, with their digest behind them, are the frame behind these bytes
pub frame_ended : (start number : ℕ) (before body all ended digest_bytes : List ℕ) → length before ≡ start → all ≡ before ++ (frame_header number (length body) ++ body) → digest_bytes ≡ digest (drop start all)
    → ended ≡ all ++ digest_bytes → ended ≡ before ++ frame number body
unfolding covered
frame_ended start number before body all ended digest_bytes at all_is digest_is ended_is =
    let rest : drop start all ≡ covered number body = ap (drop start) all_is ∙ drop_at before (frame_header number (length body) ++ body) start at in
    ended_is ∙ ap (λ xs. xs ++ digest_bytes) all_is ∙ append_assoc before (frame_header number (length body) ++ body) digest_bytes
    ∙ ap (λ xs. before ++ (covered number body ++ xs)) (digest_is ∙ ap digest rest) ∙ ap (λ xs. before ++ xs) (frame_parts number body)
