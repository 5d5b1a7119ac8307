-- A piece of a file that is enough of it is judged as what is left of the file.
use Rattle.std.proofs.Common.{◌≡◌, ℕ, ◌+◌, ◌<◌, ◌≤◌, ◌⊎◌, List, ◌++◌, length, take, drop, refl, sym, ap, ◌∙◌, append_assoc, arith, inl, inr, ltb, eqb, true, false, Bool, cond, Result, Ok, Err, MatchResult}
use Rattle.std.proofs.lemmas.List.{take-append-le, drop-append-le, take-append-drop, length-append, length-drop, take_all, length-take-le}
use Rattle.std.proofs.lemmas.Bool.{lt-ltb, le-ltb, eq-eqb, ne_eqb, cases_lt, cases_eq}
use Rattle.mg_frame.specs.BigEndian.{big_endian_value}
use Rattle.mg_frame.specs.Frame.{StandsAt, frame, digest, said_length, said_number, said_digest, true_digest, compared, judged, taken}
use Rattle.mg_frame.specs.declared.frame.Taken.TheVariants.{Whole, End, Short, Number, Torn}
use Rattle.mg_frame.proofs.FrameLaws.{slice_body}
use Rattle.mg_types.specs.declared.faults.Fault.{Fault}
use Rattle.mg_types.specs.declared.faults.Fault.TheVariants.{Damaged}
use Rattle.mg_types.specs.declared.names.FileId.{FileId}
use Rattle.mg_sealed.specs.Answers.{Answers}
use Rattle.mg_sealed.specs.Reading.{body_or_damage, frame_body, needed, IsEnough}

-- ---- the answer by the bytes that are left

damaged : FileId → ℕ → ℕ → ℕ → Result (List ℕ) Fault
damaged id at kept found = Err (Damaged id at kept found)

by_digest : FileId → ℕ → List ℕ → Result (List ℕ) Fault
by_digest id at left =
    cond (eqb (said_digest left) (true_digest left)) (Ok (take (said_length left) (drop 12 left))) (damaged id at (said_digest left) (true_digest left))

by_number : FileId → ℕ → List ℕ → ℕ → Result (List ℕ) Fault
by_number id at left number = cond (eqb (said_number left) number) (by_digest id at left) (damaged id at (said_number left) number)

by_length : FileId → ℕ → ℕ → List ℕ → ℕ → Result (List ℕ) Fault
by_length id at len left number =
    cond (eqb (length left) 0) (damaged id at (at + 12) len)
    (cond (ltb (length left) 12) (damaged id at (at + 12) len)
    (cond (ltb (length left) (said_length left + 20)) (damaged id at (at + (said_length left + 20)) len)
    (by_number id at left number)))

through : {A B : Type 0} (f : A → B) (b1 b2 b3 b4 b5 : Bool) (x1 x2 x3 x4 x5 x6 : A)
    → f (cond b1 x1 (cond b2 x2 (cond b3 x3 (cond b4 (cond b5 x4 x5) x6)))) ≡ cond b1 (f x1) (cond b2 (f x2) (cond b3 (f x3) (cond b4 (cond b5 (f x4) (f x5)) (f x6))))
through f true b2 b3 b4 b5 x1 x2 x3 x4 x5 x6 = refl
through f false true b3 b4 b5 x1 x2 x3 x4 x5 x6 = refl
through f false false true b4 b5 x1 x2 x3 x4 x5 x6 = refl
through f false false false true true x1 x2 x3 x4 x5 x6 = refl
through f false false false true false x1 x2 x3 x4 x5 x6 = refl
through f false false false false b5 x1 x2 x3 x4 x5 x6 = refl

taken_by_length : (id : FileId) (at len number base : ℕ) (bytes : List ℕ)
    → body_or_damage id at len bytes (taken bytes base number) ≡ by_length id at len (drop base bytes) number
unfolding taken judged compared by_length by_number by_digest damaged
taken_by_length id at len number base bytes =
    let left = drop base bytes in
    let size = said_length left in
    let none = eqb (length left) 0 in
    let few = ltb (length left) 12 in
    let short = ltb (length left) (size + 20) in
    let same = eqb (said_number left) number in
    let intact = eqb (said_digest left) (true_digest left) in
    through (body_or_damage id at len bytes) none few short same intact End (Short 12 (length left)) (Short (size + 20) (length left))
    (Whole (base + 12) (base + 12 + size) (base + 20 + size)) (Torn (said_digest left) (true_digest left)) (Number (said_number left) number)
    ∙ ap (λ (body : List ℕ). cond none (damaged id at (at + 12) len) (cond few (damaged id at (at + 12) len) (cond short (damaged id at (at + (size + 20)) len)
    (cond same (cond intact (Ok body) (damaged id at (said_digest left) (true_digest left))) (damaged id at (said_number left) number)))))
    (slice_body bytes base size)

-- ---- what a front says

said_length-front : (piece rest : List ℕ) → 4 ≤ length piece → said_length (piece ++ rest) ≡ said_length piece
unfolding said_length
said_length-front piece rest enough = ap big_endian_value (take-append-le 4 piece rest enough)

pub said_number-front : (piece rest : List ℕ) → 12 ≤ length piece → said_number (piece ++ rest) ≡ said_number piece
unfolding said_number
said_number-front piece rest enough =
    ap (λ xs. big_endian_value (take 8 xs)) (drop-append-le 4 piece rest (omega arith))
    ∙ ap big_endian_value (take-append-le 8 (drop 4 piece) rest (omega (arith, length-drop 4 piece)))

said_digest-front : (piece rest : List ℕ) → 4 ≤ length piece → said_length piece + 20 ≤ length piece → said_digest (piece ++ rest) ≡ said_digest piece
unfolding said_digest
said_digest-front piece rest enough whole =
    let size = said_length piece in
    ap (λ k. big_endian_value (take 8 (drop (k + 12) (piece ++ rest)))) (said_length-front piece rest enough)
    ∙ ap (λ xs. big_endian_value (take 8 xs)) (drop-append-le (size + 12) piece rest (omega arith))
    ∙ ap big_endian_value (take-append-le 8 (drop (size + 12) piece) rest (omega (arith, length-drop (size + 12) piece)))

true_digest-front : (piece rest : List ℕ) → 4 ≤ length piece → said_length piece + 20 ≤ length piece → true_digest (piece ++ rest) ≡ true_digest piece
unfolding true_digest
true_digest-front piece rest enough whole =
    let size = said_length piece in
    ap (λ k. big_endian_value (digest (take (k + 12) (piece ++ rest)))) (said_length-front piece rest enough)
    ∙ ap (λ xs. big_endian_value (digest xs)) (take-append-le (size + 12) piece rest (omega arith))

body-front : (piece rest : List ℕ) → 4 ≤ length piece → said_length piece + 20 ≤ length piece
    → take (said_length (piece ++ rest)) (drop 12 (piece ++ rest)) ≡ take (said_length piece) (drop 12 piece)
body-front piece rest enough whole =
    let size = said_length piece in
    ap (λ k. take k (drop 12 (piece ++ rest))) (said_length-front piece rest enough)
    ∙ ap (take size) (drop-append-le 12 piece rest (omega arith))
    ∙ take-append-le size (drop 12 piece) rest (omega (arith, length-drop 12 piece))

-- ---- enough of it

by_number-front : (id : FileId) (at number : ℕ) (piece rest : List ℕ) → said_length piece + 20 ≤ length piece
    → by_number id at (piece ++ rest) number ≡ by_number id at piece number
unfolding by_number by_digest
by_number-front id at number piece rest whole =
    rw (said_number-front piece rest (omega arith), said_digest-front piece rest (omega arith) whole, true_digest-front piece rest (omega arith) whole, body-front piece rest (omega arith) whole) refl

whole_same : (id : FileId) (at len number : ℕ) (piece rest : List ℕ) → said_length piece + 20 ≤ length piece
    → by_length id at len (piece ++ rest) number ≡ by_length id at len piece number
unfolding by_length
whole_same id at len number piece rest whole =
    let more = length-append piece rest in
    let said = said_length-front piece rest (omega arith) in
    rw (
      ne_eqb (length (piece ++ rest)) 0 (λ e. omega arith),
      le-ltb (length (piece ++ rest)) 12 (omega arith),
      le-ltb (length (piece ++ rest)) (said_length (piece ++ rest) + 20) (omega arith),
      ne_eqb (length piece) 0 (λ e. omega arith),
      le-ltb (length piece) 12 (omega arith),
      le-ltb (length piece) (said_length piece + 20) (omega arith),
    )
    (by_number-front id at number piece rest whole)

short_same : (id : FileId) (at len number : ℕ) (piece rest : List ℕ) → 12 ≤ length piece → length (piece ++ rest) < said_length piece + 20
    → by_length id at len (piece ++ rest) number ≡ by_length id at len piece number
unfolding by_length
short_same id at len number piece rest header short =
    let more = length-append piece rest in
    let said = said_length-front piece rest (omega arith) in
    rw (
      ne_eqb (length (piece ++ rest)) 0 (λ e. omega arith),
      le-ltb (length (piece ++ rest)) 12 (omega arith),
      lt-ltb (length (piece ++ rest)) (said_length (piece ++ rest) + 20) (omega arith),
      ne_eqb (length piece) 0 (λ e. omega arith),
      le-ltb (length piece) 12 (omega arith),
      lt-ltb (length piece) (said_length piece + 20) (omega arith),
    )
    (ap (λ k. damaged id at (at + (k + 20)) len) said)

needed-header : (left : List ℕ) → 12 ≤ length left → needed left ≡ said_length left + 20
unfolding needed
needed-header left header = rw (le-ltb (length left) 12 header) refl

needed-few : (left : List ℕ) → length left < 12 → needed left ≡ 12
unfolding needed
needed-few left few = rw (lt-ltb (length left) 12 few) refl

enough_same : (id : FileId) (at len number : ℕ) (left piece : List ℕ) → IsEnough left piece → by_length id at len left number ≡ by_length id at len piece number
enough_same id at len number left piece is =
    let n = length piece in
    let rest = drop n left in
    let parts : piece ++ rest ≡ left = ap (λ xs. xs ++ rest) is.front ∙ take-append-drop n left in
    let more = length-append piece rest in
    let sized : length left ≡ n + length rest = sym (ap length parts) ∙ more in
    elim is.enough [
      | inl whole ↦ elim (cases_lt (length left) 12) [
        | inl few ↦ absurd (omega (arith, needed-few left few))
        | inr header ↦
            let needs = needed-header left header in
            let said : said_length left ≡ said_length piece = sym (ap said_length parts) ∙ said_length-front piece rest (omega arith) in
            sym (ap (λ xs. by_length id at len xs number) parts) ∙ whole_same id at len number piece rest (omega arith)
      ]
      | inr other ↦ elim other [
        | inl same ↦ ap (λ xs. by_length id at len xs number) (sym (is.front ∙ take_all n left (omega arith)))
        | inr short ↦
            let needs = needed-header left (omega (arith, short.0)) in
            let said : said_length left ≡ said_length piece = sym (ap said_length parts) ∙ said_length-front piece rest (omega (arith, short.0)) in
            sym (ap (λ xs. by_length id at len xs number) parts) ∙ short_same id at len number piece rest short.0 (omega (arith, short.1))
      ]
    ]

-- what is found in a piece that is enough is what the file says
pub piece_says : (id : FileId) (at number : ℕ) (bytes piece : List ℕ) → IsEnough (drop at bytes) piece
    → frame_body id bytes at number ≡ body_or_damage id at (length bytes) piece (taken piece 0 number)
unfolding frame_body
piece_says id at number bytes piece is =
    taken_by_length id at (length bytes) number at bytes
    ∙ enough_same id at (length bytes) number (drop at bytes) piece is
    ∙ sym (taken_by_length id at (length bytes) number 0 piece)

-- an answer that is what a definition says is an answer to it
pub answers_by : (r a b : Result (List ℕ) Fault) → a ≡ b → MatchResult r (λ x. b ≡ Ok x) (λ fault. b ≡ Err fault) → Answers a r
answers_by (Ok x) a b same is = same ∙ is
answers_by (Err fault) a b same is = inr (same ∙ is)

-- ---- how much a frame needs

pub short_needs : (bytes : List ℕ) (number want have : ℕ) → taken bytes 0 number ≡ Short want have → want ≡ needed bytes
unfolding taken judged compared
short_needs bytes number want have is = elim (cases_eq (length bytes) 0) [
  | inl none ↦ absurd (let e = rw (eq-eqb (length bytes) 0 none) at is in cc)
  | inr some ↦ elim (cases_lt (length bytes) 12) [
    | inl few ↦ let e = rw (ne_eqb (length bytes) 0 some, lt-ltb (length bytes) 12 few) at is in let w : want ≡ 12 = cc in w ∙ sym (needed-few bytes few)
    | inr header ↦ elim (cases_lt (length bytes) (said_length bytes + 20)) [
      | inl short ↦
          let e = rw (ne_eqb (length bytes) 0 some, le-ltb (length bytes) 12 header, lt-ltb (length bytes) (said_length bytes + 20) short) at is in
          let w : want ≡ said_length bytes + 20 = cc in w ∙ sym (needed-header bytes header)
      | inr enough ↦
          let e = rw (ne_eqb (length bytes) 0 some, le-ltb (length bytes) 12 header, le-ltb (length bytes) (said_length bytes + 20) enough) at is in
          absurd (elim (cases_eq (said_number bytes) number) [
            | inl same ↦ let e2 = rw (eq-eqb (said_number bytes) number same) at e in elim (cases_eq (said_digest bytes) (true_digest bytes)) [
              | inl intact ↦ let e3 = rw (eq-eqb (said_digest bytes) (true_digest bytes) intact) at e2 in cc
              | inr torn ↦ let e3 = rw (ne_eqb (said_digest bytes) (true_digest bytes) torn) at e2 in cc
            ]
            | inr other ↦ let e2 = rw (ne_eqb (said_number bytes) number other) at e in cc
          ])
    ]
  ]
]

-- ---- what is read is enough

pub needed-least : (bytes : List ℕ) → 12 ≤ needed bytes
needed-least bytes = elim (cases_lt (length bytes) 12) [
  | inl few ↦ omega (arith, needed-few bytes few)
  | inr header ↦ omega (arith, needed-header bytes header)
]

said-take : (left : List ℕ) (n : ℕ) → 12 ≤ n → n ≤ length left → said_length (take n left) ≡ said_length left
said-take left n header within =
    let len = length-take-le n left within in
    sym (said_length-front (take n left) (drop n left) (omega arith)) ∙ ap said_length (take-append-drop n left)

taken_front : (left : List ℕ) (n : ℕ) → n ≤ length left → take n left ≡ take (length (take n left)) left
taken_front left n within = ap (λ k. take k left) (sym (length-take-le n left within))

-- the first piece
pub first_enough : (left piece : List ℕ) (first room : ℕ) → piece ≡ take first left → room ≡ length left → first ≤ room → (12 ≤ first) ⊎ (first ≡ room)
    → (needed piece ≤ length piece) ⊎ (room < needed piece) → IsEnough left piece
first_enough left piece first room is sized within least stops =
    let len : length piece ≡ first = ap length is ∙ length-take-le first left (omega arith) in
    record {
      front = is ∙ taken_front left first (omega arith) ∙ ap (λ xs. take (length xs) left) (sym is);
      enough = elim (cases_lt first 12) [
        | inl few ↦ inr (inl (elim least [ inl header ↦ absurd (omega arith) | inr all ↦ omega arith ]))
        | inr header ↦
            let said : said_length piece ≡ said_length left = ap said_length is ∙ said-take left first header (omega arith) in
            let needs = needed-header left (omega arith) in
            let needs' = needed-header piece (omega arith) in
            elim stops [
              | inl whole ↦ inl (omega arith)
              | inr short ↦ inr (inr (omega arith, omega arith))
            ]
      ];
    }

-- the second piece
pub second_enough : (left piece again : List ℕ) (first room : ℕ) → piece ≡ take first left → room ≡ length left → first ≤ room → (12 ≤ first) ⊎ (first ≡ room)
    → length piece < needed piece → needed piece ≤ room → again ≡ take (needed piece) left → IsEnough left again
second_enough left piece again first room is sized within least more fits is' =
    let len : length piece ≡ first = ap length is ∙ length-take-le first left (omega arith) in
    let len' : length again ≡ needed piece = ap length is' ∙ length-take-le (needed piece) left (omega arith) in
    let header : 12 ≤ first = elim least [ inl header ↦ header | inr all ↦ absurd (omega arith) ] in
    let said : said_length piece ≡ said_length left = ap said_length is ∙ said-take left first header (omega arith) in
    let needs = needed-header left (omega arith) in
    let needs' = needed-header piece (omega arith) in
    record {
      front = is' ∙ ap (λ k. take k left) (sym len');
      enough = inl (omega arith);
    }

-- the frame that a front of what is left of a file begins with stands in the file
pub stands_in : (bytes piece : List ℕ) (at number : ℕ) (body : List ℕ) → IsEnough (drop at bytes) piece → StandsAt piece 0 (number, body) → StandsAt bytes at (number, body)
stands_in bytes piece at number body is stands =
    let left = drop at bytes in
    let behind = drop (length piece) left in
    let parts : piece ++ behind ≡ left = ap (λ xs. xs ++ behind) is.front ∙ take-append-drop (length piece) left in
    record {
      fits = stands.fits;
      rest = stands.rest ++ behind;
      spelled = sym parts ∙ ap (λ xs. xs ++ behind) stands.spelled ∙ append_assoc (frame number body) stands.rest behind;
    }
