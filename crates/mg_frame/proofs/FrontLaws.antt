-- A front of some bytes decides about the frame that they begin with.
use Rattle.std.proofs.Common.{◌≡◌, ◌⊎◌, inl, inr, ℕ, ◌+◌, ◌<◌, ◌≤◌, List, [], length, take, sym, refl, ap, ◌∙◌, arith, append-nil}
use Rattle.std.proofs.lemmas.Bool.{cases_eq, cases_lt, eq-eqb, le-ltb, lt-ltb, ne_eqb}
use Rattle.std.proofs.lemmas.List.{length-append, nil_from_length, take-take, take_at}
use Rattle.mg_frame.specs.BigEndian.{big_endian_value}
use Rattle.mg_frame.specs.Frame.{frame, judged, said_length, taken, NoFrame}
use Rattle.mg_frame.specs.declared.frame.Taken.{Taken}
use Rattle.mg_frame.specs.declared.frame.Taken.TheVariants.{Whole, End, Short, Number, Torn}
use Rattle.mg_frame.proofs.FrameLaws.{length-frame, said_length-frame}

-- a front that has the length says the same length
pub said_length-front : (count : ℕ) (bytes : List ℕ) → 4 ≤ count → said_length (take count bytes) ≡ said_length bytes
unfolding said_length
said_length-front count bytes enough = ap big_endian_value (take-take 4 count bytes enough)

-- too few bytes for the length that they say begin with no frame
pub none_if_less : (number : ℕ) (bytes : List ℕ) → length bytes < said_length bytes + 20 → NoFrame number bytes
unfolding NoFrame
none_if_less number bytes less = λ body rest fits is.
    omega (arith, less, ap said_length is ∙ said_length-frame number body rest fits, ap length is, length-append (frame number body) rest, length-frame number body)

-- where the front of the length that they say is no frame, the bytes begin with none
pub none_by_front : (number size : ℕ) (bytes : List ℕ) → size ≡ said_length bytes + 20 → NoFrame number (take size bytes) → NoFrame number bytes
unfolding NoFrame
none_by_front number size bytes sized none = λ body rest fits is.
    let said : said_length bytes ≡ length body = ap said_length is ∙ said_length-frame number body rest fits in
    let front : take size bytes ≡ frame number body = ap (take size) is ∙ take_at (frame number body) rest size (length-frame number body ∙ ap (λ (k : ℕ). k + 20) (sym said) ∙ sym sized) in
    none body [] fits (front ∙ sym (append-nil (frame number body)))

-- what is found where there are too few bytes for a frame
abbrev pub IsTooFew : List ℕ → Taken → Type 0
IsTooFew bytes (Whole start end next) = ⊥
IsTooFew bytes End = bytes ≡ []
IsTooFew bytes (Short want have) = (length bytes < want) × ((want ≡ 12) × (length bytes < 12) ⊎ (want ≡ said_length bytes + 20))
IsTooFew bytes (Number kept asked) = ⊥
IsTooFew bytes (Torn kept found) = ⊥

pub too_few : (number : ℕ) (bytes : List ℕ) → length bytes < said_length bytes + 20 → IsTooFew bytes (taken bytes 0 number)
unfolding taken judged
too_few number bytes less = elim (cases_eq (length bytes) 0) [
  | inl none ↦ rw (eq-eqb (length bytes) 0 none) (nil_from_length bytes none)
  | inr some ↦ elim (cases_lt (length bytes) 12) [
    | inl short ↦ rw (ne_eqb (length bytes) 0 some, lt-ltb (length bytes) 12 short) (short, inl (refl, short))
    | inr header ↦ rw (ne_eqb (length bytes) 0 some, le-ltb (length bytes) 12 header, lt-ltb (length bytes) (said_length bytes + 20) less) (less, inr refl)
  ]
]
