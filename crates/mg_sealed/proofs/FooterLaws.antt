-- The footer of a sealed file.
use Rattle.std.proofs.Common.{◌≡◌, ℕ, ◌+◌, ◌-◌, ◌≤◌, inl, inr, List, [], ◌∷◌, ◌++◌, length, drop, refl, sym, ap, ◌∙◌, arith, eqb, true}
use Rattle.std.proofs.lemmas.List.{append-nil, length-append, length-drop, drop_at, take-append-drop}
use Rattle.std.proofs.lemmas.Bool.{eq-eqb}
use Rattle.mg_frame.specs.Frame.{frame, said_number, taken}
use Rattle.mg_frame.specs.Frames.{numbered_frames}
use Rattle.mg_frame.proofs.FrameLaws.{length-frame, said_number-frame}
use Rattle.mg_types.specs.declared.names.FileId.{FileId}
use Rattle.mg_sealed.specs.Footer.{said_blocks, judged_footer, footer_body, WrittenFooterIsRead}
use Rattle.mg_sealed.specs.Reading.{body_or_damage, IsEnough}
use Rattle.mg_sealed.proofs.ReadingLaws.{said_number-front, needed-least, piece_says}
use Rattle.mg_sealed.proofs.WritingLaws.{numbered-more}
use Rattle.mg_sealed.proofs.WrittenLaws.{written_frame_is_read}

-- a piece that is enough of a file has a whole front, where the file has one, and says the same number
pub enough_header : (left piece : List ℕ) → IsEnough left piece → 12 ≤ length left → 12 ≤ length piece
enough_header left piece is header = elim is.enough [
  | inl whole ↦ omega (arith, needed-least left)
  | inr other ↦ elim other [ inl same ↦ omega arith | inr short ↦ short.0 ]
]

pub same_number : (left piece : List ℕ) → IsEnough left piece → 12 ≤ length left → said_number left ≡ said_number piece
same_number left piece is header =
    let n = length piece in
    let rest = drop n left in
    let parts : piece ++ rest ≡ left = ap (λ xs. xs ++ rest) is.front ∙ take-append-drop n left in
    sym (ap said_number parts) ∙ said_number-front piece rest (enough_header left piece is header)

pub written_footer_is_read : WrittenFooterIsRead
unfolding footer_body
written_footer_is_read id before footer others few fits count =
    let bytes = numbered_frames (before ++ footer ∷ []) in
    let front = numbered_frames before in
    let last = frame (length before) footer in
    let parts : bytes ≡ front ++ last = numbered-more before footer in
    let len : length bytes ≡ length front + (length footer + 20) =
    ap length parts ∙ length-append front last ∙ ap (λ k. length front + k) (length-frame (length before) footer) in
    let place : length bytes - (length footer + 20) ≡ length front = omega arith in
    let left : drop (length front) bytes ≡ last ++ [] = ap (drop (length front)) parts ∙ drop_at front last (length front) refl ∙ sym (append-nil last) in
    let number : said_number (drop (length front) bytes) ≡ length before = ap said_number left ∙ said_number-frame (length before) footer [] few in
    let whole = written_frame_is_read id before [] footer few fits in
    let same : eqb (length before) (said_blocks footer + others) ≡ true = eq-eqb (length before) (said_blocks footer + others) count in
    rw (place, number, whole, eq-eqb (length footer + 20) (length footer + 20) refl, same) refl

-- what is found in a piece that is enough, with the number that stands in it, is what the file says
pub footer_says : (id : FileId) (bytes piece : List ℕ) (at size others stored : ℕ) → at ≡ length bytes - size → 12 ≤ size → size ≤ length bytes
    → IsEnough (drop at bytes) piece → (12 ≤ length piece → stored ≡ said_number piece)
    → footer_body id bytes size others ≡ judged_footer id at size others stored (body_or_damage id at (length bytes) piece (taken piece 0 stored))
unfolding footer_body
footer_says id bytes piece at size others stored place header within is number =
    let left : 12 ≤ length (drop at bytes) = omega (arith, length-drop at bytes) in
    let same : said_number (drop at bytes) ≡ stored = same_number (drop at bytes) piece is left ∙ sym (number (enough_header (drop at bytes) piece is left)) in
    rw (sym place, same, piece_says id at stored bytes piece is) refl
