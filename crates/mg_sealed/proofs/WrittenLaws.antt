-- What is written is read again.
use Rattle.std.proofs.Common.{◌≡◌, ℕ, ◌+◌, List, ◌∷◌, ◌++◌, length, take, drop, refl, sym, ap, ◌∙◌, arith, append_assoc, Result, Ok}
use Rattle.std.proofs.lemmas.List.{length-append, drop_at, take_at}
use Rattle.std.specs.List.{enumerate_from}
use Rattle.mg_frame.specs.BigEndian.{big_endian}
use Rattle.mg_frame.proofs.BigEndianLaws.{length-big_endian}
use Rattle.mg_frame.specs.Frame.{digest, covered, frame}
use Rattle.mg_frame.specs.Frames.{frames, numbered_frames}
use Rattle.mg_frame.proofs.FrameLaws.{frame_covered, covered_parts, TakesWritten-taken, slice_body}
use Rattle.mg_types.specs.declared.faults.Fault.{Fault}
use Rattle.mg_sealed.specs.Laws.{WrittenFrameIsRead}
use Rattle.mg_sealed.specs.Reading.{body_or_damage, frame_body}
use Rattle.mg_sealed.proofs.WritingLaws.{frames_from-append}

body_in_frame : (number : ℕ) (body rest : List ℕ) → take (length body) (drop 12 (frame number body ++ rest)) ≡ body
body_in_frame number body rest =
    let size = big_endian 4 (length body) in
    let numbered = big_endian 8 number in
    let x = digest (covered number body) ++ rest in
    let parts : frame number body ++ rest ≡ (size ++ numbered) ++ (body ++ x) =
    frame_covered number body rest ∙ covered_parts number body x ∙ sym (append_assoc size numbered (body ++ x)) in
    let header : length (size ++ numbered) ≡ 12 =
    omega (arith, length-append size numbered, length-big_endian 4 (length body), length-big_endian 8 number) in
    ap (λ xs. take (length body) (drop 12 xs)) parts
    ∙ ap (take (length body)) (drop_at (size ++ numbered) (body ++ x) 12 header)
    ∙ take_at body x (length body) refl

frames-first : (n : ℕ) (body : List ℕ) (after : List (List ℕ)) → frames (enumerate_from n (body ∷ after)) ≡ frame n body ++ frames (enumerate_from (n + 1) after)
unfolding frames
frames-first n body after = refl

pub written_frame_is_read : WrittenFrameIsRead
unfolding numbered_frames frame_body
written_frame_is_read id before after body few fits =
    let bytes = frames (enumerate_from 0 (before ++ body ∷ after)) in
    let at = length (frames (enumerate_from 0 before)) in
    let number = length before in
    let rest = frames (enumerate_from (number + 1) after) in
    let parts : bytes ≡ frames (enumerate_from 0 before) ++ (frame number body ++ rest) =
    frames_from-append 0 before (body ∷ after)
    ∙ ap (λ k. frames (enumerate_from 0 before) ++ frames (enumerate_from k (body ∷ after))) (omega arith)
    ∙ ap (λ xs. frames (enumerate_from 0 before) ++ xs) (frames-first number body after) in
    let left : drop at bytes ≡ frame number body ++ rest = ap (drop at) parts ∙ drop_at (frames (enumerate_from 0 before)) (frame number body ++ rest) at refl in
    let whole = TakesWritten-taken bytes at number few body rest fits left in
    let found = slice_body bytes at (length body) ∙ ap (λ xs. take (length body) (drop 12 xs)) left ∙ body_in_frame number body rest in
    ap (body_or_damage id at (length bytes) bytes) whole
    ∙ ap (λ (xs : List ℕ). let answer : Result (List ℕ) Fault = Ok xs in answer) found
