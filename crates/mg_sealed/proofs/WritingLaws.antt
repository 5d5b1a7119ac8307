-- Frames one after another, with one more.
use Rattle.std.proofs.Common.{◌≡◌, ℕ, ◌+◌, List, [], ◌∷◌, ◌++◌, length, refl, sym, ap, ◌∙◌, arith, append_assoc, Option, Some, None, IfSome}
use Rattle.std.proofs.lemmas.List.{append-nil, length-append}
use Rattle.std.specs.List.{enumerate_from}
use Rattle.mg_disk.specs.Files.{extended}
use Rattle.mg_frame.specs.Frame.{frame}
use Rattle.mg_frame.specs.Frames.{frames, numbered_frames}
use Rattle.mg_frame.proofs.FrameLaws.{length-frame}
use Rattle.mg_sealed.specs.Writing.{Written, HasFrames}

pub frames_from-append : (n : ℕ) (bodies more : List (List ℕ))
    → frames (enumerate_from n (bodies ++ more)) ≡ frames (enumerate_from n bodies) ++ frames (enumerate_from (n + length bodies) more)
unfolding frames
frames_from-append n [] more = ap (λ k. frames (enumerate_from k more)) (omega arith)
frames_from-append n (body ∷ bodies) more =
    ap (λ xs. frame n body ++ xs) (frames_from-append (n + 1) bodies more ∙ ap (λ k. frames (enumerate_from (n + 1) bodies) ++ frames (enumerate_from k more)) (omega arith))
    ∙ sym (append_assoc (frame n body) (frames (enumerate_from (n + 1) bodies)) (frames (enumerate_from (n + length (body ∷ bodies)) more)))

frames_from-one : (n : ℕ) (body : List ℕ) → frames (enumerate_from n (body ∷ [])) ≡ frame n body
unfolding frames
frames_from-one n body = append-nil (frame n body)

pub numbered-more : (bodies : List (List ℕ)) (body : List ℕ) → numbered_frames (bodies ++ body ∷ []) ≡ numbered_frames bodies ++ frame (length bodies) body
unfolding numbered_frames
numbered-more bodies body =
    frames_from-append 0 bodies (body ∷ [])
    ∙ ap (λ xs. frames (enumerate_from 0 bodies) ++ xs) (frames_from-one (0 + length bodies) body ∙ ap (λ k. frame k body) (omega arith))

pub numbered-none : numbered_frames [] ≡ []
unfolding numbered_frames frames
numbered-none = refl

extended_is : (told after : Option (List ℕ)) (more before : List ℕ) → after ≡ extended told more → IfSome told (λ bytes. bytes ≡ before) → IfSome after (λ bytes. bytes ≡ before ++ more)
extended_is None None more before is same = tt
extended_is None (Some y) more before is same = absurd cc
extended_is (Some x) None more before is same = absurd cc
extended_is (Some x) (Some y) more before is same = let e : y ≡ x ++ more = cc in e ∙ ap (λ xs. xs ++ more) same

-- a frame more was put into the draft
pub puts_frame : {D : Type 0} (drafted : D → Option (List ℕ)) (old new : Written D) (bodies : List (List ℕ)) (body piece : List ℕ) → HasFrames drafted old bodies
    → drafted new.draft ≡ extended (drafted old.draft) piece → piece ≡ frame old.count body → new.len ≡ old.len + (length body + 20) → new.count ≡ old.count + 1
    → HasFrames drafted new (bodies ++ body ∷ [])
puts_frame drafted old new bodies body piece has put is len count =
    let framed : piece ≡ frame (length bodies) body = is ∙ ap (λ k. frame k body) has.count in
    let all = numbered-more bodies body in
    record {
      bytes = rw all (rw framed at (extended_is (drafted old.draft) (drafted new.draft) piece (numbered_frames bodies) put has.bytes));
      len = len ∙ ap (λ k. k + (length body + 20)) has.len
          ∙ sym (ap length all ∙ length-append (numbered_frames bodies) (frame (length bodies) body) ∙ ap (λ k. length (numbered_frames bodies) + k) (length-frame (length bodies) body));
      count = count ∙ ap (λ k. k + 1) has.count ∙ sym (length-append bodies (body ∷ []));
    }
