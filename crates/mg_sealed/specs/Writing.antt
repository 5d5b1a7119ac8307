-- A file in writing.
use Rattle.std.specs.Prelude.{◌≡◌, ℕ, List, length, Option, IfSome}
use Rattle.mg_frame.specs.Frames.{numbered_frames}

-- a draft, how many bytes were put into it, and how many frames
pub record Written (D : Type 0) : Type 0 where
  pub draft : D
  pub len : ℕ
  pub count : ℕ

-- What was put into the draft is the frames of these bodies, numbered 0, 1, 2 in order of place.
pub record HasFrames {D : Type 0} (drafted : D → Option (List ℕ)) (writer : Written D) (bodies : List (List ℕ)) : Type 0 where
  pub bytes : IfSome (drafted writer.draft) (λ bytes. bytes ≡ numbered_frames bodies)
  pub len : writer.len ≡ length (numbered_frames bodies)
  pub count : writer.count ≡ length bodies
