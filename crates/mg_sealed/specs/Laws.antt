-- What is written is read again.
use Rattle.std.specs.Prelude.{◌≡◌, ℕ, ◌<◌, ◌^◌, List, ◌∷◌, ◌++◌, length, Ok}
use Rattle.mg_frame.specs.Frames.{numbered_frames}
use Rattle.mg_types.specs.declared.names.FileId.{FileId}
use Rattle.mg_sealed.specs.Reading.{frame_body}

-- each frame of a file of numbered frames is read at its place, and is damaged nowhere
abbrev pub WrittenFrameIsRead : Type 0
WrittenFrameIsRead = (id : FileId) (before after : List (List ℕ)) (body : List ℕ) → length before < 2 ^ 64 → length body < 2 ^ 32
    → frame_body id (numbered_frames (before ++ body ∷ after)) (length (numbered_frames before)) (length before) ≡ Ok body
