-- The list of bodies whose frames make a file.
use Rattle.std.specs.Prelude.{◌≡◌, ℕ, ◌<◌, ◌^◌, List, length}
use Rattle.std.specs.List.{All}
use Rattle.mg_frame.specs.Frames.{numbered_frames}

-- the bodies have room in frames that are numbered
pub record FitFrames (bodies : List (List ℕ)) : Type 0 where
  pub few : length bodies < 2 ^ 64
  pub small : All (λ body. length body < 2 ^ 32) bodies

-- bytes are the numbered frames of one list of bodies
abbrev pub OneListOfFrames : Type 0
OneListOfFrames = (bodies others : List (List ℕ)) → FitFrames bodies → FitFrames others → numbered_frames bodies ≡ numbered_frames others → bodies ≡ others
