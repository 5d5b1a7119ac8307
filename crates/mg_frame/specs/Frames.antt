-- Frames one after another, as sealed files and logs hold them, and what a crash may leave of a log.
use Rattle.std.specs.Prelude.{◌≡◌, ℕ, ◌+◌, ◌<◌, ◌≤◌, ◌^◌, List, [], ◌∷◌, ◌++◌, length, take}
use Rattle.std.specs.List.{All, enumerate_from}
use Rattle.mg_types.specs.Bytes.{AreBytes}
use Rattle.mg_frame.specs.Frame.{frame, IsEntry, StandsAt, BeginsWithNone, NoFrame}

-- the frames of these numbers and bodies, one after another
unfoldable pub frames : List (ℕ × List ℕ) → List ℕ
frames [] = []
frames (entry ∷ entries) = frame entry.0 entry.1 ++ frames entries

-- the frames of these bodies, numbered 0, 1, 2 in their order
unfoldable pub numbered_frames : List (List ℕ) → List ℕ
numbered_frames bodies = frames (enumerate_from 0 bodies)

-- no frame of the image is whole by chance: each of them stands at its offset in what was written, too
unfoldable pub NoChance : List ℕ → List ℕ → Type 0
NoChance image written = (at : ℕ) (entry : ℕ × List ℕ) → StandsAt image at entry → StandsAt written at entry

-- an image that is read up to its first frame that is not whole gives the first `count` of these entries
pub record ReadsFirst (image : List ℕ) (entries : List (ℕ × List ℕ)) (count : ℕ) : Type 0 where
  pub among : count ≤ length entries
  pub rest : List ℕ
  pub image_is : image ≡ frames (take count entries) ++ rest
  pub then_none : BeginsWithNone rest

-- what is read of a torn log: at least the frames that the image begins with, and then a front of the others
abbrev pub TornLogLaw : Type 0
TornLogLaw = (entries : List (ℕ × List ℕ)) (image tail : List ℕ) (least : ℕ) → All IsEntry entries → AreBytes image → least ≤ length entries
    → image ≡ frames (take least entries) ++ tail → length image ≤ length (frames entries) → NoChance image (frames entries)
    → (count : ℕ) × (least ≤ count) × ReadsFirst image entries count

-- bytes are read in one way: two lists of entries that they give, each up to the first frame that is not whole, are the same
abbrev pub OneReadingLaw : Type 0
OneReadingLaw = (one other : List (ℕ × List ℕ)) (rest rest' : List ℕ) → All IsEntry one → All IsEntry other → frames one ++ rest ≡ frames other ++ rest'
    → BeginsWithNone rest → BeginsWithNone rest' → (one ≡ other) × (rest ≡ rest')

-- where no whole frame at all begins bytes, none of any number does
abbrev pub NoneOfAnyLaw : Type 0
NoneOfAnyLaw = (number : ℕ) (bytes : List ℕ) → number < 2 ^ 64 → BeginsWithNone bytes → NoFrame number bytes

-- frames with numbers that rise by one are read in one way: two lists of bodies that the same bytes give, each up to the first offset where
-- no frame of the next number begins, are the same
abbrev pub OneNumberedReadingLaw : Type 0
OneNumberedReadingLaw = (number : ℕ) (one other : List (List ℕ)) (rest rest' : List ℕ) → number + length one < 2 ^ 64 → number + length other < 2 ^ 64
    → All (λ body. length body < 2 ^ 32) one → All (λ body. length body < 2 ^ 32) other
    → frames (enumerate_from number one) ++ rest ≡ frames (enumerate_from number other) ++ rest'
    → NoFrame (number + length one) rest → NoFrame (number + length other) rest' → (one ≡ other) × (rest ≡ rest')

-- an image that is no longer than the front of what was written has no frame by chance against that front, if it has none against all of it
abbrev pub FrontChanceLaw : Type 0
FrontChanceLaw = (image front rest : List ℕ) → length image ≤ length front → NoChance image (front ++ rest) → NoChance image front

-- an image that has no frame by chance against what was written has none against more than that
abbrev pub MoreChanceLaw : Type 0
MoreChanceLaw = (image front rest : List ℕ) → NoChance image front → NoChance image (front ++ rest)
