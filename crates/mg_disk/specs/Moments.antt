-- What a crash leaves at each moment of a run of calls.
use Rattle.std.specs.Prelude.{◌≡◌, ◌≤◌, ◌⊎◌, ℕ, Option, Some, List, ◌++◌}
use Rattle.mg_disk.specs.Images.{Image, KeepsOthers, Sets, View}
use Rattle.mg_types.specs.declared.names.Name.{Name}

-- A crash at any moment since old leaves an image that has P.
pub record LeavesOnly (old new : View) (P : Image → Type 0) : Type 0 where
  pub later : old.moment ≤ new.moment
  pub each : (c : Image) → new.left_since old.moment c → P c
  -- for a run that began earlier
  pub before : (t : ℕ) (c : Image) → t ≤ old.moment → new.left_since t c → old.left_since t c ⊎ P c

-- each image that a crash now may leave has P
abbrev pub EachImage : View → (Image → Type 0) → Type 0
EachImage view P = (c : Image) → view.may_leave c → P c

-- the log is there in the image, and begins with these bytes
abbrev pub Begins : Name → List ℕ → Image → Type 0
Begins name bytes image = (behind : List ℕ) × (image name ≡ Some (bytes ++ behind))

-- each other name stands in the image for what some crash might have left of it
abbrev pub OthersAsLeft : View → Name → Image → Type 0
OthersAsLeft view name image = (left : Image) × view.may_leave left × KeepsOthers name left image

-- an image that a crash might have left, or one in which the name stands for that instead
abbrev pub LeftOrSet : View → Name → Option (List ℕ) → Image → Type 0
LeftOrSet view name value image = view.may_leave image ⊎ ((left : Image) × view.may_leave left × Sets name value left image)

-- an image that a crash might have left, or one in which the name stands for some log instead
abbrev pub LeftOrLog : View → Name → Image → Type 0
LeftOrLog view name image = view.may_leave image ⊎ ((left : Image) × (log : List ℕ) × view.may_leave left × Sets name (Some log) left image)
