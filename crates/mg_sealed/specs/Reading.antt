-- What is read of a sealed file: its length is judged once, and then each frame at its place.
use Rattle.std.specs.Prelude.{◌≡◌, ℕ, ◌+◌, ◌<◌, ◌≤◌, ◌⊎◌, ◌==◌, List, length, take, slice_range, nat_lt, if◌then◌else◌, Result, Ok, Err}
use Rattle.mg_frame.specs.Frame.{taken, said_length}
use Rattle.mg_frame.specs.declared.frame.Taken.{Taken}
use Rattle.mg_frame.specs.declared.frame.Taken.TheVariants.{Whole, End, Short, Number, Torn}
use Rattle.mg_types.specs.declared.faults.Fault.{Fault}
use Rattle.mg_types.specs.declared.faults.Fault.TheVariants.{Damaged}
use Rattle.mg_types.specs.declared.names.FileId.{FileId}
use Rattle.mg_sealed.specs.declared.reading.SealedFile.{SealedFile}

-- A file of these bytes, of which this length is kept, and which ends in a frame of at least so many bytes: its lengths are
-- judged in this order.
unfoldable pub opened : {S : Type 0} → FileId → S → ℕ → ℕ → List ℕ → Result (SealedFile S) Fault
opened id file len least bytes =
    if length bytes == len then
    (if nat_lt (length bytes) least then Err (Damaged id 0 least (length bytes))
    else Ok (record { id = id; file = file; len = len }))
    else Err (Damaged id 0 len (length bytes))

-- what an answer of `take_frame` at a place says of a file of this length: the body among the bytes, or the two numbers that
-- don't agree
abbrev pub body_or_damage : FileId → ℕ → ℕ → List ℕ → Taken → Result (List ℕ) Fault
body_or_damage id at len bytes (Whole start end next) = Ok (slice_range bytes start end)
body_or_damage id at len bytes End = Err (Damaged id at (at + 12) len)
body_or_damage id at len bytes (Short want have) = Err (Damaged id at (at + want) len)
body_or_damage id at len bytes (Number kept asked) = Err (Damaged id at kept asked)
body_or_damage id at len bytes (Torn kept found) = Err (Damaged id at kept found)

-- two numbers at this place of the file don't agree
abbrev pub IsDamageAt : FileId → ℕ → Fault → Type 0
IsDamageAt id at fault = (kept : ℕ) × (found : ℕ) × (fault ≡ Damaged id at kept found)

-- the body of the frame of this number that stands at this place of a file, or what is damaged there
unfoldable pub frame_body : FileId → List ℕ → ℕ → ℕ → Result (List ℕ) Fault
frame_body id bytes at number = body_or_damage id at (length bytes) bytes (taken bytes at number)

-- how many bytes the frame needs that these bytes begin: so many as a frame's front where they have no whole front
unfoldable pub needed : List ℕ → ℕ
needed bytes = if nat_lt (length bytes) 12 then 12 else said_length bytes + 20

-- The piece is a front of what is left of a file, and enough of it to judge the frame that begins there.
pub record IsEnough (left piece : List ℕ) : Type 0 where
  pub front : piece ≡ take (length piece) left
  pub enough : (needed left ≤ length piece) ⊎ (length piece ≡ length left) ⊎ ((12 ≤ length piece) × (length left < needed left))
