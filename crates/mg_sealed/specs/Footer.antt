-- What is read of the frame that ends a sealed file, its footer. The last 4 bytes of its body are the number of the file's blocks.
use Rattle.std.specs.Prelude.{◌≡◌, ℕ, ◌+◌, ◌-◌, ◌^◌, ◌<◌, ◌==◌, List, [], ◌∷◌, ◌++◌, length, take, drop, if◌then◌else◌, Result, Ok, Err}
use Rattle.mg_frame.specs.BigEndian.{big_endian_value}
use Rattle.mg_frame.specs.Frame.{said_number}
use Rattle.mg_frame.specs.Frames.{numbered_frames}
use Rattle.mg_types.specs.declared.faults.Fault.{Fault}
use Rattle.mg_types.specs.declared.faults.Fault.TheVariants.{Damaged, Malformed}
use Rattle.mg_types.specs.declared.names.FileId.{FileId}
use Rattle.mg_sealed.specs.Reading.{frame_body}

-- how many blocks a footer's body says
unfoldable pub said_blocks : List ℕ → ℕ
said_blocks body = big_endian_value (take 4 (drop (length body - 4) body))

-- A footer at this place, whose frame should have `size` bytes, in which this number is stored, and which stands behind the
-- blocks and `others` more frames: its body, or what is wrong. The length of the body is judged before the number.
abbrev pub judged_footer : FileId → ℕ → ℕ → ℕ → ℕ → Result (List ℕ) Fault → Result (List ℕ) Fault
judged_footer id at size others stored (Err fault) = Err fault
judged_footer id at size others stored (Ok body) =
    if length body + 20 == size then
    (if stored == said_blocks body + others then Ok body else Err (Damaged id at stored (said_blocks body + others)))
    else Err (Malformed id at)

-- the body of the footer of `size` bytes that ends these bytes, or what is damaged or malformed at its place
unfoldable pub footer_body : FileId → List ℕ → ℕ → ℕ → Result (List ℕ) Fault
footer_body id bytes size others =
    let at = length bytes - size in
    let stored = said_number (drop at bytes) in
    judged_footer id at size others stored (frame_body id bytes at stored)

-- the footer of a file of numbered frames is read where it says how many blocks stand before it and the other frames
abbrev pub WrittenFooterIsRead : Type 0
WrittenFooterIsRead = (id : FileId) (before : List (List ℕ)) (footer : List ℕ) (others : ℕ) → length before < 2 ^ 64 → length footer < 2 ^ 32
    → length before ≡ said_blocks footer + others → footer_body id (numbered_frames (before ++ footer ∷ [])) (length footer + 20) others ≡ Ok footer
