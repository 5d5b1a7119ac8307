-- Kinds of files of blocks.
use Rattle.std.specs.Prelude.{ℕ, ◌<◌, ◌≤◌, ◌^◌, Bool, true, false}

-- what is said of a kind of files
pub record Form : Type 0 where
  -- the least and the most bytes of a block's whole frame
  pub least_frame : ℕ
  pub most_frame : ℕ
  -- whether a filter's frame stands between the index and the footer
  pub filtered : Bool

-- a block's whole frame may have so many bytes, which fit their field in a handle
abbrev pub IsFrameLength : Form → ℕ → Type 0
IsFrameLength form len = (form.least_frame ≤ len) × (len ≤ form.most_frame) × (len < 2 ^ 32)

-- Tables: a block has at least an entry of 17 bytes and at most 4,096 bytes, and there is a filter.
abbrev pub table_form : Form
table_form = record { least_frame = 37; most_frame = 4116; filtered = true }

-- Segments: a block has at least 11 bytes, those of the shortest record, and at most 1,048,840, those of the longest.
abbrev pub segment_form : Form
segment_form = record { least_frame = 31; most_frame = 1048860; filtered = false }

-- Delete lists: a block has at least a record of 12 bytes and at most 4,096 bytes.
abbrev pub list_form : Form
list_form = record { least_frame = 32; most_frame = 4116; filtered = false }
