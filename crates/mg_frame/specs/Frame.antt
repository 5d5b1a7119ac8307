-- A frame: a body between its length and number and a digest of all three.
use Rattle.std.specs.Prelude.{◌≡◌, ◌≢◌, ℕ, ◌+◌, ◌<◌, ◌≤◌, ◌^◌, ◌⊎◌, ◌==◌, List, [], ◌++◌, length, take, drop, slice_range, nat_lt, if◌then◌else◌}
use Rattle.sha2.specs.Sha256.{sha256}
use Rattle.mg_frame.specs.BigEndian.{big_endian, big_endian_value}
use Rattle.mg_frame.specs.declared.frame.Taken.{Taken}
use Rattle.mg_frame.specs.declared.frame.Taken.TheVariants.{Whole, End, Short, Number, Torn}

-- the first 8 bytes of the SHA-256 digest
unfoldable pub digest : List ℕ → List ℕ
digest bytes = take 8 (sha256 bytes)

-- what stands before a frame's body: how many bytes the body has, in 4 bytes, and the frame's number in 8
abbrev pub frame_header : ℕ → ℕ → List ℕ
frame_header number body_len = big_endian 4 body_len ++ big_endian 8 number

-- what a frame's digest covers: the header and the body
unfoldable pub covered : ℕ → List ℕ → List ℕ
covered number body = frame_header number (length body) ++ body

-- the frame of a number and a body
unfoldable pub frame : ℕ → List ℕ → List ℕ
frame number body = covered number body ++ digest (covered number body)

-- how long a body the first 4 bytes say
unfoldable pub said_length : List ℕ → ℕ
said_length bytes = big_endian_value (take 4 bytes)

-- the number in the 8 bytes after the length
unfoldable pub said_number : List ℕ → ℕ
said_number bytes = big_endian_value (take 8 (drop 4 bytes))

-- the 8 bytes after the body, as a number
unfoldable pub said_digest : List ℕ → ℕ
said_digest bytes = big_endian_value (take 8 (drop (said_length bytes + 12) bytes))

-- the digest of length, number and body, as a number
unfoldable pub true_digest : List ℕ → ℕ
true_digest bytes = big_endian_value (digest (take (said_length bytes + 12) bytes))

-- the answer for a frame of which all but the digest was found in order, with these bytes left from the offset `at` on
unfoldable pub compared : List ℕ → ℕ → Taken
compared left at =
    if said_digest left == true_digest left then Whole (at + 12) (at + 12 + said_length left) (at + 20 + said_length left)
    else Torn (said_digest left) (true_digest left)

-- what is found where a frame of the number `asked` should begin, with these bytes left from the offset `at` on
unfoldable pub judged : List ℕ → ℕ → ℕ → Taken
judged left at asked =
    if length left == 0 then End
    else (if nat_lt (length left) 12 then Short 12 (length left)
    else (if nat_lt (length left) (said_length left + 20) then Short (said_length left + 20) (length left)
    else (if said_number left == asked then compared left at
    else Number (said_number left) asked)))

-- what is found at the offset `at`, where a frame of the number `asked` should begin
unfoldable pub taken : List ℕ → ℕ → ℕ → Taken
taken bytes at asked = judged (drop at bytes) at asked

-- the bytes from `at` on are the frame of this number around the bytes from `start` to `end`, and then those from `next` on
pub record IsFrameAt (bytes : List ℕ) (at number start end next : ℕ) : Type 0 where
  pub begins : start ≡ at + 12
  pub body_in_order : start ≤ end
  pub goes_on : next ≡ end + 8
  pub within : next ≤ length bytes
  pub spelled : drop at bytes ≡ frame number (slice_range bytes start end) ++ drop next bytes

-- a number and a body that a frame can have
pub record IsEntry (entry : ℕ × List ℕ) : Type 0 where
  pub number_fits : entry.0 < 2 ^ 64
  pub body_fits : length entry.1 < 2 ^ 32

-- the whole frame of this number and body stands in the bytes at the offset `at`
pub record StandsAt (bytes : List ℕ) (at : ℕ) (entry : ℕ × List ℕ) : Type 0 where
  pub fits : IsEntry entry
  pub rest : List ℕ
  pub spelled : drop at bytes ≡ frame entry.0 entry.1 ++ rest

-- the bytes begin with no whole frame, of whatever number
unfoldable pub BeginsWithNone : List ℕ → Type 0
BeginsWithNone bytes = (entry : ℕ × List ℕ) (rest : List ℕ) → IsEntry entry → bytes ≡ frame entry.0 entry.1 ++ rest → ⊥

-- the bytes begin with no whole frame of this number; a log ends there, also where the whole frame of another number stands
unfoldable pub NoFrame : ℕ → List ℕ → Type 0
NoFrame number bytes = (body rest : List ℕ) → length body < 2 ^ 32 → bytes ≡ frame number body ++ rest → ⊥

-- what each answer says of the bytes from `at` on
abbrev pub Means : List ℕ → ℕ → ℕ → Taken → Type 0
Means bytes at number (Whole start end next) = IsFrameAt bytes at number start end next × StandsAt bytes at (number, slice_range bytes start end)
Means bytes at number End = drop at bytes ≡ []
Means bytes at number (Short want have) = (have ≡ length (drop at bytes)) × (have < want) × ((want ≡ 12) ⊎ (want ≡ said_length (drop at bytes) + 20)) × BeginsWithNone (drop at bytes)
Means bytes at number (Number kept asked) = (asked ≡ number) × (kept ≢ asked)
Means bytes at number (Torn kept found) = (kept ≢ found) × BeginsWithNone (drop at bytes)

-- what stands before a frame and what follows it are free: where the frame of a body stands at `at`, this is the answer
abbrev pub TakesWritten : List ℕ → ℕ → ℕ → Taken → Type 0
TakesWritten bytes at number answer = (body rest : List ℕ) → length body < 2 ^ 32 → drop at bytes ≡ frame number body ++ rest
    → answer ≡ Whole (at + 12) (at + 12 + length body) (at + 20 + length body)

-- every answer but a whole frame says that none of this number begins there
abbrev pub EndsLog : List ℕ → ℕ → ℕ → Taken → Type 0
EndsLog bytes at number (Whole start end next) = Unit {0}
EndsLog bytes at number End = NoFrame number (drop at bytes)
EndsLog bytes at number (Short want have) = NoFrame number (drop at bytes)
EndsLog bytes at number (Number kept asked) = NoFrame number (drop at bytes)
EndsLog bytes at number (Torn kept found) = NoFrame number (drop at bytes)
