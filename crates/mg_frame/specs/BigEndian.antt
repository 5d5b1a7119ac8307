-- Numbers and byte lists as fields of a record: big-endian, and a list after the count of its bytes.
use Rattle.std.specs.Prelude.{◌≡◌, ℕ, ◌+◌, ◌*◌, ◌<◌, ◌^◌, List, ◌++◌, length, take, drop, fold, nat_le, if◌then◌else◌, Option, Some, None, option_and_then}
use Rattle.std.specs.Int.{bytes_high_first}
pub use Rattle.mg_types.specs.Bytes.{AreBytes}

-- the number n in `width` bytes, the highest byte first
unfoldable pub big_endian : ℕ → ℕ → List ℕ
big_endian width n = bytes_high_first width n

-- the number that these bytes spell, the highest byte first
unfoldable pub big_endian_value : List ℕ → ℕ
big_endian_value bytes = fold (λ high byte. high * 256 + byte) 0 bytes

-- the number in the first `width` bytes; none where fewer are there
unfoldable pub front_number : ℕ → List ℕ → Option ℕ
front_number width bytes = if nat_le width (length bytes) then Some (big_endian_value (take width bytes)) else None

-- a list after the count of its bytes, which is a number of `width` bytes
unfoldable pub counted : ℕ → List ℕ → List ℕ
counted width list = big_endian width (length list) ++ list

-- the first `count` bytes; none where fewer are there
unfoldable pub front_bytes : ℕ → List ℕ → Option (List ℕ)
front_bytes count bytes = if nat_le count (length bytes) then Some (take count bytes) else None

-- the list after a count of `width` bytes; none where the count or the list is not all there
unfoldable pub front_list : ℕ → List ℕ → Option (List ℕ)
front_list width bytes = option_and_then (λ count. front_bytes count (drop width bytes)) (front_number width bytes)

-- a number that was written is read again, whatever follows it
abbrev pub WrittenNumberIsRead : Type 0
WrittenNumberIsRead = (width n : ℕ) (rest : List ℕ) → n < 256 ^ width → front_number width (big_endian width n ++ rest) ≡ Some n

-- what is read as a number is that number as it is written, and then the rest
abbrev pub ReadNumberIsWritten : Type 0
ReadNumberIsWritten = (width : ℕ) (bytes : List ℕ) (n : ℕ) → AreBytes bytes → front_number width bytes ≡ Some n
    → (bytes ≡ big_endian width n ++ drop width bytes) × (n < 256 ^ width)

-- a counted list that was written is read again, whatever follows it
abbrev pub WrittenListIsRead : Type 0
WrittenListIsRead = (width : ℕ) (list rest : List ℕ) → length list < 256 ^ width → front_list width (counted width list ++ rest) ≡ Some list

-- what is read as a counted list is that list as it is written, and then the rest
abbrev pub ReadListIsWritten : Type 0
ReadListIsWritten = (width : ℕ) (bytes list : List ℕ) → AreBytes bytes → front_list width bytes ≡ Some list
    → (bytes ≡ counted width list ++ drop (width + length list) bytes) × (length list < 256 ^ width)
