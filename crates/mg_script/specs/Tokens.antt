-- How numbers and lists of bytes are spelled in a script and in a transcript, and read again.
use Rattle.std.specs.Prelude.{◌≡◌, ◌≤◌, drop, length, slice_index, ℕ, ◌+◌, ◌-◌, ◌*◌, ◌/◌, ◌%◌, ◌^◌, List, [], ◌∷◌, Bool, not, ◌&&◌, ◌||◌, ◌==◌, nat_lt, nat_le, Option, None, Some, if◌then◌else◌}
use Rattle.std.specs.Option.{option_map, option_and_then}
use Rattle.std.specs.List.{flat_map, list_all}
use Rattle.std.specs.Char.{is_ascii_digit}
use Rattle.std.specs.Fmt.{decimal}
use Rattle.std.specs.Str.{bytes_eq}
use Rattle.std.specs.Str.Parse.{digits_value}

-- the number below 2^64 whose decimal spelling this is
unfoldable pub number_of : List ℕ → Option ℕ
number_of text = if bytes_eq (decimal (digits_value 10 text)) text && nat_lt (digits_value 10 text) (2 ^ 64) then Some (digits_value 10 text) else None

-- a byte that stands for itself in a token: a printable one other than %, [ and ]
abbrev pub is_plain : ℕ → Bool
is_plain b = nat_le 33 b && nat_le b 126 && not (b == 37) && not (b == 91) && not (b == 93)

-- the upper-case hexadecimal digit of a number below 16
abbrev pub hex_digit : ℕ → ℕ
hex_digit n = if nat_lt n 10 then 48 + n else 55 + n

-- a byte in a token: itself where it is plain, else % and its two digits
unfoldable pub byte_text : ℕ → List ℕ
byte_text b = if is_plain b then b ∷ [] else 37 ∷ hex_digit (b / 16) ∷ hex_digit (b % 16) ∷ []

-- the token of a list of bytes: its bytes, or a lone % where there are none
unfoldable pub token_of : List ℕ → List ℕ
token_of bytes = if length bytes == 0 then 37 ∷ [] else flat_map byte_text bytes

-- what an upper-case hexadecimal digit stands for
abbrev pub hex_value : ℕ → Option ℕ
hex_value c = if nat_le 48 c && nat_le c 57 then Some (c - 48) else (if nat_le 65 c && nat_le c 70 then Some (c - 55) else None)

-- the byte that two digits behind a % stand for, where it is none that stands for itself
abbrev pub escaped : ℕ → ℕ → Option ℕ
escaped high low = option_and_then (λ h. option_and_then (λ l. if is_plain (16 * h + l) then None else Some (16 * h + l)) (hex_value low)) (hex_value high)

-- this byte in front, where it stands for itself
abbrev pub plain_then : ℕ → Option (List ℕ) → Option (List ℕ)
plain_then c rest = if is_plain c then option_map (λ bytes. c ∷ bytes) rest else None

-- the bytes that some spelled bytes stand for
unfoldable pub bytes_spelled : List ℕ → Option (List ℕ)
bytes_spelled [] = Some []
bytes_spelled (c ∷ []) = plain_then c (Some [])
bytes_spelled (c ∷ d ∷ []) = plain_then c (bytes_spelled (d ∷ []))
bytes_spelled (c ∷ d ∷ e ∷ rest) =
    if c == 37 then option_and_then (λ b. option_map (λ bytes. b ∷ bytes) (bytes_spelled rest)) (escaped d e)
    else plain_then c (bytes_spelled (d ∷ e ∷ rest))

-- the bytes whose token this is
unfoldable pub bytes_of_token : List ℕ → Option (List ℕ)
bytes_of_token text = if bytes_eq text (37 ∷ []) then Some [] else (if length text == 0 then None else bytes_spelled text)

-- whether a text is decimal digits, with no leading zero but for 0 itself
abbrev pub is_decimal : List ℕ → Bool
is_decimal text = nat_lt 0 (length text) && (length text == 1 || not (slice_index text 0 == 48)) && list_all is_ascii_digit text

-- A text spells a first byte in so many bytes and then what the rest spells, or it spells nothing.
abbrev pub BeginsSpelling : List ℕ → Option (ℕ × ℕ) → Type 0
BeginsSpelling text None = bytes_spelled text ≡ None
BeginsSpelling text (Some first) = (1 ≤ first.1) × (first.1 ≤ length text) × (bytes_spelled text ≡ option_map (λ bytes. first.0 ∷ bytes) (bytes_spelled (drop first.1 text)))
