-- What a payload says of an entry.
use Rattle.std.specs.Prelude.{ℕ, ◌^◌, ◌==◌, List, length, take, drop, nat_lt, if◌then◌else◌, Result, Ok, Err}
use Rattle.mg_frame.specs.BigEndian.{big_endian_value}
use Rattle.mg_types.specs.declared.items.Entry.{Entry}
use Rattle.mg_table.specs.declared.entry.Payload.{Payload}
use Rattle.mg_table.specs.declared.entry.Refused.{Refused}
use Rattle.mg_table.specs.declared.entry.Refused.TheVariants.{Number, Form}

-- the numbers of an entry
abbrev pub numbers_of : Entry → Payload
numbers_of entry = record { seq = entry.seq; size = entry.size; gone = entry.gone }

-- the numbers of an entry, judged from left to right
abbrev pub judged_numbers : ℕ → ℕ → ℕ → Result Payload Refused
judged_numbers seq size gone =
    if nat_lt seq (2 ^ 62) then
    (if nat_lt seq 1 then Err Form
    else (if nat_lt size 1 then Err Form
    else (if nat_lt 1048826 size then Err Form
    else (if nat_lt 1 gone then Err Form
    else Ok (record { seq = seq; size = size; gone = gone == 1 })))))
    else Err (Number seq)

-- a payload of 13 bytes by its numbers; of any other length it is refused
unfoldable pub judged_payload : List ℕ → Result Payload Refused
judged_payload payload =
    if length payload == 13 then
    judged_numbers (big_endian_value (take 8 payload)) (big_endian_value (take 4 (drop 8 payload))) (big_endian_value (take 1 (drop 12 payload)))
    else Err Form
