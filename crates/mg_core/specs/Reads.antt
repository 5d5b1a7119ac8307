-- What a layout gives of a key and of a number.
use Rattle.std.specs.Prelude.{ℕ, List, [], ◌∷◌, Bool, false, ◌==◌, Option, None, Some, if◌then◌else◌}
use Rattle.std.specs.Option.{option_and_then, option_map, option_map_or}
use Rattle.std.specs.List.{filter, find}
use Rattle.std.specs.Str.{bytes_eq}
use Rattle.mg_types.specs.declared.documents.Doc.{Doc}
use Rattle.mg_types.specs.declared.keys.Key.{Key}
use Rattle.mg_types.specs.declared.items.Entry.{Entry}
use Rattle.mg_types.specs.declared.items.Item.{Item}
use Rattle.mg_core.specs.Layouts.{Layout, Run, records_of}

-- the first of two that is there
abbrev pub first_of_two : {X : Type 0} → Option X → Option X → Option X
first_of_two None other = other
first_of_two (Some x) other = Some x

-- the entry of a key in the first of some runs that has one
abbrev pub found : List Run → Key → Option Entry
found [] key = None
found (run ∷ runs) key = first_of_two (find (λ e. bytes_eq e.key key) run.entries) (found runs key)

-- the record with this number
abbrev pub record_at : Layout → ℕ → Option Item
record_at l n = find (λ r. r.seq == n) (records_of l.segments)

-- what a layout gives of an entry: the number and the document of its record, or nothing where it is that of a delete
abbrev pub read_entry : Layout → Entry → Option (ℕ × Doc)
read_entry l e = if e.gone then None else option_and_then (λ r. option_map (λ doc. (r.seq, doc)) r.doc) (record_at l e.seq)

-- what a layout gives of a key, by its entry in the newest run that has one
abbrev pub read_by : Layout → Key → Option (ℕ × Doc)
read_by l key = option_and_then (read_entry l) (found l.runs key)

-- whether the index leads from a record's key to this record
abbrev pub is_led_to : Layout → Item → Bool
is_led_to l r = option_map_or (λ e. e.seq == r.seq) (found l.runs r.key) false

-- the records to which the index leads
abbrev pub led_records : Layout → List Item
led_records l = filter (is_led_to l) (records_of l.segments)
