-- The image that a crash leaves, as a function of what happened and of a choice.
use Rattle.std.specs.Prelude.{◌==◌, ◌+◌, ◌-◌, ◌&&◌, ℕ, zero, suc, Bool, true, if◌then◌else◌, Option, List, [], ◌∷◌, length, drop}
use Rattle.std.specs.List.{fold, slice_index_or}
use Rattle.mg_types.specs.declared.names.Name.{Name}
use Rattle.mg_disk.specs.Files.{extended}
use Rattle.mg_disk.specs.Images.{Image, bytes_of}
use Rattle.mg_memdisk.specs.declared.events.Event.{Event}
use Rattle.mg_memdisk.specs.declared.events.Event.TheVariants.{Put, MayPut, Append, Sync}
use Rattle.mg_memdisk.specs.Events.{same_name, nothing, kept, value_bytes, held, opens}

-- the next byte of a choice; behind its end each is 0
abbrev pub first : List ℕ → ℕ
first choice = slice_index_or choice 0 0

-- the bytes that a choice puts behind a log, at most so many: before each stands a 1, and any other byte ends them
abbrev pub tail_of : ℕ → List ℕ → List ℕ
tail_of zero choice = []
tail_of (suc most) choice = if first choice == 1 then first (drop 1 choice) ∷ tail_of most (drop 2 choice) else []

-- what is left of the choice then
abbrev pub after_tail : ℕ → List ℕ → List ℕ
after_tail zero choice = choice
after_tail (suc most) choice = if first choice == 1 then after_tail most (drop 2 choice) else drop 1 choice

-- how many bytes a crash may put behind what it left of a log, when these are appended to it
abbrev pub room : Option (List ℕ) → Option (List ℕ) → List ℕ → ℕ
room now left bytes = length (bytes_of now) + length bytes - length (bytes_of left)

-- the name that an event is about
abbrev pub name_of : Event → Name
name_of (Put name value) = name
name_of (MayPut name value shown) = name
name_of (Append name bytes) = name
name_of (Sync name) = name

-- what a crash leaves of the name, where reads gave that and a crash before left that
abbrev pub left_at : Event → Option (List ℕ) → Option (List ℕ) → List ℕ → Option (List ℕ)
left_at (Put name value) now left choice = value_bytes value
left_at (MayPut name value shown) now left choice = if first choice == 1 then value_bytes value else left
left_at (Append name bytes) now left choice = extended left (tail_of (room now left (kept bytes)) choice)
left_at (Sync name) now left choice = now

-- what is left of the choice behind an event
abbrev pub choice_at : Event → Option (List ℕ) → Option (List ℕ) → List ℕ → List ℕ
choice_at (Put name value) now left choice = choice
choice_at (MayPut name value shown) now left choice = drop 1 choice
choice_at (Append name bytes) now left choice = after_tail (room now left (kept bytes)) choice
choice_at (Sync name) now left choice = choice

-- the same image but that this name stands for that
abbrev pub put_at : Name → Option (List ℕ) → Image → Image
put_at name value image other = if same_name other name then value else image other

-- an image that is being picked, and what is left of the choice
pub record Picked : Type 0 where
  pub image : Image
  pub choice : List ℕ

-- one event more, where these were the contents
abbrev pub picks_at : Image → Picked → Event → Picked
picks_at contents p e = record {
  image = put_at (name_of e) (left_at e (contents (name_of e)) (p.image (name_of e)) p.choice) p.image;
  choice = choice_at e (contents (name_of e)) (p.image (name_of e)) p.choice;
}

-- all events, one after another
abbrev pub picks : Image → Picked → List Event → Picked
picks contents p [] = p
picks contents p (e ∷ events) = picks (held contents e) (picks_at contents p e) events

-- the image that a crash leaves by a choice, where this was found and then this happened
abbrev pub picked : Image → List Event → List ℕ → Image
picked found events choice = (picks found (record { image = found; choice = choice }) events).image

-- whether an append or a sync is of a log in writing
abbrev pub is_open_for : (Name → Bool) → Event → Bool
is_open_for open_now (Put name value) = true
is_open_for open_now (MayPut name value shown) = true
is_open_for open_now (Append name bytes) = open_now name
is_open_for open_now (Sync name) = open_now name

-- whether each append and each sync is of a log that is in writing by then
abbrev pub are_open : (Name → Bool) → List Event → Bool
are_open open_now [] = true
are_open open_now (e ∷ events) = is_open_for open_now e && are_open (opens open_now e) events

-- what stood in a volume of which these events were found
abbrev pub found_in : List Event → Image
found_in found = fold held nothing found
