-- What a list of events means: the contents, what was written, which logs are in writing, and what a crash may leave.
use Rattle.std.specs.Prelude.{◌≡◌, ◌≤◌, ◌⊎◌, ◌==◌, ◌&&◌, ℕ, Bool, false, not, if◌then◌else◌, Option, None, Some, is_some, List, [], ◌∷◌, ◌++◌, length, take}
use Rattle.std.specs.BTreeSet.{BTreeSet, contains}
use Rattle.std.specs.List.{fold}
use Rattle.std.specs.Arc.{arc_value}
use Rattle.std.specs.declared.sync.Arc.{Arc}
use Rattle.std.specs.declared.alloc.Global.{Global}
use Rattle.std.specs.declared.cmp.Ordering.{Ordering}
use Rattle.mg_types.specs.declared.names.Name.{Name}
use Rattle.mg_types.specs.Names.{is_file_kind, kind_code}
use Rattle.mg_disk.specs.Files.{extended}
use Rattle.mg_disk.specs.Images.{Image, View, Sets, Grows, bytes_of}
use Rattle.mg_memdisk.specs.declared.bytes.Bytes.{Bytes}
use Rattle.mg_memdisk.specs.declared.events.Event.{Event}
use Rattle.mg_memdisk.specs.declared.events.Event.TheVariants.{Put, MayPut, Append, Sync}

-- whether two names are the same
abbrev pub same_name : Name → Name → Bool
same_name a b = (kind_code a.kind == kind_code b.kind) && (a.number == b.number)

-- whether names of that kind are those of sealed files
abbrev pub is_file : Name → Bool
is_file name = is_file_kind name.kind

-- no name stands for anything
abbrev pub nothing : Image
nothing name = None

-- the bytes that are kept
abbrev pub kept : Bytes → List ℕ
kept bytes = bytes.items.items

-- the bytes of what a name stands for
abbrev pub value_bytes : Option (Arc Bytes Global) → Option (List ℕ)
value_bytes None = None
value_bytes (Some bytes) = Some (kept (arc_value bytes))

-- what the names stand for after an event
abbrev pub held : Image → Event → Image
held image (Put name value) other = if same_name other name then value_bytes value else image other
held image (MayPut name value shown) other = if shown && same_name other name then value_bytes value else image other
held image (Append name bytes) other = if same_name other name && not (is_file name) then extended (image other) (kept bytes) else image other
held image (Sync name) other = image other

-- what was written to the logs after an event
abbrev pub writes : (Name → List ℕ) → Event → Name → List ℕ
writes written (Put name value) other = written other
writes written (MayPut name value shown) other = written other
writes written (Append name bytes) other = if same_name other name then written other ++ kept bytes else written other
writes written (Sync name) other = written other

-- which logs are in writing after an event
abbrev pub opens : (Name → Bool) → Event → Name → Bool
opens open_now (Put name value) other = if same_name other name then is_some value && not (is_file name) else open_now other
opens open_now (MayPut name value shown) other = if same_name other name then false else open_now other
opens open_now (Append name bytes) other = open_now other
opens open_now (Sync name) other = open_now other

-- what a crash may leave after an event, where it could leave that before, and the contents were these
abbrev pub may_after : (Image → Type 0) → Image → Event → Image → Type 0
may_after before contents (Put name value) c = (d : Image) × before d × Sets name (value_bytes value) d c
may_after before contents (MayPut name value shown) c = before c ⊎ ((d : Image) × before d × Sets name (value_bytes value) d c)
may_after before contents (Append name bytes) c = (d : Image) × before d × Grows name (length (bytes_of (contents name) ++ kept bytes)) d c
may_after before contents (Sync name) c = (d : Image) × before d × Sets name (contents name) d c

-- what a crash may leave after a list of events
abbrev pub leaves : (Image → Type 0) → Image → List Event → Image → Type 0
leaves before contents [] = before
leaves before contents (e ∷ events) = leaves (may_after before contents e) (held contents e) events

-- only this image
abbrev pub is_image : Image → Image → Type 0
is_image image c = c ≡ image

-- what is said of a volume in which this was found, and then this happened
abbrev pub view_of : Image → List Event → View
view_of found events = record {
  contents = fold held found events;
  written = fold writes (λ name. bytes_of (found name)) events;
  may_leave = leaves (is_image found) found events;
  moment = length events;
  left_since = λ t c. (k : ℕ) × (t ≤ k) × (k ≤ length events) × leaves (is_image found) found (take k events) c;
}

-- the set has the names that stand for something in the image
abbrev pub Lists : (Name → Name → Ordering) → BTreeSet Name → Image → Type 0
Lists cmp names image = (name : Name) → contains cmp names name ≡ is_some (image name)
