-- What names stand for while an image is picked: in what reads give, and in the image.
use Rattle.std.specs.Prelude.{◌≡◌, ◌++◌, ℕ, if◌then◌else◌, Option, None, Some, option_map, List, take}
use Rattle.std.specs.BTreeMap.{BTreeMap, get}
use Rattle.std.specs.declared.cmp.Ordering.{Ordering}
use Rattle.mg_types.specs.declared.names.Name.{Name}
use Rattle.mg_disk.specs.Files.{extended}
use Rattle.mg_disk.specs.Images.{Image, bytes_of}
use Rattle.mg_memdisk.specs.declared.events.Event.{Event}
use Rattle.mg_memdisk.specs.declared.events.Event.TheVariants.{Put, MayPut, Append, Sync}
use Rattle.mg_memdisk.specs.declared.standings.Standing.{Standing}
use Rattle.mg_memdisk.specs.Crashes.{Picked}
use Rattle.mg_memdisk.specs.Events.{is_file, kept, value_bytes}
use Rattle.mg_memdisk.specs.Optional.{items_of}

-- what reads give
abbrev pub now_of : Standing → Option (List ℕ)
now_of standing = items_of standing.given

-- what a crash leaves: the first bytes of that, and a tail
abbrev pub left_of : Standing → Option (List ℕ)
left_of standing = option_map (λ tail. take standing.kept (bytes_of (items_of standing.given)) ++ tail) (items_of standing.tail)

-- what reads give of a name after an event that is about it
abbrev pub now_at : Event → Option (List ℕ) → Option (List ℕ)
now_at (Put name value) now = value_bytes value
now_at (MayPut name value shown) now = if shown then value_bytes value else now
now_at (Append name bytes) now = if is_file name then now else extended now (kept bytes)
now_at (Sync name) now = now

-- what is kept of a name, where something is
abbrev pub now_in : Option Standing → Option (List ℕ)
now_in None = None
now_in (Some standing) = now_of standing

abbrev pub left_in : Option Standing → Option (List ℕ)
left_in None = None
left_in (Some standing) = left_of standing

-- the map has the contents, and the image
pub record Represents (cmp : Name → Name → Ordering) (map : BTreeMap Name Standing) (contents image : Image) : Type 0 where
  pub now : (name : Name) → now_in (get cmp map name) ≡ contents name
  pub left : (name : Name) → left_in (get cmp map name) ≡ image name

-- the map has the contents and the image that is being picked, and the choice is what is left of it
pub record HasPicked (cmp : Name → Name → Ordering) (map : BTreeMap Name Standing) (contents : Image) (rest : List ℕ) (p : Picked) : Type 0 where
  pub represents : Represents cmp map contents p.image
  pub choice : rest ≡ p.choice
