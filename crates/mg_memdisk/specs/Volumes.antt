-- What a volume in memory holds.
use Rattle.std.specs.Prelude.{◌≡◌, ℕ, Bool, false, if◌then◌else◌, Option, None, List, [], ◌∷◌, ◌++◌, take, drop}
use Rattle.std.specs.List.{fold}
use Rattle.mg_types.specs.declared.names.Name.{Name}
use Rattle.mg_disk.specs.Images.{Image, View, Settled}
use Rattle.mg_faults.specs.Calls.{CallCounts}
use Rattle.std.specs.declared.sync.Arc.{Arc}
use Rattle.std.specs.declared.alloc.Global.{Global}
use Rattle.mg_memdisk.specs.declared.bytes.Bytes.{Bytes}
use Rattle.mg_memdisk.specs.declared.events.Event.{Event}
use Rattle.mg_memdisk.specs.declared.events.Event.TheVariants.{Put, MayPut, Append}
use Rattle.mg_memdisk.specs.declared.volumes.MemLog.{MemLog}
use Rattle.mg_memdisk.specs.declared.volumes.MemVolume.{MemVolume}
use Rattle.mg_memdisk.specs.Events.{is_file, nothing, kept, value_bytes, held, opens, view_of}

-- what was found when the volume was handed out
abbrev pub mem_found : MemVolume → Image
mem_found volume = fold held nothing (take volume.settled volume.events.items)

-- what happened since
abbrev pub mem_recent : MemVolume → List Event
mem_recent volume = drop volume.settled volume.events.items

-- all that is said of it
abbrev pub mem_view : MemVolume → View
mem_view volume = view_of (mem_found volume) (mem_recent volume)

-- whether the log of that name was opened since, and not removed
abbrev pub mem_open : MemVolume → Name → Bool
mem_open volume = fold opens (λ name. false) (mem_recent volume)

-- the bytes of the file under a name
abbrev pub mem_stands : MemVolume → Name → Option (List ℕ)
mem_stands volume name = if is_file name then (mem_view volume).contents name else None

-- the name of a log in writing
abbrev pub mem_log_name : MemLog → Name
mem_log_name log = log.name

-- its calls so far, and which of them fail
abbrev pub mem_calls : MemVolume → CallCounts
mem_calls volume = volume.calls

-- whether failed changes of names show in what reads give
abbrev pub mem_shows : MemVolume → Bool
mem_shows volume = volume.shows

-- a volume at rest
abbrev pub IsSettled : MemVolume → Type 0
IsSettled volume = Settled (mem_view volume) (λ log. mem_open volume (mem_log_name log))

-- no name stands for anything, in a volume at rest
pub record IsEmpty (volume : MemVolume) : Type 0 where
  pub settled : IsSettled volume
  pub contents : (mem_view volume).contents ≡ nothing

-- one event more happened
pub record Pushes (event : Event) (old new : MemVolume) : Type 0 where
  pub found : mem_found new ≡ mem_found old
  pub recent : mem_recent new ≡ mem_recent old ++ event ∷ []

-- nothing happened
pub record Untouched (old new : MemVolume) : Type 0 where
  pub found : mem_found new ≡ mem_found old
  pub recent : mem_recent new ≡ mem_recent old

-- an event lets the name stand for these bytes, or for nothing
abbrev pub PutsName : Name → Option (List ℕ) → MemVolume → MemVolume → Type 0
PutsName name bytes old new = (value : Option (Arc Bytes Global)) × (value_bytes value ≡ bytes) × Pushes (Put name value) old new

-- an event lets the name stand for that or for what it stood for
abbrev pub DoubtsName : Name → Option (List ℕ) → MemVolume → MemVolume → Type 0
DoubtsName name bytes old new = (value : Option (Arc Bytes Global)) × (value_bytes value ≡ bytes) × Pushes (MayPut name value (mem_shows old)) old new

-- an event puts these bytes behind the log's
abbrev pub PutsBehind : Name → List ℕ → MemVolume → MemVolume → Type 0
PutsBehind name bytes old new = (behind : Bytes) × (kept behind ≡ bytes) × Pushes (Append name behind) old new
