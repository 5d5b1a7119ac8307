-- What a host in memory holds.
use Rattle.std.specs.Prelude.{◌≡◌, ◌&&◌, ℕ, Bool, true, false, if◌then◌else◌, Option, None, Some, option_map, is_none, List, [], ◌∷◌, Vec}
use Rattle.std.specs.declared.alloc.Global.{Global}
use Rattle.std.specs.List.{slice_get}
use Rattle.mg_faults.specs.Causes.{kept_count}
use Rattle.mg_disk.specs.Hosts.{HostState, SameButFor}
use Rattle.mg_memdisk.specs.declared.hosts.MemHost.{MemHost}
use Rattle.mg_memdisk.specs.declared.hosts.Slot.{Slot}
use Rattle.mg_memdisk.specs.declared.volumes.MemVolume.{MemVolume}
use Rattle.mg_memdisk.specs.Places.{place_of, is_volume}
use Rattle.mg_memdisk.specs.Volumes.{mem_calls, IsEmpty}

-- the slot of volume n
abbrev pub slot_of : List Slot → ℕ → Option Slot
slot_of slots n = if is_volume n then slice_get slots (place_of n) else None

-- whether a slot's volume is lent; a host has each slot
abbrev pub slot_out : Option Slot → Bool
slot_out None = true
slot_out (Some slot) = is_none slot.inside

-- the volume in a slot
abbrev pub slot_inside : Option Slot → Option MemVolume
slot_inside None = None
slot_inside (Some slot) = slot.inside

-- the count of faults at which a slot's volume was lent
abbrev pub slot_faults : Option Slot → ℕ
slot_faults None = 0
slot_faults (Some slot) = slot.lent_faults

-- what is said of a host with these settings and slots; a clock starts anew when its volume is lent
abbrev pub state_of : Option (List ℕ) → List Slot → HostState MemVolume
state_of settings slots = record {
  settings = settings;
  out = λ n. is_volume n && slot_out (slot_of slots n);
  inside = λ n. slot_inside (slot_of slots n);
  lent_faults = λ n. slot_faults (slot_of slots n);
  lent_moment = λ n. 0;
}

abbrev pub mem_state : MemHost → HostState MemVolume
mem_state host = state_of (option_map (λ bytes. bytes.items) host.settings) host.slots

-- how often the host and what it got back have failed
abbrev pub host_faults : MemHost → ℕ
host_faults host = kept_count host.faults

-- the numbers of the failing calls of each port that is still to be made
abbrev pub host_ports : MemHost → List (Vec ℕ Global)
host_ports host = host.ports.items

-- the first of the lists, or none
abbrev pub first_failing : List (Vec ℕ Global) → List ℕ
first_failing [] = []
first_failing (failing ∷ ports) = failing.items

-- an empty volume, none of whose calls fail
pub record IsNewVolume (vol : MemVolume) : Type 0 where
  pub empty : IsEmpty vol
  pub failing : (mem_calls vol).failing ≡ []

-- volume n is in, is empty, and none of its calls fail
pub record HasEmpty (n : ℕ) (state : HostState MemVolume) : Type 0 where
  pub vol : MemVolume
  pub inside : state.inside n ≡ Some vol
  pub is_new : IsNewVolume vol

-- the slot has such a volume
pub record IsEmptySlot (slot : Slot) : Type 0 where
  pub vol : MemVolume
  pub inside : slot.inside ≡ Some vol
  pub is_new : IsNewVolume vol

-- volume n is now this one
pub record Puts (n : ℕ) (vol : MemVolume) (old new : HostState MemVolume) : Type 0 where
  pub others : SameButFor n old new
  pub out : new.out n ≡ false
  pub inside : new.inside n ≡ Some vol
