-- A host in memory has each volume that is in.
use Rattle.std.proofs.Common.{◌≡◌, ◌&&◌, inl, inr, ℕ, Bool, true, false, refl, arith}
use Rattle.std.proofs.lemmas.Bool.Decides.{nat_tests}
use Rattle.std.specs.Prelude.{Option, Some, None, is_none, IsSome}
use Rattle.mg_disk.specs.Hosts.{IsVolume, HasVolumes}
use Rattle.mg_memdisk.specs.declared.hosts.MemHost.{MemHost}
use Rattle.mg_memdisk.specs.declared.hosts.Slot.{Slot}
use Rattle.mg_memdisk.specs.declared.volumes.MemVolume.{MemVolume}
use Rattle.mg_memdisk.specs.Hosts.{slot_of, slot_out, slot_inside, mem_state}
use Rattle.mg_memdisk.specs.Places.{is_volume}

exists : (n : ℕ) → IsVolume n → is_volume n ≡ true
exists n (inl partition) = grind (arith, nat_tests)
exists n (inr log) = grind (arith, nat_tests)

some_inside : (o : Option MemVolume) → is_none o ≡ false → IsSome o
some_inside None none = absurd (cc)
some_inside (Some vol) none = refl

in_slot : (t : Bool) (o : Option Slot) → t ≡ true → (t && slot_out o) ≡ false → IsSome (slot_inside o)
in_slot true None is here = absurd (cc)
in_slot true (Some slot) is here = some_inside slot.inside here
in_slot false o is here = absurd (cc)

pub host_has_volumes : (host : MemHost) → HasVolumes (mem_state host)
host_has_volumes host n there here = in_slot (is_volume n) (slot_of host.slots n) (exists n there) here
