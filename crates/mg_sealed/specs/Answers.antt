-- How a call that reads a file may answer.
use Rattle.std.specs.Prelude.{◌≡◌, ◌⊎◌, Result, Ok, Err}
use Rattle.mg_disk.specs.declared.errors.DiskError.{DiskError}
use Rattle.mg_disk.specs.declared.errors.DiskError.TheVariants as disk
use Rattle.mg_types.specs.declared.faults.Fault.{Fault}
use Rattle.mg_types.specs.declared.faults.Fault.TheVariants.{NoMemory, ReadFault, WriteFault}

-- what a call answers where a read gave up so
abbrev pub read_fault : DiskError → Fault
read_fault disk.NoMemory = NoMemory
read_fault disk.Failed = ReadFault

-- what a call answers where a write gave up so
abbrev pub write_fault : DiskError → Fault
write_fault disk.NoMemory = NoMemory
write_fault disk.Failed = WriteFault

-- the answers that no bytes of a file cause: memory ran out, or a read failed
abbrev pub IsOutside : Fault → Type 0
IsOutside fault = (fault ≡ NoMemory) ⊎ (fault ≡ ReadFault)

-- the answers of a call that only writes: memory ran out, or a write failed
abbrev pub IsUnwritten : Fault → Type 0
IsUnwritten fault = (fault ≡ NoMemory) ⊎ (fault ≡ WriteFault)

-- the result is this answer, unless memory ran out or a read failed
abbrev pub Answers : {T : Type 0} → Result T Fault → Result T Fault → Type 0
Answers answer (Ok value) = answer ≡ Ok value
Answers answer (Err fault) = IsOutside fault ⊎ (answer ≡ Err fault)
