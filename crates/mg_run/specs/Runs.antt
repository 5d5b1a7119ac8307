-- What a run reads, writes and answers.
use Rattle.std.specs.Prelude.{◌≡◌, ◌≤◌, ◌⊎◌, ℕ, ◌+◌, List, ◌++◌, length, codes, Bool, Option, Result, Ok, Err}
use Rattle.std.specs.Io.KnownBytes.{Consumes, IsAtEnd, Keeps}
use Rattle.mg_config.specs.declared.settings.Settings.{Settings}
use Rattle.mg_disk.specs.Hosts.{HostState}
use Rattle.mg_disk.specs.Images.{View}
use Rattle.mg_faults.specs.Causes.{RoseOnce}
use Rattle.mg_types.specs.declared.faults.Fault.{Fault}
use Rattle.mg_types.specs.declared.faults.Fault.TheVariants as fault
use Rattle.mg_types.specs.declared.faults.Why.{Why}
use Rattle.mg_script.specs.declared.script.Line.{Line}
use Rattle.mg_script.specs.Script.{script_of}
use Rattle.mg_script.specs.Transcript.{fault_message}
use Rattle.mg_serve.specs.Writing.{MayRise}
use Rattle.mg_run.specs.Hosting.{FailsSettings, HasSettings, HostRan}

-- the most bytes of a script
abbrev pub script_limit : ℕ
script_limit = 67108864

-- what is seen of the streams and the host at one moment: the bytes that the source has left and those that the sink was given,
-- where they tell them, and how many calls of each failed
pub record Seen : Type 0 where
  pub left : Option (List ℕ)
  pub read_faults : ℕ
  pub written : Option (List ℕ)
  pub write_faults : ℕ
  pub host_faults : ℕ

-- the input was read whole: it is at its end, and was not too long
pub record ReadsAll (left left' : Option (List ℕ)) (bytes : List ℕ) : Type 0 where
  pub taken : Consumes left left' bytes
  pub end : IsAtEnd left'
  pub in_limit : length bytes ≤ script_limit

-- The input was read whole, and is the script of these lines.
pub record ReadsScript (parts : ℕ) (left left' : Option (List ℕ)) (lines : List Line) : Type 0 where
  pub bytes : List ℕ
  pub read : ReadsAll left left' bytes
  pub script : script_of parts bytes ≡ Ok lines

-- The whole input was read, and this line is the first that is no call.
pub record IsBadLine (parts : ℕ) (left left' : Option (List ℕ)) (line : ℕ) (why : Why) : Type 0 where
  pub bytes : List ℕ
  pub read : ReadsAll left left' bytes
  pub script : script_of parts bytes ≡ Err (line, why)

-- one byte more than the limit was taken
pub record IsTooLong (left left' : Option (List ℕ)) (limit : ℕ) : Type 0 where
  pub named : limit ≡ script_limit
  pub bytes : List ℕ
  pub taken : Consumes left left' bytes
  pub one_more : length bytes ≡ script_limit + 1

-- bytes of the input were taken, at most so many
pub record TakesSome (left left' : Option (List ℕ)) (most : ℕ) : Type 0 where
  pub bytes : List ℕ
  pub taken : Consumes left left' bytes
  pub in_limit : length bytes ≤ most

-- why reading stopped before the end of the input
abbrev pub StopsReading : Option (List ℕ) → Option (List ℕ) → ℕ → ℕ → Fault → Type 0
StopsReading left left' faults faults' fault.NoMemory = MayRise faults faults' × TakesSome left left' (script_limit + 1)
StopsReading left left' faults faults' fault.ReadFault = RoseOnce faults faults' × TakesSome left left' script_limit
StopsReading left left' faults faults' (fault.TooLong limit) = IsTooLong left left' limit × (faults' ≡ faults)
StopsReading left left' faults faults' other = ⊥

-- why the input is no script, or could not be read
abbrev pub StopsInput : ℕ → Option (List ℕ) → Option (List ℕ) → ℕ → ℕ → Fault → Type 0
StopsInput parts left left' faults faults' (fault.BadLine line why) = IsBadLine parts left left' line why × (faults' ≡ faults)
StopsInput parts left left' faults faults' other = StopsReading left left' faults faults' other

-- why one read gave nothing, with so many bytes that it could take; of the input nothing was taken where it failed
abbrev pub FailsRead : Option (List ℕ) → Option (List ℕ) → ℕ → ℕ → ℕ → Fault → Type 0
FailsRead left left' room faults faults' fault.NoMemory = MayRise faults faults' × TakesSome left left' room
FailsRead left left' room faults faults' fault.ReadFault = RoseOnce faults faults' × Keeps left left'
FailsRead left left' room faults faults' other = ⊥

-- one piece of the input was taken, to which the bytes read so far grew; an empty piece means the end
pub record TakesPiece (left left' : Option (List ℕ)) (bytes bytes' : List ℕ) (count : ℕ) : Type 0 where
  pub piece : List ℕ
  pub taken : Consumes left left' piece
  pub grown : bytes' ≡ bytes ++ piece
  pub counted : length piece ≡ count
  pub end : count ≡ 0 → IsAtEnd left'
  pub limit : length bytes' ≤ script_limit + 1

-- what the program says of a fault on standard error
abbrev pub complaint : Fault → List ℕ
complaint f = codes "magma: " ++ fault_message f ++ codes "\n"

-- ---- the run

-- nothing was written, and no write failed
pub record WritesNothing (before after : Seen) : Type 0 where
  pub text : after.written ≡ before.written
  pub faults : after.write_faults ≡ before.write_faults

-- The settings could not be had or are refused; nothing was read or written, and the host holds what it held.
pub record StopsAtSettings {V : Type 0} (tells : Bool) (old new : HostState V) (before after : Seen) (f : Fault) : Type 0 where
  pub why : FailsSettings tells old.settings before.host_faults after.host_faults f
  pub left : after.left ≡ before.left
  pub reads : after.read_faults ≡ before.read_faults
  pub writes : WritesNothing before after
  pub same : new ≡ old

-- The settings were had, and the input is no script or could not be read; nothing was written, and the host holds what it held.
pub record StopsAtInput {V : Type 0} (tells : Bool) (old new : HostState V) (before after : Seen) (f : Fault) : Type 0 where
  pub settings : Settings
  pub given : HasSettings tells old.settings settings
  pub why : StopsInput settings.partitions before.left after.left before.read_faults after.read_faults f
  pub writes : WritesNothing before after
  pub counts : after.host_faults ≡ before.host_faults
  pub same : new ≡ old

-- The settings were had and the input is a script; its calls were made over the host's log, or the log is refused.
pub record RunsScript {V : Type 0} (tells : Bool) (view : V → View) (old new : HostState V) (before after : Seen) (ended : Result ℕ Fault) : Type 0 where
  pub settings : Settings
  pub lines : List Line
  pub given : HasSettings tells old.settings settings
  pub script : ReadsScript settings.partitions before.left after.left lines
  pub reads : after.read_faults ≡ before.read_faults
  pub ran : HostRan tells view old new before.host_faults after.host_faults settings.partitions lines before.written after.written before.write_faults after.write_faults ended

-- what a run over good words came to
abbrev pub HasRun : {V : Type 0} → Bool → (V → View) → HostState V → HostState V → Seen → Seen → Result ℕ Fault → Type 0
HasRun tells view old new before after ended =
    ((f : Fault) × (ended ≡ Err f) × StopsAtSettings tells old new before after f)
    ⊎ ((f : Fault) × (ended ≡ Err f) × StopsAtInput tells old new before after f)
    ⊎ RunsScript tells view old new before after ended
