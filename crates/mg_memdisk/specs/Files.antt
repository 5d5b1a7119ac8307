-- The bytes of drafts and files in memory, and the calls of a port.
use Rattle.std.specs.Prelude.{ℕ, List}
use Rattle.std.specs.Arc.{arc_value}
use Rattle.mg_memdisk.specs.declared.files.MemDraft.{MemDraft}
use Rattle.mg_memdisk.specs.declared.files.MemSealed.{MemSealed}
use Rattle.mg_memdisk.specs.declared.files.MemFiles.{MemFiles}
use Rattle.mg_memdisk.specs.Events.{kept}
use Rattle.mg_faults.specs.Calls.{CallCounts}

abbrev pub draft_bytes : MemDraft → List ℕ
draft_bytes draft = draft.bytes.items

abbrev pub sealed_bytes : MemSealed → List ℕ
sealed_bytes file = kept (arc_value file.bytes)

-- the port's calls so far, and which of them fail
abbrev pub port_calls : MemFiles → CallCounts
port_calls port = port.calls
