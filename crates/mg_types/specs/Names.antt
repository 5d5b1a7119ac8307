-- Kinds of names, and what names stand for.
use Rattle.std.specs.Prelude.{ℕ, Bool, true, false, IsTrue}
use Rattle.mg_types.specs.declared.names.Kind.{Kind}
use Rattle.mg_types.specs.declared.names.Kind.TheVariants.{Table, Segment, DelList, Manifest, Wal}
use Rattle.mg_types.specs.declared.names.Name.{Name}

-- the number that spells a kind
abbrev pub kind_code : Kind → ℕ
kind_code Table = 1
kind_code Segment = 2
kind_code DelList = 3
kind_code Manifest = 4
kind_code Wal = 5

-- whether names of this kind stand for sealed files
abbrev pub is_file_kind : Kind → Bool
is_file_kind Table = true
is_file_kind Segment = true
is_file_kind DelList = true
is_file_kind Manifest = false
is_file_kind Wal = false

-- whether names of this kind stand for logs
abbrev pub is_log_kind : Kind → Bool
is_log_kind Table = false
is_log_kind Segment = false
is_log_kind DelList = false
is_log_kind Manifest = true
is_log_kind Wal = true

-- a name of a sealed file
abbrev pub IsFileName : Name → Type 0
IsFileName name = IsTrue (is_file_kind name.kind)

-- a name of a log
abbrev pub IsLogName : Name → Type 0
IsLogName name = IsTrue (is_log_kind name.kind)
