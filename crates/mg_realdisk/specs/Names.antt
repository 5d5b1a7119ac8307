-- How kinds are spelled.
use Rattle.std.specs.Prelude.{ℕ}
use Rattle.mg_types.specs.declared.names.Kind.{Kind}
use Rattle.mg_types.specs.declared.names.Kind.TheVariants.{Table, Segment, DelList, Manifest, Wal}

-- the letter that spells a kind: t, s, d, m or w
abbrev pub kind_letter : Kind → ℕ
kind_letter Table = 116
kind_letter Segment = 115
kind_letter DelList = 100
kind_letter Manifest = 109
kind_letter Wal = 119
