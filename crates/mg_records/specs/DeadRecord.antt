-- An entry of a delete list as bytes of a file.
use Rattle.mg_frame.specs.BigEndian.{big_endian}
use Rattle.mg_types.specs.Limits.{IsSize}
use Rattle.mg_types.specs.declared.items.Dead.{Dead}
use Rattle.mg_records.specs.Record.{Kind}

-- entries of a delete list, as a kind of records: the size in 4 bytes
abbrev pub dead_kind : Kind Dead
dead_kind = record { seq = λ dead. dead.seq; size = λ dead. dead.size; contents = λ dead. big_endian 4 dead.size; fits = λ dead. IsSize dead.size }
