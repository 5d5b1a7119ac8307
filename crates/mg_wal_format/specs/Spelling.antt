-- Heads and records have one spelling.
use Rattle.std.specs.Prelude.{◌≡◌}
use Rattle.mg_wal_format.specs.declared.head.Head.{Head}
use Rattle.mg_wal_format.specs.declared.record.Rec.{Rec}
use Rattle.mg_wal_format.specs.Heads.{head_bytes, IsHead}
use Rattle.mg_wal_format.specs.Records.{record_bytes, IsRecord}

-- two records of one number with the same body are one
abbrev pub OneRecordLaw : Type 0
OneRecordLaw = (rec other : Rec) → IsRecord rec → IsRecord other → rec.number ≡ other.number → record_bytes rec ≡ record_bytes other → rec ≡ other

-- two heads with the same body are one
abbrev pub OneHeadLaw : Type 0
OneHeadLaw = (head other : Head) → IsHead head → IsHead other → head_bytes head ≡ head_bytes other → head ≡ other
