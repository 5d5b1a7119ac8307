-- Kinds are known by their codes, and names are ordered by kind and then by number.
use Rattle.std.proofs.Common.{◌≡◌, not, refl}
use Rattle.mg_types.specs.declared.names.Kind.{Kind}
use Rattle.mg_types.specs.declared.names.Kind.TheVariants.{Table, Segment, DelList, Manifest, Wal}
use Rattle.mg_types.specs.Names.{kind_code, is_file_kind, is_log_kind}

-- kinds of one code are one
pub kind_of_code : (a b : Kind) → kind_code a ≡ kind_code b → a ≡ b
kind_of_code Table Table e = refl
kind_of_code Table Segment e = cc e
kind_of_code Table DelList e = cc e
kind_of_code Table Manifest e = cc e
kind_of_code Table Wal e = cc e
kind_of_code Segment Table e = cc e
kind_of_code Segment Segment e = refl
kind_of_code Segment DelList e = cc e
kind_of_code Segment Manifest e = cc e
kind_of_code Segment Wal e = cc e
kind_of_code DelList Table e = cc e
kind_of_code DelList Segment e = cc e
kind_of_code DelList DelList e = refl
kind_of_code DelList Manifest e = cc e
kind_of_code DelList Wal e = cc e
kind_of_code Manifest Table e = cc e
kind_of_code Manifest Segment e = cc e
kind_of_code Manifest DelList e = cc e
kind_of_code Manifest Manifest e = refl
kind_of_code Manifest Wal e = cc e
kind_of_code Wal Table e = cc e
kind_of_code Wal Segment e = cc e
kind_of_code Wal DelList e = cc e
kind_of_code Wal Manifest e = cc e
kind_of_code Wal Wal e = refl

-- a kind is of logs where it is not of files
pub log_not_file : (a : Kind) → is_log_kind a ≡ not (is_file_kind a)
log_not_file Table = refl
log_not_file Segment = refl
log_not_file DelList = refl
log_not_file Manifest = refl
log_not_file Wal = refl
