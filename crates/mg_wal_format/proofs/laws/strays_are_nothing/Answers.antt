use Rattle.mg_wal_format.proofs.OpeningLaws.{StraysOpen, StraysRefused}
use Rattle.mg_wal_format.proofs.laws.strays_are_nothing.Goals as goal

pub returns : goal.returns
returns c = record { opens = StraysOpen; refused = StraysRefused }
