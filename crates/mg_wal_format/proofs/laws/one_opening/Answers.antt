use Rattle.mg_wal_format.proofs.ChainLaws.{OneList}
use Rattle.mg_wal_format.proofs.FaultLaws.{OneFault}
use Rattle.mg_wal_format.proofs.FoundLaws.{OneLogs}
use Rattle.mg_wal_format.proofs.OpeningLaws.{NeverRefused, OneOpening}
use Rattle.mg_wal_format.proofs.PartsLaws.{MoreParts}
use Rattle.mg_wal_format.proofs.laws.one_opening.Goals as goal

pub returns : goal.returns
returns c = record { logs = OneLogs; list = OneList; more = MoreParts; one = OneOpening; apart = NeverRefused; fault = OneFault }
