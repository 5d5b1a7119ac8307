use Rattle.std.proofs.Common.{arith}
use Rattle.std.proofs.lemmas.Grind.{common_steps}
use Rattle.mg_wal_format.proofs.SpellingLaws.{length-head_bytes}
use Rattle.mg_wal.proofs.ledger.Ledger.begun.Goals as goal

pub put_frame-requires : goal.put_frame-requires
put_frame-requires c = grind (arith, common_steps, length-head_bytes, c.requires.sound.fits.parts)
