use Rattle.mg_wal.proofs.ReachLaws.{reaches_opens}
use Rattle.mg_wal.proofs.laws.every_image_opens.Goals as goal

pub returns : goal.returns
returns g c tells volume book basis list time reach reached image left chance =
    reaches_opens basis list time reach book _ image reached left (g.met.V.Volume.images_are_bytes tells volume time image left) chance
