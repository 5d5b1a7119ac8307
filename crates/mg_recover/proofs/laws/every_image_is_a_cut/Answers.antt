use Rattle.mg_recover.proofs.CutLemmas.{leaves_cut}
use Rattle.mg_recover.specs.Made.{run_changes}
use Rattle.mg_wal.proofs.ReachLaws.{reaches_opens}
use Rattle.mg_recover.proofs.laws.every_image_is_a_cut.Goals as goal

pub returns : goal.returns
returns g c tells volume book partitions basis placed time reach stands reached behind image left chance =
    leaves_cut basis placed book partitions reach image stands behind
    (reaches_opens basis (run_changes basis placed) time reach book _ image reached left (g.met.V.Volume.images_are_bytes tells volume time image left) chance)
