use Rattle.mg_recover.proofs.CutLemmas.{leaves_all}
use Rattle.mg_recover.specs.Made.{run_changes}
use Rattle.mg_wal.proofs.ReachLaws.{reaches_opens}
use Rattle.mg_recover.proofs.laws.synced_images_have_all.Goals as goal

pub returns : goal.returns
returns g c tells volume book partitions basis placed time stands synced reached image left chance =
    leaves_all basis placed book partitions image stands synced
    (reaches_opens basis (run_changes basis placed) time book.reach book _ image reached left (g.met.V.Volume.images_are_bytes tells volume time image left) chance)
