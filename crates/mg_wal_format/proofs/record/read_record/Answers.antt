use Rattle.std.proofs.Common.{inl, inr, refl}
use Rattle.mg_wal_format.proofs.ReadingLaws.{none_is_not_found, numbered}
use Rattle.mg_wal_format.proofs.record.read_record.Goals as goal

pub returns-in_default-clause-refusals : goal.returns-in_default-clause-refusals
returns-in_default-clause-refusals c =
    inr (inl (
      λ rec fits is. none_is_not_found c.in_ok-rec.field-0 c.in_default.is (numbered c.args.number rec)
          (c.in_ok-rec.ensures.read.1 (numbered c.args.number rec) (refl, record { part = fits.part; change = fits.change; what = fits.what }) is),
      refl,
    ))
