use Rattle.std.proofs.Common.{inl, inr, refl}
use Rattle.mg_manifest_format.specs.Flaws.{record_flaw}
use Rattle.mg_manifest_format.proofs.FlawLaws.{fine, sound}
use Rattle.mg_manifest_format.proofs.ReadingLaws.{flaw_is_none, found_is, none_is_not_found, versioned}
use Rattle.mg_manifest_format.proofs.record.read_manifest.Goals as goal

pub returns-in_default-clause-refusals : goal.returns-in_default-clause-refusals
returns-in_default-clause-refusals c =
    inr (inl (
      λ rec fits is. none_is_not_found c.in_ok-rec.field-0 (versioned c.args.version rec) c.in_default.is
          (c.in_ok-rec.ensures.written (versioned c.args.version rec) refl
          (record {
            epoch = fits.epoch;
            applied = fits.applied;
            receipt = fits.receipt;
            flushed = fits.flushed;
            next_file = fits.next_file;
            layout = fits.layout;
            marks = fits.marks;
          }) is),
      refl,
    ))

pub returns-in-Ok-clause-read : goal.returns-in-Ok-clause-read
returns-in-Ok-clause-read c =
    let read = rw c.in-Some.is at c.in_ok-rec.ensures.read in
    (read.0, sound c.in-Some.rec read.1 c.in-Ok.ensures, read.2)

pub returns-in-Ok-clause-again : goal.returns-in-Ok-clause-again
returns-in-Ok-clause-again c = λ rec version is spelled.
    found_is c.in-Some.rec rec (rw c.in-Some.is at c.in_ok-rec.ensures.written rec version is.fits spelled)

pub returns-in-Err-clause-written : goal.returns-in-Err-clause-written
returns-in-Err-clause-written c = λ rec version is spelled.
    absurd (flaw_is_none record_flaw c.in-Some.rec rec c.in-Err.flaw (rw c.in-Some.is at c.in_ok-rec.ensures.written rec version is.fits spelled) c.in-Err.ensures (fine rec is))
