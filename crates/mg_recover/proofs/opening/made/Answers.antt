use Rattle.std.proofs.Common.{◌≡◌, ◌⊎◌, inr, List, length, sym, subst}
use Rattle.mg_recover.specs.Refusals.{IsStoreRefused, IsUnfit}
use Rattle.mg_recover.specs.Replays.{AreGiven}
use Rattle.mg_types.specs.declared.faults.Fault.TheVariants.{NoMemory}
use Rattle.mg_wal.specs.declared.known.KnownLog.{KnownLog}
use Rattle.mg_wal.specs.Openings.{basis_for}
use Rattle.mg_wal.specs.States.{book_of}
use Rattle.mg_recover.proofs.OpenLaws.{books_within, err_map, gap_refused, given_by, unfit_refused}
use Rattle.mg_wal_format.proofs.ReadingLaws.{or_else}
use Rattle.mg_recover.proofs.opening.made.Goals as goal

pub replay-requires : goal.replay-requires
replay-requires g c = books_within (book_of c.args.log.now) c.args.records.now c.args.low.now c.requires.books

pub returns-in-Some-clause-refused : goal.returns-in-Some-clause-refused
returns-in-Some-clause-refused g c image opens =
    inr (gap_refused image (book_of c.args.log.now) c.args.records.now c.args.low.now c.in-Some.gap c.requires.books opens c.in-Some.ensures)

pub returns-in-None-clause-refused : goal.returns-in-None-clause-refused
returns-in-None-clause-refused g c image opens =
    let recs = c.args.records.now in
    let low = c.args.low.now in
    let basis = basis_for (book_of c.args.log.now) recs low in
    let given : AreGiven (length low) opens.0.logs c.logs.result.now recs =
    subst (λ (known : List KnownLog). AreGiven (length low) opens.0.logs known recs) (sym c.logs.ensures) (given_by image basis (book_of c.args.log.now) opens) in
    err_map c.replay.result (λ f. (f ≡ NoMemory) ⊎ IsUnfit opens.0.logs recs f) (λ f. (f ≡ NoMemory) ⊎ IsStoreRefused (length low) image f)
    (λ f. or_else (unfit_refused image basis f opens.0 c.in-None.ensures)) (c.replay.ensures.unfit opens.0.logs given)
