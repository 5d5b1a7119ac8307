use Rattle.std.proofs.Common.{◌≡◌, ℕ, arith, subst, []}
use Rattle.std.proofs.lemmas.Grind.{common_steps}
use Rattle.mg_types.specs.declared.faults.Fault.TheVariants.{WriteFault}
use Rattle.mg_wal_format.specs.Recovery.{Opens}
use Rattle.mg_wal.specs.Strays.{OpensWithStray}
use Rattle.mg_wal_format.proofs.ReadingLaws.{err_is}
use Rattle.mg_wal.specs.States.{ledger_book, opened_basis}
use Rattle.mg_wal.proofs.ClearLaws.{clears_after, first_stray, less_after, reach_stays}
use Rattle.mg_wal.proofs.OpeningReach.{OpeningReaches}
use Rattle.mg_wal.proofs.recovery.open.Goals as goal

pub returns-in_err-remove_strays-clause-back : goal.returns-in_err-remove_strays-clause-back
returns-in_err-remove_strays-clause-back g c tells =
    less_after (g.V.Volume.view c.args.vol.now) (g.V.Volume.view c.read_volume.new.vol) (g.V.Volume.view c.remove_strays.new.vol) (g.met.V.Volume.only_now tells c.args.vol.now) (c.requires tells).only (c.read_volume.ensures.stays tells) (c.remove_strays.ensures.less tells)

pub returns-clause-back : goal.returns-clause-back
returns-clause-back g c tells =
    less_after (g.V.Volume.view c.args.vol.now) (g.V.Volume.view c.read_volume.new.vol) (g.V.Volume.view c.remove_strays.new.vol) (g.met.V.Volume.only_now tells c.args.vol.now) (c.requires tells).only (c.read_volume.ensures.stays tells) (c.remove_strays.ensures.less tells)

pub returns-clause-since : goal.returns-clause-since
returns-clause-since g c tells =
    let old = g.V.Volume.view c.args.vol.now in
    let mid = g.V.Volume.view c.read_volume.new.vol in
    let opened = c.in_ok-opened.opened in
    let basis = opened_basis opened in
    let book = ledger_book opened.ledger in
    let found = c.in_ok-opened.ensures.opens tells in
    c.remove_strays.ensures.reaches tells basis [] old.moment book.reach book c.in_ok-opened.ensures.writing
    (reach_stays old mid (c.read_volume.ensures.stays tells) basis [] old.moment book.reach book c.in_ok-opened.ensures.writing
    (OpeningReaches _ basis book old (g.V.Volume.in_writing c.args.vol.now) (c.requires tells) (g.met.V.Volume.only_now tells c.args.vol.now) found.0 found.1))

pub returns-clause-cleared : goal.returns-clause-cleared
returns-clause-cleared g c tells =
    let old = g.V.Volume.view c.args.vol.now in
    let mid = g.V.Volume.view c.read_volume.new.vol in
    clears_after c.in_ok-opened.strays.items old mid (g.V.Volume.view c.remove_strays.new.vol) (c.in_ok-opened.ensures.strays tells) (c.read_volume.ensures.stays tells)
    (rw c.deref.ensures.value at c.in_ok-remove_strays.ensures.gone tells)

pub returns-in_err-remove_strays-clause-wrote : goal.returns-in_err-remove_strays-clause-wrote
returns-in_err-remove_strays-clause-wrote g c tells =
    let image = (g.V.Volume.view c.args.vol.now).contents in
    let found = (c.in_ok-opened.ensures.opens tells).0 in
    let stray = first_stray image c.in_ok-opened.strays.items (rw c.deref.ensures.value at c.in_err-remove_strays.ensures.some) (c.in_ok-opened.ensures.strays tells).each in
    err_is c.from_residual-in_err-remove_strays.result c.in_err-remove_strays.field-0.0 (λ fault. fault ≡ WriteFault → OpensWithStray c.args.parts image) (grind (arith, common_steps))
    (λ _. record { logs = found.logs; recs = c.in_ok-opened.opened.records.items; opens = subst (λ (n : ℕ). Opens n image found.logs c.in_ok-opened.opened.records.items) c.in_ok-opened.ensures.parts found.opens; number = stray.0; stray = stray.1 })
