use Rattle.mg_recover.specs.Refusals.{IsStoreRefusal, IsStoreRefused}
use Rattle.mg_wal.specs.States.{book_of}
use Rattle.mg_recover.proofs.OpenLaws.{if_err, opened_as, recovery_refused, refused_as}
use Rattle.mg_recover.proofs.opening.open.Goals as goal

pub returns-in_err-log-clause-refused : goal.returns-in_err-log-clause-refused
returns-in_err-log-clause-refused g c tells =
    let image = (g.V.Volume.view c.args.vol).contents in
    let e = c.in_err-log.field-0.0 in
    if_err c.from_residual.result (λ e. IsStoreRefusal c.args.parts e.fault → IsStoreRefused c.args.parts image e.fault) e c.from_residual.ensures.1
    (recovery_refused c.args.parts image e.fault c.in_err-log.ensures.kinds (c.in_err-log.ensures.refused tells))

pub returns-in-Ok-clause-opened : goal.returns-in-Ok-clause-opened
returns-in-Ok-clause-opened g c tells =
    opened_as c.args.parts (g.V.Volume.view c.args.vol).contents (book_of c.in_ok-log.log) c.in_ok-log.records.items c.deref.result.now c.in_ok-log.low.items c.deref-2.result.now c.in-Ok.partitions.items
    c.deref.ensures.value c.deref-2.ensures.value c.in_ok-log.ensures.parts (c.in_ok-log.ensures.opens tells) c.in-Ok.ensures.opened

pub returns-clause-refused : goal.returns-clause-refused
returns-clause-refused g c tells =
    refused_as c.args.parts (g.V.Volume.view c.args.vol).contents (book_of c.in_ok-log.log) c.in_ok-log.records.items c.deref.result.now c.in_ok-log.low.items c.deref-2.result.now c.in-Err.fault
    c.deref.ensures.value c.deref-2.ensures.value c.in_ok-log.ensures.parts (c.in_ok-log.ensures.opens tells) c.in-Err.ensures.refused
