use Rattle.std.proofs.Common.{◌≡◌, ◌⊎◌, ap, arith, length, sym, ◌∙◌}
use Rattle.std.proofs.lemmas.Grind.{common_steps}
use Rattle.mg_types.specs.declared.faults.Fault.TheVariants.{NoMemory, ReadFault}
use Rattle.mg_wal_format.specs.Recovery.{IsRefused}
use Rattle.mg_wal_format.proofs.ReadingLaws.{err_is}
use Rattle.mg_wal.specs.Findings.{IsRefusalBy}
use Rattle.mg_wal.specs.States.{ledger_book}
use Rattle.mg_wal.proofs.OpenLaws.{below_of, judged_some, opens_as, ready_of, refused_heads, refused_stream, stand_found}
use Rattle.mg_wal.proofs.ReadLaws.{stays_both}
use Rattle.mg_wal.proofs.RefusalLaws.{kinds_by, names_log}
use Rattle.mg_wal.proofs.reading.read_volume.Goals as goal

pub returns-in_err-known-clause-refused : goal.returns-in_err-known-clause-refused
returns-in_err-known-clause-refused g c tells =
    let image = (g.V.Volume.view c.args.vol.now).contents in
    let fault = c.in_err-known.field-0.0 in
    err_is c.from_residual-in_err-known.result fault (λ f. IsRefusalBy c.args.parts f → IsRefused c.args.parts image f) (grind (arith, common_steps))
    (refused_heads image c.args.parts c.in_ok-found.found fault (c.in_ok-found.ensures.found tells) (rw c.deref.ensures.value at c.in_err-known.ensures.refused))

pub read_stream-requires-clause-ready : goal.read_stream-requires-clause-ready
read_stream-requires-clause-ready g c =
    rw (c.deref-3.ensures.value, c.deref-4.ensures.value) (ready_of c.args.parts c.in_ok-found.found.whole.items c.in_ok-known.known.items c.in_ok-low.low.items
    (rw c.deref.ensures.value at c.in_ok-known.ensures.heads) c.in_ok-low.ensures.parts (rw c.deref-2.ensures.value at c.in_ok-low.ensures.low))

pub read_stream-requires-clause-stand : goal.read_stream-requires-clause-stand
read_stream-requires-clause-stand g c tells =
    rw c.deref-3.ensures.value (stand_found (g.V.Volume.view c.args.vol.now).contents (g.V.Volume.view c.find_logs.new.vol).contents c.args.parts c.in_ok-found.found c.in_ok-known.known.items (c.in_ok-found.ensures.found tells)
    (rw c.deref.ensures.value at c.in_ok-known.ensures.heads) (c.find_logs.ensures.stays tells).contents)

pub returns-in_err-stream-clause-refused : goal.returns-in_err-stream-clause-refused
returns-in_err-stream-clause-refused g c tells =
    let image = (g.V.Volume.view c.args.vol.now).contents in
    let fault = c.in_err-stream.field-0.0 in
    let why = rw (c.deref-3.ensures.value, c.deref-4.ensures.value) at c.in_err-stream.ensures.refused tells in
    err_is c.from_residual-in_err-stream.result fault (λ f. IsRefusalBy c.args.parts f → IsRefused c.args.parts image f) (grind (arith, common_steps))
    (λ refusal. refused_stream image (g.V.Volume.view c.find_logs.new.vol).contents c.args.parts c.in_ok-found.found c.in_ok-known.known.items c.in_ok-low.low.items fault (c.in_ok-found.ensures.found tells)
    (rw c.deref.ensures.value at c.in_ok-known.ensures.heads) (c.find_logs.ensures.stays tells).contents c.in_ok-low.ensures.parts (why (names_log c.args.parts fault c.in_err-stream.ensures.kinds refusal)))

pub returns-in_err-stream-clause-kinds : goal.returns-in_err-stream-clause-kinds
returns-in_err-stream-clause-kinds g c =
    let parts = c.args.parts in
    let fault = c.in_err-stream.field-0.0 in
    err_is c.from_residual-in_err-stream.result fault (λ f. (f ≡ NoMemory) ⊎ (f ≡ ReadFault) ⊎ IsRefusalBy parts f) (grind (arith, common_steps)) (kinds_by parts fault c.in_err-stream.ensures.kinds)

pub fresh_state-requires-clause-ready : goal.fresh_state-requires-clause-ready
fresh_state-requires-clause-ready g c =
    ready_of c.args.parts c.in_ok-found.found.whole.items c.in_ok-known.known.items c.in_ok-low.low.items
    (rw c.deref.ensures.value at c.in_ok-known.ensures.heads) c.in_ok-low.ensures.parts (rw c.deref-2.ensures.value at c.in_ok-low.ensures.low)

pub fresh_state-requires-clause-kept : goal.fresh_state-requires-clause-kept
fresh_state-requires-clause-kept g c =
    let judged = (judged_some c.args.parts c.in_ok-found.found.whole.items c.in_ok-known.known.items (rw c.deref.ensures.value at c.in_ok-known.ensures.heads)).1 in
    (rw c.deref-2.ensures.value at c.in_ok-low.ensures.kept) judged.0 judged.2 judged.3

pub fresh_state-requires-clause-below : goal.fresh_state-requires-clause-below
fresh_state-requires-clause-below g c =
    below_of c.args.parts c.in_ok-found.found.newest c.in_ok-found.found.whole.items c.in_ok-known.known.items (rw c.deref.ensures.value at c.in_ok-known.ensures.heads) c.in_ok-found.ensures.below

pub returns-in_err-opened-clause-stays : goal.returns-in_err-opened-clause-stays
returns-in_err-opened-clause-stays g c tells =
    stays_both (g.V.Volume.view c.args.vol.now) (g.V.Volume.view c.find_logs.new.vol) (g.V.Volume.view c.read_stream.new.vol) (g.met.V.Volume.counts_now tells c.args.vol.now) (c.find_logs.ensures.stays tells) (c.read_stream.ensures.stays tells)

pub returns-clause-opens : goal.returns-clause-opens
returns-clause-opens g c tells =
    let opened = c.in_ok-opened.opened in
    let gives = rw (c.deref-3.ensures.value, c.deref-4.ensures.value) at c.in_ok-stream.ensures.gives tells in
    let low : opened.low.items ≡ c.in_ok-low.low.items = ap (λ v. v.items) c.in_ok-opened.ensures.low in
    let records : opened.records.items ≡ c.in_ok-stream.stream.records.items = ap (λ v. v.items) c.in_ok-opened.ensures.records in
    opens_as (g.V.Volume.view c.args.vol.now).contents (g.V.Volume.view c.find_logs.new.vol).contents c.args.parts c.in_ok-found.found c.in_ok-known.known.items opened.low.items opened.records.items (ledger_book opened.ledger)
    (c.in_ok-found.ensures.found tells) (rw c.deref.ensures.value at c.in_ok-known.ensures.heads) (c.find_logs.ensures.stays tells).contents (ap length low ∙ c.in_ok-low.ensures.parts)
    (rw (sym low) at (rw c.deref-2.ensures.value at c.in_ok-low.ensures.low)) (rw (sym low, sym records) at gives) c.in_ok-opened.ensures.first c.in_ok-opened.ensures.reached c.in_ok-opened.ensures.fresh
    c.in_ok-opened.ensures.newest

pub returns-clause-stays : goal.returns-clause-stays
returns-clause-stays g c tells =
    stays_both (g.V.Volume.view c.args.vol.now) (g.V.Volume.view c.find_logs.new.vol) (g.V.Volume.view c.read_stream.new.vol) (g.met.V.Volume.counts_now tells c.args.vol.now) (c.find_logs.ensures.stays tells) (c.read_stream.ensures.stays tells)
