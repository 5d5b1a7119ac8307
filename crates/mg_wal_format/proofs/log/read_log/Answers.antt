use Rattle.std.proofs.Common.{◌≡◌, ◌⊎◌, ℕ, List, [], ◌∷◌, length, get_or, slice_set, refl, sym, ap, subst, ◌∙◌, arith}
use Rattle.std.proofs.lemmas.List.{length-append, length-set}
use Rattle.std.proofs.lemmas.Grind.{common_steps}
use Rattle.mg_types.specs.declared.faults.Fault.TheVariants.{NoMemory}
use Rattle.mg_wal_format.specs.declared.record.Rec.{Rec}
use Rattle.mg_wal_format.specs.Judging.{HasRecords, IsLogRefused}
use Rattle.mg_wal_format.specs.Logs.{counts_after}
use Rattle.mg_wal_format.specs.Records.{counts_in}
use Rattle.mg_wal_format.proofs.LogLaws.{HasRecords-none, counts-push, read_more, refused_behind}
use Rattle.mg_wal_format.proofs.ReadingLaws.{err_is, or_else}
use Rattle.mg_wal_format.proofs.log.read_log.Goals as goal

pub loop-number-init : goal.loop-number-init
loop-number-init c =
    let counts = c.args.counts.items in
    let none = c.new-records.ensures.items in
    record {
      records = subst (λ (recs : List Rec). HasRecords (length counts) (counts_in counts) c.args.first c.args.bytes.now c.args.at recs c.args.at) (sym none)
          (HasRecords-none (length counts) (counts_in counts) c.args.first c.args.bytes.now c.args.at c.requires.within);
      counts = λ part. ap (λ (recs : List Rec). counts_after (counts_in counts) recs part) (sym none);
      parts = refl;
      numbers = omega (arith, ap length none);
    }

pub returns-in_err-rec-clause-refusals : goal.returns-in_err-rec-clause-refusals
returns-in_err-rec-clause-refusals c =
    let counts = c.args.counts.items in
    let l = c.loop-number in
    let fault = c.in_err-rec.field-0.0 in
    err_is c.from_residual.result fault (λ f. (f ≡ NoMemory) ⊎ IsLogRefused c.args.file c.args.base (length counts) (counts_in counts) c.args.first c.args.limit c.args.bytes.now c.args.at f) (grind (arith, common_steps))
    (or_else
    (refused_behind c.args.file c.args.base counts l.counts.items c.args.first l.number c.args.limit c.args.bytes.now c.args.at l.stop l.records.items fault
    l.invariant.records l.invariant.counts l.invariant.parts l.invariant.numbers (omega (arith, c.loop-number-test.true)))
    (rw c.deref.ensures.value at c.in_err-rec.ensures.refusals))

pub loop-number-preserved : goal.loop-number-preserved
loop-number-preserved c =
    let counts = c.args.counts.items in
    let l = c.loop-number in
    let rec = c.in-Some.rec in
    let found = rw c.deref.ensures.value at (rw c.in-Some.is at c.in_ok-rec.ensures.next) in
    let items = c.in_ok-push.ensures.items in
    record {
      records = subst (λ (recs : List Rec). HasRecords (length counts) (counts_in counts) c.args.first c.args.bytes.now c.args.at recs c.in-Some.next) (sym items)
          (read_more counts l.counts.items c.args.first l.number c.args.bytes.now c.args.at l.stop l.records.items rec c.in-Some.next
          l.invariant.records l.invariant.counts l.invariant.parts l.invariant.numbers (omega (arith, c.loop-number-test.true, c.requires.kept)) found);
      counts = λ part. ap (λ (i : ℕ). get_or (slice_set l.counts.items i rec.change) part 0) c.from.ensures
          ∙ counts-push l.counts.items (counts_in counts) l.records.items rec l.invariant.counts found.is_next part
          ∙ ap (λ (recs : List Rec). counts_after (counts_in counts) recs part) (sym items);
      parts = length-set l.counts.items c.from.result rec.change ∙ l.invariant.parts;
      numbers = omega (arith, ap length items, length-append l.records.items (rec ∷ []), l.invariant.numbers);
    }
