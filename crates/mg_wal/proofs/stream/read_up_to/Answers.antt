use Rattle.std.proofs.Common.{◌≡◌, ◌⊎◌, ◌+◌, ◌++◌, [], inr, ℕ, List, length, drop, refl, sym, ap, subst, ◌∙◌, arith}
use Rattle.std.proofs.lemmas.Grind.{common_steps}
use Rattle.std.proofs.lemmas.List.{length-append, nil_from_length}
use Rattle.mg_frame.specs.Frame.{NoFrame}
use Rattle.mg_types.specs.declared.faults.Fault.{Fault}
use Rattle.mg_types.specs.declared.faults.Fault.TheVariants.{NoMemory, ReadFault}
use Rattle.mg_wal_format.specs.declared.record.Rec.{Rec}
use Rattle.mg_wal_format.specs.Judging.{HasRecords, IsLogRefused}
use Rattle.mg_wal_format.specs.Logs.{counts_after, InOrder}
use Rattle.mg_wal_format.specs.Records.{counts_in}
use Rattle.mg_wal_format.specs.Recovery.{log_file, log_name}
use Rattle.mg_wal_format.proofs.ReadingLaws.{err_is}
use Rattle.mg_wal.specs.Findings.{IsLogFault}
use Rattle.mg_wal.specs.Streams.{head_end, IsWindow}
use Rattle.mg_wal.proofs.StoryLaws.{of_named_value, of_value}
use Rattle.mg_wal.proofs.ReadLaws.{once_on, once_same, stays_both}
use Rattle.mg_wal.proofs.RefusalLaws.{kinds_of, named_log}
use Rattle.mg_wal.proofs.StreamLaws.{counts_more, if_refused, order_more}
use Rattle.mg_wal.proofs.WindowLaws.{ends_here, len_of, log_begins, records_more, refused_more}
use Rattle.mg_wal.proofs.stream.read_up_to.Goals as goal

pub loop-number-init : goal.loop-number-init
loop-number-init g c =
    let counts = c.args.counts.items in
    let known = c.args.log.now in
    let none : c.new-records.result.items ≡ [] = c.new-records.ensures.items in
    record {
      order = subst (λ (recs : List Rec). InOrder (length counts) (counts_in counts) known.head.first recs) (sym none) tt;
      counts = λ part. ap (λ (recs : List Rec). counts_after (counts_in counts) recs part) (sym none);
      parts = refl;
      numbers = omega (arith, ap length none);
      below = c.requires.rise;
      within = omega (arith, c.head_end-stop.ensures);
      stands = λ tells bytes stands.
          let len = len_of (g.V.Volume.view c.args.vol.now).contents c.log_name-name.result known.number c.in_ok-len.len bytes c.log_name-name.ensures stands
          (of_named_value c.log_len.result c.map_err.result c.in_ok-len.len _ _ c.map_err.ensures.cases c.map_err.ensures.variant c.in_ok-len.was (c.log_len.ensures.len tells)) in
          (len, log_begins (length counts) (counts_in counts) known.head.first bytes known c.head_end-stop.result c.new-records.result.items none (c.head_end-stop.ensures ∙ ap (head_end known) len));
      stays = λ tells. c.log_len.ensures.stays tells;
      same = of_value c.log_len.result c.map_err.result c.in_ok-len.len (g.V.Volume.faults c.log_len.new.self ≡ g.V.Volume.faults c.args.vol.now) c.map_err.ensures.variant c.in_ok-len.was c.log_len.ensures.once.kept;
    }

pub returns-in_err-window-clause-stays : goal.returns-in_err-window-clause-stays
returns-in_err-window-clause-stays g c tells =
    stays_both _ (g.V.Volume.view c.loop-number.vol) _ (g.met.V.Volume.counts_now tells c.args.vol.now) (c.loop-number.invariant.stays tells) (c.read_window.ensures.stays tells)

pub returns-in_err-window-clause-once : goal.returns-in_err-window-clause-once
returns-in_err-window-clause-once g c =
    once_on _ (g.V.Volume.faults c.loop-number.vol) _ c.read_window.result c.from_residual-in_err-window.result c.in_err-window.field-0.0 c.loop-number.invariant.same c.in_err-window.was (grind (arith, common_steps)) c.read_window.ensures.once

pub returns-in_err-read-clause-refused : goal.returns-in_err-read-clause-refused
returns-in_err-read-clause-refused g c tells bytes stands =
    let i = c.loop-number.invariant in
    let l = c.loop-number in
    let counts = c.args.counts.items in
    let known = c.args.log.now in
    let at = head_end known (length bytes) in
    let fault = c.in_err-read.field-0.0 in
    let s = i.stands tells bytes stands in
    let w = c.in_ok-window.ensures.window tells bytes (ap (λ image. image (log_name known.number)) (i.stays tells).contents ∙ stands) (sym s.0) in
    err_is c.from_residual-in_err-read.result fault (λ (f : Fault). IsLogFault f → IsLogRefused (log_file known.number) 0 (length counts) (counts_in counts) known.head.first c.args.limit bytes at f) (grind (arith, common_steps))
    (if_refused fault _ _ c.in_err-read.ensures.refusals
    (λ refused. subst (λ file. IsLogRefused file 0 (length counts) (counts_in counts) known.head.first c.args.limit bytes at fault) c.log_file-file.ensures
    (refused_more c.log_file-file.result counts l.counts.items known.head.first l.number c.args.limit bytes c.deref.result.now at l.stop w.count l.records.items fault s.1 i.counts i.parts i.numbers
    (c.deref.ensures.value ∙ w.front) refused)))

pub returns-in_err-read-clause-stays : goal.returns-in_err-read-clause-stays
returns-in_err-read-clause-stays g c tells =
    stays_both _ (g.V.Volume.view c.loop-number.vol) _ (g.met.V.Volume.counts_now tells c.args.vol.now) (c.loop-number.invariant.stays tells) (c.read_window.ensures.stays tells)

pub returns-in_err-read-clause-kinds : goal.returns-in_err-read-clause-kinds
returns-in_err-read-clause-kinds g c =
    err_is c.from_residual-in_err-read.result c.in_err-read.field-0.0 (λ (f : Fault). (f ≡ NoMemory) ⊎ (f ≡ ReadFault) ⊎ IsLogFault f) (grind (arith, common_steps)) (kinds_of c.log_file-file.result _ _ _ _ _ _ _ _ (named_log c.log_file-file.result c.args.log.now.number c.log_file-file.ensures) c.in_err-read.ensures.refusals)

pub returns-in_err-read-clause-once : goal.returns-in_err-read-clause-once
returns-in_err-read-clause-once g c = once_same _ _ c.from_residual-in_err-read.result (g.met.V.Volume.bounded c.args.vol.now) (c.in_ok-window.ensures.once.kept ∙ c.loop-number.invariant.same)

pub returns-then-count-eq0-clause-counts : goal.returns-then-count-eq0-clause-counts
returns-then-count-eq0-clause-counts g c other =
    let none = nil_from_length c.in_ok-read.read.records (sym c.len-count.ensures ∙ c.if-count-eq0.true) in
    c.in_ok-read.ensures.counts other ∙ ap (λ (recs : List Rec). counts_after (counts_in c.loop-number.counts.items) recs other) none ∙ c.loop-number.invariant.counts other

pub returns-then-count-eq0-clause-gives : goal.returns-then-count-eq0-clause-gives
returns-then-count-eq0-clause-gives g c tells bytes stands =
    let i = c.loop-number.invariant in
    let l = c.loop-number in
    let known = c.args.log.now in
    let read = c.in_ok-read.read in
    let s = i.stands tells bytes stands in
    let w = c.in_ok-window.ensures.window tells bytes (ap (λ image. image (log_name known.number)) (i.stays tells).contents ∙ stands) (sym s.0) in (
      s.0,
      record {
        records = s.1;
        below = omega (arith, i.numbers, i.below);
        ends = inr (subst (λ (n : ℕ). NoFrame n (drop l.stop bytes)) (sym i.numbers)
            (ends_here (length l.counts.items) (counts_in l.counts.items) l.number c.args.limit bytes c.deref.result.now l.stop read.records read.stop (sym c.len-count.ensures ∙ c.if-count-eq0.true)
            (omega (arith, c.loop-number-test.true)) (subst (IsWindow bytes l.stop l.number) (sym c.deref.ensures.value) w) c.in_ok-read.ensures.gives));
      },
    )

pub returns-then-count-eq0-clause-stays : goal.returns-then-count-eq0-clause-stays
returns-then-count-eq0-clause-stays g c tells =
    stays_both _ (g.V.Volume.view c.loop-number.vol) _ (g.met.V.Volume.counts_now tells c.args.vol.now) (c.loop-number.invariant.stays tells) (c.read_window.ensures.stays tells)

pub returns-then-count-eq0-clause-once : goal.returns-then-count-eq0-clause-once
returns-then-count-eq0-clause-once g c = once_same _ _ _ (g.met.V.Volume.bounded c.args.vol.now) (c.in_ok-window.ensures.once.kept ∙ c.loop-number.invariant.same)

pub returns-in_err-append-clause-stays : goal.returns-in_err-append-clause-stays
returns-in_err-append-clause-stays g c tells =
    stays_both _ (g.V.Volume.view c.loop-number.vol) _ (g.met.V.Volume.counts_now tells c.args.vol.now) (c.loop-number.invariant.stays tells) (c.read_window.ensures.stays tells)

pub returns-in_err-append-clause-once : goal.returns-in_err-append-clause-once
returns-in_err-append-clause-once g c = once_same _ _ c.from_residual-in_err-append.result (g.met.V.Volume.bounded c.args.vol.now) (c.in_ok-window.ensures.once.kept ∙ c.loop-number.invariant.same)

pub loop-number-preserved : goal.loop-number-preserved
loop-number-preserved g c =
    let i = c.loop-number.invariant in
    let l = c.loop-number in
    let counts = c.args.counts.items in
    let known = c.args.log.now in
    let read = c.in_ok-read.read in
    let recs = l.records.items in
    let items : c.append.new.self.items ≡ recs ++ read.records = subst (λ (mine : List Rec). c.append.new.self.items ≡ recs ++ mine) c.into_vec.ensures c.in_ok-append.ensures.items in
    record {
      order = subst (λ (all : List Rec). InOrder (length counts) (counts_in counts) known.head.first all) (sym items)
          (order_more counts l.counts.items known.head.first l.number recs read.records i.counts i.parts i.numbers i.order c.in_ok-read.ensures.gives.records.begins.in_order);
      counts = λ part. counts_more counts l.counts.items read.counts.items recs read.records i.counts c.in_ok-read.ensures.counts part ∙ ap (λ (all : List Rec). counts_after (counts_in counts) all part) (sym items);
      parts = c.in_ok-read.ensures.parts ∙ i.parts;
      numbers = omega (arith, ap length items, length-append recs read.records, i.numbers, c.len-count.ensures);
      below = omega (arith, c.in_ok-read.ensures.gives.below, c.len-count.ensures);
      within = omega (arith, c.in_ok-read.ensures.gives.records.within, c.in_ok-window.ensures.bound, ap length c.deref.ensures.value);
      stands = λ tells bytes stands.
          let s = i.stands tells bytes stands in
          let w = c.in_ok-window.ensures.window tells bytes (ap (λ image. image (log_name known.number)) (i.stays tells).contents ∙ stands) (sym s.0) in (
            s.0,
            subst (λ (all : List Rec). HasRecords (length counts) (counts_in counts) known.head.first bytes (head_end known (length bytes)) all (l.stop + read.stop)) (sym items)
                (records_more counts l.counts.items known.head.first l.number bytes c.deref.result.now (head_end known (length bytes)) l.stop w.count recs read.records read.stop s.1 i.counts i.parts i.numbers
                (c.deref.ensures.value ∙ w.front) c.in_ok-read.ensures.gives.records),
          );
      stays = λ tells. stays_both _ (g.V.Volume.view l.vol) _ (g.met.V.Volume.counts_now tells c.args.vol.now) (i.stays tells) (c.read_window.ensures.stays tells);
      same = c.in_ok-window.ensures.once.kept ∙ i.same;
    }

pub returns-clause-once : goal.returns-clause-once
returns-clause-once g c = once_same _ _ _ (g.met.V.Volume.bounded c.args.vol.now) c.loop-number.invariant.same
