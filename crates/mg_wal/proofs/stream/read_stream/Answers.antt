use Rattle.std.proofs.Common.{◌≡◌, ◌+◌, ◌++◌, [], ℕ, List, length, get_or, inl, refl, sym, ap, subst, ◌∙◌, arith}
use Rattle.std.proofs.lemmas.Grind.{common_steps}
use Rattle.mg_types.specs.declared.faults.Fault.{Fault}
use Rattle.mg_types.specs.declared.faults.Fault.TheVariants.{NoMemory, ReadFault}
use Rattle.mg_wal_format.specs.declared.record.Rec.{Rec}
use Rattle.mg_wal_format.specs.Logs.{counts_after, InOrder, Log}
use Rattle.mg_wal_format.specs.Records.{counts_in}
use Rattle.mg_wal_format.specs.Recovery.{first_of, log_name, low_of, IsStreamFault}
use Rattle.mg_wal_format.proofs.ReadingLaws.{err_is}
use Rattle.mg_wal.specs.Findings.{AreKnown, IsLogFault, StandIn}
use Rattle.mg_wal.specs.Streams.{AreSound, BeginAt, GoesOn, StandsAs}
use Rattle.mg_wal.proofs.ReadLaws.{ok_cause, once_on, once_same, stays_both}
use Rattle.mg_wal.proofs.StreamLaws.{begins_first, begins_more, cause_handed, counts_more, fault_read, goes_none, goes_read, leads, leads_there, no_read_fault, order_more, sound_behind, stays_self, stream_gives, stream_refused}
use Rattle.mg_wal.proofs.stream.read_stream.Goals as goal

pub loop-log-init : goal.loop-log-init
loop-log-init g c =
    let low = c.args.low.now in
    let none : c.new-records.result.items ≡ [] = c.new-records.ensures.items in
    let same : c.in_ok-counts.counts.items ≡ low = c.in_ok-counts.ensures.items_if_clones_equal (λ x y same. same) in
    record {
      ready = (c.requires.ready.logs, c.requires.ready.are, c.requires.ready.heads);
      shorter = omega arith;
      none = λ empty. none;
      order = λ logs are. subst (λ (recs : List Rec). InOrder (length low) (counts_in low) (first_of logs) recs) (sym none) tt;
      counts = λ part. ap (λ (xs : List ℕ). get_or xs part 0) same ∙ ap (λ (recs : List Rec). counts_after (counts_in low) recs part) (sym none);
      parts = ap length same;
      reaches = λ logs are. begins_first c.args.known.now logs c.new-records.result.items none are;
      stand = λ tells. c.requires.stand tells;
      goes = λ tells logs are stand. (
        logs,
        are,
        stand,
        subst (λ (recs : List Rec). GoesOn (length low) (counts_in low) (first_of logs) logs recs logs) (sym none) (goes_none (length low) (counts_in low) (first_of logs) logs),
      );
      stays = λ tells. stays_self (g.V.Volume.view c.args.vol.now);
      same = refl;
    }

pub read_records-requires-clause-there : goal.read_records-requires-clause-there
read_records-requires-clause-there g c tells =
    let i = c.loop-log.invariant in
    let s = i.stand tells in
    leads_there (g.V.Volume.view c.args.vol.now).contents (g.V.Volume.view c.loop-log.vol).contents c.in-Some.log.now c.in-Some.others.now s.0 (i.stays tells).contents
    (leads (g.V.Volume.view c.args.vol.now).contents c.in-Some.log.now c.in-Some.others.now c.loop-log.rest.now s.0 c.in-Some.ensures.cases.0 s.1 s.2)

pub read_records-requires-clause-sound : goal.read_records-requires-clause-sound
read_records-requires-clause-sound g c = subst AreSound c.in-Some.ensures.cases.0 c.loop-log.invariant.ready

pub returns-in_err-part-clause-refused : goal.returns-in_err-part-clause-refused
returns-in_err-part-clause-refused g c tells =
    let i = c.loop-log.invariant in
    let low = c.args.low.now in
    let image = (g.V.Volume.view c.args.vol.now).contents in
    let known = c.in-Some.log.now in
    let others = c.in-Some.others.now in
    let split = c.in-Some.ensures.cases.0 in
    let fault = c.in_err-part.field-0.0 in
    err_is c.from_residual-in_err-part.result fault
    (λ (f : Fault). IsLogFault f → (logs : List Log) → AreKnown c.args.known.now logs → StandIn image logs → IsStreamFault (length low) (low_of logs) (first_of logs) logs f) (grind (arith, common_steps))
    (λ refusal logs are stand.
    let left = i.goes tells logs are stand in
    let l = leads image known others c.loop-log.rest.now left.0 split left.1 left.2 in
    let there : StandsAs (g.V.Volume.view c.loop-log.vol).contents known l.log = (l.known_as, ap (λ image. image (log_name known.number)) (i.stays tells).contents ∙ l.bytes) in
    let is = c.in_err-part.ensures.refused tells l.log l.rest there l.others_are refusal in
    let reached : first_of logs + length c.loop-log.records.items ≡ known.head.first = subst (BeginAt (first_of logs + length c.loop-log.records.items)) split (i.reaches logs are) in
    stream_refused c.args.known.now low logs fault c.requires.ready are
    (fault_read low c.loop-log.counts.items (first_of logs) known.head.first logs c.loop-log.records.items left.0 fault i.counts i.parts reached left.3
    (subst (λ (ls : List Log). IsStreamFault (length c.loop-log.counts.items) (counts_in c.loop-log.counts.items) known.head.first ls fault) (sym l.split) is)))

pub returns-in_err-part-clause-stays : goal.returns-in_err-part-clause-stays
returns-in_err-part-clause-stays g c tells =
    stays_both _ (g.V.Volume.view c.loop-log.vol) _ (g.met.V.Volume.counts_now tells c.args.vol.now) (c.loop-log.invariant.stays tells) (c.read_records.ensures.stays tells)

pub returns-in_err-part-clause-cause : goal.returns-in_err-part-clause-cause
returns-in_err-part-clause-cause g c =
    cause_handed _ _ _ c.read_records.result c.from_residual-in_err-part.result c.in_err-part.field-0.0 (omega (arith, c.loop-log.invariant.same)) c.in_err-part.was (grind (arith, common_steps)) c.read_records.ensures.cause

pub returns-in_err-part-clause-once : goal.returns-in_err-part-clause-once
returns-in_err-part-clause-once g c =
    once_on _ (g.V.Volume.faults c.loop-log.vol) _ c.read_records.result c.from_residual-in_err-part.result c.in_err-part.field-0.0 c.loop-log.invariant.same c.in_err-part.was (grind (arith, common_steps)) c.read_records.ensures.once

pub returns-in_err-append-clause-stays : goal.returns-in_err-append-clause-stays
returns-in_err-append-clause-stays g c tells =
    stays_both _ (g.V.Volume.view c.loop-log.vol) _ (g.met.V.Volume.counts_now tells c.args.vol.now) (c.loop-log.invariant.stays tells) (c.read_records.ensures.stays tells)

pub returns-in_err-append-clause-cause : goal.returns-in_err-append-clause-cause
returns-in_err-append-clause-cause g c =
    no_read_fault _ _ c.from_residual-in_err-append.result NoMemory (omega (arith, c.loop-log.invariant.same, c.read_records.ensures.cause.later)) (grind (arith, common_steps)) (inl refl)

pub returns-in_err-append-clause-once : goal.returns-in_err-append-clause-once
returns-in_err-append-clause-once g c = once_same _ _ c.from_residual-in_err-append.result (g.met.V.Volume.bounded c.args.vol.now) (c.in_ok-part.ensures.once.kept ∙ c.loop-log.invariant.same)

pub loop-log-smaller : goal.loop-log-smaller
loop-log-smaller g c = omega (arith, ap length c.in-Some.ensures.cases.0)

pub loop-log-preserved : goal.loop-log-preserved
loop-log-preserved g c =
    let i = c.loop-log.invariant in
    let low = c.args.low.now in
    let image = (g.V.Volume.view c.args.vol.now).contents in
    let known = c.in-Some.log.now in
    let others = c.in-Some.others.now in
    let split = c.in-Some.ensures.cases.0 in
    let recs = c.loop-log.records.items in
    let counts = c.loop-log.counts.items in
    let read = c.in_ok-part.part in
    let items : c.append.new.self.items ≡ recs ++ read.records.items = c.in_ok-append.ensures.items in
    let reached : (logs : List Log) → AreKnown c.args.known.now logs → first_of logs + length recs ≡ known.head.first = λ logs are. subst (BeginAt (first_of logs + length recs)) split (i.reaches logs are) in
    record {
      ready = sound_behind known others (subst AreSound split i.ready);
      shorter = omega (arith, i.shorter, ap length split);
      none = λ empty. absurd (omega (arith, i.shorter, ap length split, ap length empty));
      order = λ logs are. subst (λ (l : List Rec). InOrder (length low) (counts_in low) (first_of logs) l) (sym items)
          (order_more low counts (first_of logs) known.head.first recs read.records.items i.counts i.parts (reached logs are) (i.order logs are) c.in_ok-part.ensures.order);
      counts = λ part. counts_more low counts read.counts.items recs read.records.items i.counts c.in_ok-part.ensures.counts part ∙ ap (λ (l : List Rec). counts_after (counts_in low) l part) (sym items);
      parts = c.in_ok-part.ensures.parts ∙ i.parts;
      reaches = λ logs are. subst (λ (l : List Rec). BeginAt (first_of logs + length l) others) (sym items)
          (begins_more (first_of logs) known.head.first recs read.records.items others (reached logs are) c.in_ok-part.ensures.reaches);
      stand = λ tells.
          let s = i.stand tells in
          let l = leads image known others c.loop-log.rest.now s.0 split s.1 s.2 in (l.rest, l.others_are, l.stand);
      goes = λ tells logs are stand.
          let left = i.goes tells logs are stand in
          let l = leads image known others c.loop-log.rest.now left.0 split left.1 left.2 in
          let there : StandsAs (g.V.Volume.view c.loop-log.vol).contents known l.log = (l.known_as, ap (λ image. image (log_name known.number)) (i.stays tells).contents ∙ l.bytes) in
          let goes = c.in_ok-part.ensures.gives tells l.log l.rest there l.others_are in (
            l.rest,
            l.others_are,
            l.stand,
            subst (λ (mine : List Rec). GoesOn (length low) (counts_in low) (first_of logs) logs mine l.rest) (sym items)
                (goes_read low counts (first_of logs) known.head.first logs recs left.0 read.records.items l.rest i.counts i.parts (reached logs are) left.3
                (subst (λ (ls : List Log). GoesOn (length counts) (counts_in counts) known.head.first ls read.records.items l.rest) (sym l.split) goes)),
          );
      stays = λ tells. stays_both _ (g.V.Volume.view c.loop-log.vol) _ (g.met.V.Volume.counts_now tells c.args.vol.now) (i.stays tells) (c.read_records.ensures.stays tells);
      same = c.in_ok-part.ensures.once.kept ∙ i.same;
    }

pub returns-clause-order : goal.returns-clause-order
returns-clause-order g c = c.loop-log.invariant.order

pub returns-clause-none : goal.returns-clause-none
returns-clause-none g c = c.loop-log.invariant.none

pub returns-clause-counts : goal.returns-clause-counts
returns-clause-counts g c = c.loop-log.invariant.counts

pub returns-clause-parts : goal.returns-clause-parts
returns-clause-parts g c = c.loop-log.invariant.parts

pub returns-clause-gives : goal.returns-clause-gives
returns-clause-gives g c tells logs are stand =
    let left = c.loop-log.invariant.goes tells logs are stand in
    stream_gives c.args.known.now c.args.low.now logs c.loop-log.records.items c.loop-log.rest.now left.0 c.requires.ready are c.in_default.ensures.cases left.1 left.3

pub returns-clause-stays : goal.returns-clause-stays
returns-clause-stays g c = c.loop-log.invariant.stays

pub returns-clause-cause : goal.returns-clause-cause
returns-clause-cause g c = ok_cause ReadFault _ _ _ (omega (arith, c.loop-log.invariant.same))

pub returns-clause-once : goal.returns-clause-once
returns-clause-once g c = once_same _ _ _ (g.met.V.Volume.bounded c.args.vol.now) c.loop-log.invariant.same
