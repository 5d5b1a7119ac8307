use Rattle.std.proofs.Common.{◌≡◌, ◌++◌, ◌∷◌, ◌∙◌, Global, Vec, ap, arith, List, ℕ, refl, subst, sym, []}
use Rattle.std.proofs.lemmas.Grind.{common_steps}
use Rattle.mg_wal.specs.Findings.{IsFirstBody}
use Rattle.mg_wal.proofs.ReadLaws.{cause_on, memory_cause, ok_cause, once_on, once_same, stays_both}
use Rattle.mg_wal.proofs.ScanLaws.{all_taken, among_below, among_more, among_next, greatest_is, scanned_all, scanned_none, stands_at, stray_more, whole_more, AreAmong, IsScanned}
use Rattle.mg_wal.proofs.finding.find_logs.Goals.{in-Some+in_ok-push-in-Some, in-None+in_ok-push-in-None}
use Rattle.mg_wal.proofs.finding.find_logs.Goals as goal

-- the items of a list that is the same, and of one with an item more
items_same : {X : Type 0} (after before : Vec X Global) → after ≡ before → after.items ≡ before.items
items_same after before is = ap (λ v. v.items) is

items_more : {X : Type 0} (after pushed : Vec X Global) (was : List X) (x : X) → after ≡ pushed → pushed.items ≡ was ++ x ∷ [] → after.items ≡ was ++ x ∷ []
items_more after pushed was x is more = items_same after pushed is ∙ more

pub loop-number-init : goal.loop-number-init
loop-number-init g c = record {
  scanned = λ tells. rw (c.new-whole.ensures.items, c.new-strays.ensures.items) (scanned_none (g.V.Volume.view c.args.vol.now).contents);
  among = subst (AreAmong []) (sym c.new-whole.ensures.items) tt;
  stays = λ tells. c.log_numbers.ensures.stays tells;
  same = c.in_ok-numbers.ensures.once.kept;
}

pub read_first-requires : goal.read_first-requires
read_first-requires g c = record {
  there = λ tells. stands_at (g.V.Volume.view c.args.vol.now).contents _ c.in_ok-numbers.numbers.items c.deref-number-items.result.now c.loop-number.number-index
      (c.loop-number.invariant.stays tells).contents c.deref-number-items.ensures.value (c.in_ok-numbers.ensures.all tells) c.loop-number-test.true;
}

pub returns-in_err-body-clause-stays : goal.returns-in_err-body-clause-stays
returns-in_err-body-clause-stays g c tells = stays_both _ (g.V.Volume.view c.loop-number.vol) _ (g.met.V.Volume.counts_now tells c.args.vol.now) (c.loop-number.invariant.stays tells) (c.read_first.ensures.stays tells)

pub returns-in_err-body-clause-cause : goal.returns-in_err-body-clause-cause
returns-in_err-body-clause-cause g c =
    cause_on _ _ (g.V.Volume.faults c.loop-number.vol) _ c.read_first.result c.from_residual-in_err-body.result c.in_err-body.field-0.0 (omega (arith, c.loop-number.invariant.same)) c.in_err-body.was (grind (arith, common_steps)) c.read_first.ensures.cause

pub returns-in_err-body-clause-once : goal.returns-in_err-body-clause-once
returns-in_err-body-clause-once g c =
    once_on _ (g.V.Volume.faults c.loop-number.vol) _ c.read_first.result c.from_residual-in_err-body.result c.in_err-body.field-0.0 c.loop-number.invariant.same c.in_err-body.was (grind (arith, common_steps)) c.read_first.ensures.once

pub returns-in_err-push-in-Some-clause-stays : goal.returns-in_err-push-in-Some-clause-stays
returns-in_err-push-in-Some-clause-stays g c tells = stays_both _ (g.V.Volume.view c.loop-number.vol) _ (g.met.V.Volume.counts_now tells c.args.vol.now) (c.loop-number.invariant.stays tells) (c.read_first.ensures.stays tells)

pub returns-in_err-push-in-Some-clause-cause : goal.returns-in_err-push-in-Some-clause-cause
returns-in_err-push-in-Some-clause-cause g c = memory_cause _ _ c.from_residual-in_err-push-in-Some.result (omega (arith, c.loop-number.invariant.same, c.read_first.ensures.cause.later)) (grind (arith, common_steps))

pub returns-in_err-push-in-Some-clause-once : goal.returns-in_err-push-in-Some-clause-once
returns-in_err-push-in-Some-clause-once g c = once_same _ _ c.from_residual-in_err-push-in-Some.result (g.met.V.Volume.bounded c.args.vol.now) (c.in_ok-body.ensures.once.kept ∙ c.loop-number.invariant.same)

pub returns-in_err-push-in-None-clause-stays : goal.returns-in_err-push-in-None-clause-stays
returns-in_err-push-in-None-clause-stays g c tells = stays_both _ (g.V.Volume.view c.loop-number.vol) _ (g.met.V.Volume.counts_now tells c.args.vol.now) (c.loop-number.invariant.stays tells) (c.read_first.ensures.stays tells)

pub returns-in_err-push-in-None-clause-cause : goal.returns-in_err-push-in-None-clause-cause
returns-in_err-push-in-None-clause-cause g c = memory_cause _ _ c.from_residual-in_err-push-in-None.result (omega (arith, c.loop-number.invariant.same, c.read_first.ensures.cause.later)) (grind (arith, common_steps))

pub returns-in_err-push-in-None-clause-once : goal.returns-in_err-push-in-None-clause-once
returns-in_err-push-in-None-clause-once g c = once_same _ _ c.from_residual-in_err-push-in-None.result (g.met.V.Volume.bounded c.args.vol.now) (c.in_ok-body.ensures.once.kept ∙ c.loop-number.invariant.same)

pub loop-number-preserved : goal.loop-number-preserved
loop-number-preserved g c =
    let l = c.loop-number in
    let items = c.deref-number-items.result.now in
    let image = (g.V.Volume.view c.args.vol.now).contents in
    let now = (g.V.Volume.view l.vol).contents in
    record {
      scanned = λ tells. elim c.match-branch-3.branch [
        | in-Some+in_ok-push-in-Some w ↦
            whole_more image now c.in_ok-numbers.numbers.items items l.number-index c.deref-number-items.ensures.value c.in_ok-numbers.ensures.rise c.loop-number-test.true
            l.whole.items c.match-branch-3.whole.items l.strays.items c.match-branch-3.strays.items w.in-Some.body (l.invariant.stays tells).contents (l.invariant.scanned tells)
            (subst (IsFirstBody now _) w.in-Some.is (c.in_ok-body.ensures.first tells)) (items_more c.match-branch-3.whole _ l.whole.items _ w.whole-is w.in_ok-push-in-Some.ensures.items) (items_same c.match-branch-3.strays l.strays w.strays-is)
        | in-None+in_ok-push-in-None w ↦
            stray_more image now c.in_ok-numbers.numbers.items items l.number-index c.deref-number-items.ensures.value c.in_ok-numbers.ensures.rise c.loop-number-test.true
            l.whole.items c.match-branch-3.whole.items l.strays.items c.match-branch-3.strays.items (l.invariant.stays tells).contents (l.invariant.scanned tells)
            (subst (IsFirstBody now _) w.in-None.is (c.in_ok-body.ensures.first tells)) (items_same c.match-branch-3.whole l.whole w.whole-is) (items_more c.match-branch-3.strays _ l.strays.items _ w.strays-is w.in_ok-push-in-None.ensures.items)
      ];
      among = elim c.match-branch-3.branch [
        | in-Some+in_ok-push-in-Some w ↦
            among_next items l.number-index l.whole.items c.match-branch-3.whole.items w.in-Some.body c.loop-number-test.true l.invariant.among (items_more c.match-branch-3.whole _ l.whole.items _ w.whole-is w.in_ok-push-in-Some.ensures.items)
        | in-None+in_ok-push-in-None w ↦ among_more items l.number-index l.whole.items c.match-branch-3.whole.items c.loop-number-test.true l.invariant.among (items_same c.match-branch-3.whole l.whole w.whole-is)
      ];
      stays = λ tells. stays_both _ (g.V.Volume.view l.vol) _ (g.met.V.Volume.counts_now tells c.args.vol.now) (l.invariant.stays tells) (c.read_first.ensures.stays tells);
      same = c.in_ok-body.ensures.once.kept ∙ l.invariant.same;
    }

pub returns-clause-found : goal.returns-clause-found
returns-clause-found g c tells =
    let l = c.loop-number in
    let numbers = c.in_ok-numbers.numbers.items in
    let taken = all_taken numbers c.deref-number-items.result.now l.number-index c.deref-number-items.ensures.value c.loop-number-test.false in
    scanned_all (g.V.Volume.view c.args.vol.now).contents numbers l.whole.items l.strays.items c.unwrap_or-newest.result (c.in_ok-numbers.ensures.all tells)
    (greatest_is numbers c.deref.result.now c.unwrap_or-newest.result c.copied.result _ c.deref.ensures.value c.in_ok-numbers.ensures.rise c.unwrap_or-newest.ensures c.copied.ensures c.last.ensures.value)
    (subst (λ (list : List ℕ). IsScanned (g.V.Volume.view c.args.vol.now).contents list l.whole.items l.strays.items) taken (l.invariant.scanned tells)) _ refl refl refl

pub returns-clause-below : goal.returns-clause-below
returns-clause-below g c =
    let l = c.loop-number in
    let numbers = c.in_ok-numbers.numbers.items in
    let taken = all_taken numbers c.deref-number-items.result.now l.number-index c.deref-number-items.ensures.value c.loop-number-test.false in
    among_below numbers c.unwrap_or-newest.result l.whole.items
    (greatest_is numbers c.deref.result.now c.unwrap_or-newest.result c.copied.result _ c.deref.ensures.value c.in_ok-numbers.ensures.rise c.unwrap_or-newest.ensures c.copied.ensures c.last.ensures.value)
    (subst (λ (list : List ℕ). AreAmong list l.whole.items) taken l.invariant.among)

pub returns-clause-stays : goal.returns-clause-stays
returns-clause-stays g c tells = c.loop-number.invariant.stays tells

pub returns-clause-cause : goal.returns-clause-cause
returns-clause-cause g c = ok_cause _ _ _ _ (omega (arith, c.loop-number.invariant.same))

pub returns-clause-once : goal.returns-clause-once
returns-clause-once g c = once_same _ _ _ (g.met.V.Volume.bounded c.args.vol.now) c.loop-number.invariant.same
