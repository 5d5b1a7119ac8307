use Rattle.std.proofs.Common.{◌≡◌, ℕ, ◌<◌, List, [], ◌∷◌, ◌++◌, length, refl, sym, ap, subst, ◌∙◌, arith}
use Rattle.std.proofs.lemmas.Bool.{false≢true}
use Rattle.std.proofs.lemmas.List.{length-append}
use Rattle.std.specs.List.{AllByRecursion}
use Rattle.mg_manifest_format.specs.Spelling.{listed}
use Rattle.mg_manifest_format.proofs.ListLaws.{all-push, ahead_last, ahead_next, ahead_none, listed-push, IsAhead}
use Rattle.mg_manifest_format.proofs.items.split_items.Goals as goal

pub returns-in_default-clause-read : goal.returns-in_default-clause-read
returns-in_default-clause-read g c =
    let inv = c.loop.invariant in
    let split = rw c.in_default.is at c.in_ok-item.ensures.read in
    let small : length c.loop.items.items < c.args.count = omega (arith, inv.count, c.loop-test.true) in (
      tt,
      λ xs more fits spelled. absurd (ahead_none g.T.Spelled.spelling c.args.count c.args.bytes.now c.loop.items.items c.loop.rest.now small
          (λ y rest fit is. false≢true (split.1 y rest fit is).0) inv.ahead xs more fits.0 fits.1 spelled),
    )

pub loop-preserved : goal.loop-preserved
loop-preserved g c =
    let s = g.T.Spelled.spelling in
    let inv = c.loop.invariant in
    let read = c.loop.items.items in
    let item = c.in-Some.item in
    let behind = c.in-Some.behind.now in
    let split = rw c.in-Some.is at c.in_ok-item.ensures.read in
    let small : length read < c.args.count = omega (arith, inv.count, c.loop-test.true) in
    let items = c.in_ok-push.ensures.items in
    record {
      spelled = ap (λ xs. listed s xs ++ behind) items ∙ listed-push s read item behind ∙ ap (λ (l : List ℕ). listed s read ++ l) (sym split.0.1) ∙ inv.spelled;
      fits = subst (AllByRecursion s.fits) (sym items) (all-push s.fits read item inv.fits split.0.0);
      count = omega (arith, ap length items, length-append read (item ∷ []), inv.count);
      ahead = subst (λ xs. IsAhead s c.args.count c.args.bytes.now xs behind) (sym items)
          (ahead_next s c.args.count c.args.bytes.now read c.loop.rest.now behind item small (λ y rest fit is. (split.1 y rest fit is).1) inv.ahead);
    }

pub returns-clause-read : goal.returns-clause-read
returns-clause-read g c =
    let s = g.T.Spelled.spelling in
    let inv = c.loop.invariant in
    let read = c.loop.items.items in
    let is = c.from_vec.ensures in
    let all : length read ≡ c.args.count = omega (arith, inv.count, c.loop-test.false, c.loop.auto.counter-end) in (
      ((ap length is ∙ all, subst (AllByRecursion s.fits) (sym is) inv.fits), sym (ap (λ xs. listed s xs ++ c.loop.rest.now) is ∙ inv.spelled)),
      λ xs more fits spelled.
          let last = ahead_last s c.args.count c.args.bytes.now read c.loop.rest.now all inv.ahead xs more fits.0 fits.1 spelled in
          (refl, (is ∙ last.0, last.1)),
    )
