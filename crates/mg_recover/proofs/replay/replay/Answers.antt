use Rattle.std.proofs.Common.{◌≡◌, ◌⊎◌, inr, List, take, false, IsTrue, sym, subst, ◌∙◌, arith}
use Rattle.std.proofs.lemmas.Grind.{common_steps}
use Rattle.std.proofs.Math.ListN.{length-set}
use Rattle.mg_model.specs.History.{allows}
use Rattle.mg_recover.specs.Made.{entries_of, AreMade}
use Rattle.mg_recover.specs.Refusals.{IsUnfit}
use Rattle.mg_types.specs.declared.faults.Fault.TheVariants.{NoMemory}
use Rattle.mg_wal_format.specs.declared.record.Rec.{Rec}
use Rattle.mg_wal_format.proofs.ReadingLaws.{err_is}
use Rattle.mg_recover.proofs.ReplayLaws.{given_at, made_step, old_is, part_of, states_step, unfit_at, unfit_forbidden, unfit_limit, IsMadeAt}
use Rattle.mg_recover.proofs.replay.replay.Goals as goal

pub returns-in_err-make-clause-unfit : goal.returns-in_err-make-clause-unfit
returns-in_err-make-clause-unfit c found given =
    let recs = c.args.records.now in
    let rec = c.index-records-at.result in
    let f = c.in_err-make.field-0.0 in
    let below = part_of c.args.parts recs c.loop-at.at rec c.requires c.loop-at-test.true c.index-records-at.is in
    let was = old_is c.args.parts (take c.loop-at.at recs) rec.part c.from.result c.loop-at.partitions.items c.index_mut.result.now c.loop-at.invariant.states c.from.ensures below c.loop-at.invariant.parts c.index_mut.ensures.value in
    err_is c.from_residual-in_err-make.result f (λ e. (e ≡ NoMemory) ⊎ IsUnfit found recs e) (grind (arith, common_steps))
    (unfit_limit found recs c.loop-at.at rec c.index_mut.result.now f c.loop-at-test.true c.index-records-at.is c.loop-at.invariant.made was c.in_err-make.ensures.err)

pub returns-then-not-branch-clause-unfit : goal.returns-then-not-branch-clause-unfit
returns-then-not-branch-clause-unfit c found given =
    let recs = c.args.records.now in
    let rec = c.index-records-at.result in
    let f = c.forbidden.result in
    let below = part_of c.args.parts recs c.loop-at.at rec c.requires c.loop-at-test.true c.index-records-at.is in
    let was = old_is c.args.parts (take c.loop-at.at recs) rec.part c.from.result c.loop-at.partitions.items c.index_mut.result.now c.loop-at.invariant.states c.from.ensures below c.loop-at.invariant.parts c.index_mut.ensures.value in
    let named = c.forbidden.ensures.placed c.args.parts found _ (given_at c.args.parts found c.args.logs.now recs c.loop-at.at rec c.loop-at-test.true c.index-records-at.is given) in
    let not_allowed : allows c.index_mut.result.now.plain rec.what ≡ false = sym c.in_ok-make.ensures.allowed ∙ c.if-not-branch.true in
    inr (unfit_at found recs c.loop-at.at rec f c.loop-at-test.true c.index-records-at.is c.loop-at.invariant.made
    (unfit_forbidden found (take c.loop-at.at recs) rec c.index_mut.result.now f was c.in_ok-make.ensures.room not_allowed named))

pub loop-at-preserved : goal.loop-at-preserved
loop-at-preserved c =
    let recs = c.args.records.now in
    let rec = c.index-records-at.result in
    let below = part_of c.args.parts recs c.loop-at.at rec c.requires c.loop-at-test.true c.index-records-at.is in
    let was = old_is c.args.parts (take c.loop-at.at recs) rec.part c.from.result c.loop-at.partitions.items c.index_mut.result.now c.loop-at.invariant.states c.from.ensures below c.loop-at.invariant.parts c.index_mut.ensures.value in
    let allowed : IsTrue (allows c.index_mut.result.now.plain rec.what) = sym c.in_ok-make.ensures.allowed ∙ c.if-not-branch.false in
    let is = c.in_ok-make.ensures.made c.if-not-branch.false in
    let made : IsMadeAt (take c.loop-at.at recs) rec c.index_mut.result.now c.make.new.self = record { was = was; room = c.in_ok-make.ensures.room; allowed = allowed; is = is } in
    record {
      parts = length-set c.loop-at.partitions.items c.from.result c.make.new.self ∙ c.loop-at.invariant.parts;
      made = made_step recs c.loop-at.at rec c.index_mut.result.now c.make.new.self c.loop-at-test.true c.index-records-at.is c.loop-at.invariant.made made;
      states = states_step c.args.parts recs c.loop-at.at rec c.from.result c.loop-at.partitions.items c.index_mut.result.now c.make.new.self c.loop-at-test.true c.index-records-at.is c.from.ensures below
          c.loop-at.invariant.parts c.loop-at.invariant.states made;
    }

pub returns-clause-made : goal.returns-clause-made
returns-clause-made c =
    let whole : take c.loop-at.at c.args.records.now ≡ c.args.records.now = grind (arith, common_steps) in
    subst (λ (rs : List Rec). AreMade (entries_of rs)) whole c.loop-at.invariant.made
