use Rattle.std.proofs.Common.{◌≡◌, ◌⊎◌, List, map, take, refl, arith}
use Rattle.std.proofs.lemmas.Grind.{common_steps}
use Rattle.mg_types.specs.declared.faults.Fault.TheVariants.{NoMemory}
use Rattle.mg_wal_format.specs.Recovery.{Found, IsHeadsFault}
use Rattle.mg_wal_format.proofs.ReadingLaws.{err_is, or_else}
use Rattle.mg_wal.specs.Findings.{head_frame, IsLogFault}
use Rattle.mg_wal.proofs.HeadLaws.{heads_all, heads_none, heads_step, heads_stop}
use Rattle.mg_wal.proofs.heads.read_heads.Goals as goal

pub loop-frame-init : goal.loop-frame-init
loop-frame-init c = heads_none (take 0 c.args.frames.now) c.new-known.result.items refl c.new-known.ensures.items

pub returns-in_err-head-clause-refused : goal.returns-in_err-head-clause-refused
returns-in_err-head-clause-refused c =
    let fault = c.in_err-head.field-0.0 in
    let frames = c.args.frames.now in
    let l = c.loop-frame in
    err_is c.from_residual.result fault
    (λ f. (f ≡ NoMemory) ⊎ (IsLogFault f × ((found : List Found) → map head_frame found ≡ frames → IsHeadsFault found f)))
    (grind (arith, common_steps))
    (or_else (heads_stop frames l.frame-index c.frame-item.result l.known.items fault c.loop-frame-test.true c.frame-item.is l.invariant) (rw c.deref.ensures.value at c.in_err-head.ensures.refused))

pub loop-frame-preserved : goal.loop-frame-preserved
loop-frame-preserved c =
    let l = c.loop-frame in
    heads_step c.args.frames.now l.frame-index c.frame-item.result l.known.items c.push.new.self.items c.in_ok-head.head
    c.loop-frame-test.true c.frame-item.is l.invariant c.in_ok-head.ensures.number c.in_ok-head.ensures.head.0 c.in_ok-head.ensures.head.1
    (rw c.deref.ensures.value at c.in_ok-head.ensures.rises) c.in_ok-push.ensures.items

pub returns-clause-heads : goal.returns-clause-heads
returns-clause-heads c = heads_all c.args.frames.now c.loop-frame.frame-index c.loop-frame.known.items c.loop-frame-test.false c.loop-frame.invariant
