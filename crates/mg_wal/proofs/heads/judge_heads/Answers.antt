use Rattle.std.proofs.Common.{◌≡◌, ◌⊎◌, List, map, arith}
use Rattle.std.proofs.lemmas.Grind.{common_steps}
use Rattle.mg_types.specs.declared.faults.Fault.TheVariants.{NoMemory}
use Rattle.mg_wal_format.specs.Recovery.{Found, IsHeadsFault, IsNewestFine, IsNewestRefused}
use Rattle.mg_wal_format.proofs.ReadingLaws.{err_is, or_else}
use Rattle.mg_wal.specs.Findings.{head_frame, IsRefusalBy}
use Rattle.mg_wal.proofs.HeadLaws.{judged_err, judged_none, judged_ok, newest_refused}
use Rattle.mg_wal.proofs.heads.judge_heads.Goals as goal

pub returns-in_default-clause-heads : goal.returns-in_default-clause-heads
returns-in_default-clause-heads c = judged_none c.args.parts c.args.frames.now c.new.result.items c.in_default.ensures.value c.new.ensures.items

pub returns-in_err-check_newest-clause-refused : goal.returns-in_err-check_newest-clause-refused
returns-in_err-check_newest-clause-refused c =
    let fault = c.in_err-check_newest.field-0.0 in
    let frames = c.args.frames.now in
    let parts = c.args.parts in
    err_is c.from_residual.result fault
    (λ f. (f ≡ NoMemory) ⊎ (IsRefusalBy parts f × ((found : List Found) → map head_frame found ≡ frames → IsNewestRefused parts found f ⊎ (IsNewestFine parts found × IsHeadsFault found f))))
    (grind (arith, common_steps))
    (or_else (newest_refused c.log_file-file.result c.as_slice.result.now frames c.in-Some.newest.now parts fault c.in-Some.ensures.value c.log_file-file.ensures c.as_slice.ensures) c.in_err-check_newest.ensures.refusals)

pub returns-clause-heads : goal.returns-clause-heads
returns-clause-heads c =
    judged_ok c.read_heads.result c.as_slice.result.now c.args.frames.now c.in-Some.newest.now c.args.parts c.in-Some.ensures.value c.as_slice.ensures c.in_ok-check_newest.ensures.fine c.read_heads.ensures.heads

pub returns-clause-refused : goal.returns-clause-refused
returns-clause-refused c =
    judged_err c.read_heads.result c.as_slice.result.now c.args.frames.now c.in-Some.newest.now c.args.parts c.in-Some.ensures.value c.as_slice.ensures c.in_ok-check_newest.ensures.fine c.read_heads.ensures.refused
