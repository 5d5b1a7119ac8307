use Rattle.std.proofs.Common.{◌≡◌, ◌⊎◌, List, arith}
use Rattle.std.proofs.lemmas.Grind.{common_steps}
use Rattle.mg_types.specs.declared.faults.Fault.TheVariants.{NoMemory}
use Rattle.mg_wal_format.specs.Logs.{Log}
use Rattle.mg_wal_format.specs.Recovery.{Found, IsHeadFault}
use Rattle.mg_wal_format.proofs.ReadingLaws.{err_is, or_else}
use Rattle.mg_wal.specs.Findings.{head_frame, AreKnown, IsLogFault}
use Rattle.mg_wal.proofs.HeadLaws.{frame_refused}
use Rattle.mg_wal.proofs.heads.next_head.Goals as goal

pub returns-in_err-head-clause-refused : goal.returns-in_err-head-clause-refused
returns-in_err-head-clause-refused c =
    let fault = c.in_err-head.field-0.0 in
    let frame = c.args.frame.now in
    let before = c.args.before.now in
    err_is c.from_residual.result fault
    (λ f. (f ≡ NoMemory) ⊎ (IsLogFault f × ((logs : List Log) (found : Found) → AreKnown before logs → head_frame found ≡ frame → IsHeadFault logs found f)))
    (grind (arith, common_steps))
    (or_else (frame_refused c.log_file-file.result c.as_slice.result.now frame before fault c.log_file-file.ensures c.as_slice.ensures) c.in_err-head.ensures.refusals)
