use Rattle.std.proofs.Common.{arith}
use Rattle.mg_run.proofs.Pieces.{stops_reading}
use Rattle.mg_run.proofs.streams.read_all.Goals as goal

pub returns-in-Err-clause-read : goal.returns-in-Err-clause-read
returns-in-Err-clause-read g c =
    let so_far = c.loop-buffer.invariant in
    stops_reading _ _ _ c.loop-buffer.bytes.items _ _ _ c.in-Err.fault so_far.taken (omega (arith, c.loop-buffer-test.true)) so_far.same c.in-Err.ensures.taken
