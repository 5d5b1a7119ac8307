use denote.Param.Send.{sendable, IsSend}
use Rattle.std.proofs.Crossing.{crosses, sync}
use Rattle.mg_memdisk.specs.contracts.volumes.MemLog as MemLog
use Rattle.mg_memdisk.specs.contracts.volumes.MemVolume as MemVolume
use Rattle.mg_turn.proofs.Crossing.{pass_send}
use Rattle.mg_wal.specs.contracts.turn_tests.AtStart as AtStart
use Rattle.mg_wal.proofs.Crossing.{wal_sync}
use Rattle.mg_wal.proofs.turn_tests.push_by_two.Goals as goal

volume_send : IsSend MemVolume.the_row
volume_send = search (sendable, crosses) depth 20

log_send : IsSend MemLog.the_row
log_send = search (sendable, crosses) depth 20

start_send : IsSend AtStart.the_row
start_send = search (sendable, crosses) depth 20

pub join-requires-send-F : goal.join-requires-send-F
join-requires-send-F g c κs within = search (sendable, sync, wal_sync, pass_send, volume_send, log_send, start_send) depth 20
