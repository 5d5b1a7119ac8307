use denote.Param.Send.{sendable}
use Rattle.mg_turn.proofs.Crossing.{tally_turn_sync, tally_pass_send}
use Rattle.mg_turn.proofs.tests.hand_over.Goals as goal

pub join-requires-send-F : goal.join-requires-send-F
join-requires-send-F g c κs within = search (sendable, tally_turn_sync, tally_pass_send) depth 20
