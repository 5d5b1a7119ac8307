-- A turn may be shared by threads, and a pass may go to another thread.
use denote.RattleType.{RattleType}
use denote.Plain.{UInt}
use denote.Param.Send.{IsSend, IsSync, sendable}
use mir.Syntax.{w64}
use Rattle.std.proofs.Crossing.{crosses, sync}
use Rattle.atomic_table.proofs.badge.Badge.TheSendSync as Badge
use Rattle.atomic_table.proofs.shared.Shared.TheSendSync as Shared
use Rattle.atomic_table.proofs.send_lease.SendLease.TheSendSync as Lease
use Rattle.mg_turn.specs.declared.state.Stands.{Ghosts}
use Rattle.mg_turn.specs.contracts.turns.Turn as Turn
use Rattle.mg_turn.specs.contracts.rule.Slot as Slot
use Rattle.mg_turn.specs.contracts.passes.Pass as Pass
use Rattle.mg_turn.specs.contracts.tally.Tally as Tally
use Rattle.mg_turn.specs.contracts.tally.TallyStands.TheImpl as Impl

pub pass_send : (E : RattleType) → IsSend (Pass.the_row E)
pass_send E = search (sendable, Badge.the_send) depth 20

slot_send : (T E : RattleType) → IsSend T → IsSend (Slot.the_row T E)
slot_send T E s = search sendable depth 20

pub turn_sync : (T E : RattleType) (g : Ghosts T.Denot E.Denot) → IsSend T → IsSync (Turn.the_row T E g)
turn_sync T E g s = let slot = slot_send T E s in search (sendable, crosses, Shared.the_sync, Lease.the_sync, sync) depth 20

pub tally_turn_sync : IsSync (Turn.the_row Tally.the_row (UInt w64) Impl.ghosts)
tally_turn_sync = turn_sync Tally.the_row (UInt w64) Impl.ghosts (search sendable depth 20)

pub tally_pass_send : IsSend (Pass.the_row (UInt w64))
tally_pass_send = pass_send (UInt w64)
