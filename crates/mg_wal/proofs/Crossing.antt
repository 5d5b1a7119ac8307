-- A turn over the log may be shared by threads.
use denote.RattleType.{RattleType}
use denote.Param.Send.{IsSend, IsSync, sendable, struct_send, recorded_send}
use denote.Struct.Declared.{shape}
use denote.Struct.Struct.{Struct}
use Rattle.std.proofs.Crossing.{crosses}
use Rattle.mg_disk.specs.declared.ports.Files as Files
use Rattle.mg_disk.specs.declared.volumes.Volume as Volume
use Rattle.mg_turn.specs.declared.state.Stands as Stands
use Rattle.mg_turn.specs.contracts.turns.Turn as Turn
use Rattle.mg_turn.proofs.Crossing.{turn_sync}
use Rattle.mg_wal.specs.contracts.frames.Frames as Frames
use Rattle.mg_wal.specs.contracts.known.KnownLog as KnownLog
use Rattle.mg_wal.specs.contracts.ledger.Ledger as Ledger
use Rattle.mg_wal.specs.contracts.named.NamedState as NamedState
use Rattle.mg_wal.specs.contracts.state.WalState as WalState

frames_send : IsSend Frames.the_row
frames_send = search (sendable, crosses) depth 20

known_send : IsSend KnownLog.the_row
known_send = search (sendable, crosses) depth 20

ledger_fields : IsSend (Struct (shape Ledger.the_type))
ledger_fields = search (sendable, crosses, frames_send, known_send) depth 20

module _ (V P L D S : RattleType) (v : Volume.Ghosts V.Denot P.Denot L.Denot D.Denot S.Denot) (f : Files.Ghosts P.Denot D.Denot S.Denot) where
  state_fields : IsSend V → IsSend L → IsSend (Struct (shape (WalState.the_type V P L D S v f)))
  state_fields s l = struct_send (shape (WalState.the_type V P L D S v f)) (s, (ledger_fields, (search (sendable, crosses) depth 20, tt)))

  pub named_send : (N : RattleType) → IsSend V → IsSend L → IsSend N → IsSend (NamedState.the_row V N P L D S v f)
  named_send N s l n =
      let T = NamedState.the_type V N P L D S v f in
      recorded_send _ T.D T.to T.to_one (struct_send (shape T) (state_fields s l, (search (sendable, crosses) depth 20, tt)))

  -- the log of these names, behind a turn
  pub wal_sync : (N E : RattleType) (g : Stands.Ghosts (NamedState.the_row V N P L D S v f).Denot E.Denot) → IsSend V → IsSend L → IsSend N → IsSync (Turn.the_row (NamedState.the_row V N P L D S v f) E g)
  wal_sync N E g s l n = turn_sync (NamedState.the_row V N P L D S v f) E g (named_send N s l n)
