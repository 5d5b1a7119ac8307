use Rattle.std.proofs.Common.{arith}
use Rattle.mg_turn.proofs.Moves.{waits_takes}
use Rattle.mg_turn.specs.Rule.{counts_of}
use Rattle.mg_turn.proofs.steps.take_or_wait.Goals as goal

pub swap-requires : goal.swap-requires
swap-requires g c = let seat = c.requires.0 in let me = c.args.seat.now in (
  seat.own,
  omega (arith, seat.sized.0),
  waits_takes g.T.Stands.stands (counts_of g.T.Stands.faults g.T.Stands.synced) c.args.board.now.key c.args.board.now.table_id.slots me.id me.me seat.sized.1 c.requires.1 seat.live,
)
