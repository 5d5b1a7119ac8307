use Rattle.std.proofs.Common.{arith}
use Rattle.mg_turn.proofs.Moves.{looks}
use Rattle.mg_turn.specs.Rule.{counts_of}
use Rattle.mg_turn.proofs.steps.learn.Goals as goal

pub load-requires : goal.load-requires
load-requires g c = let seat = c.requires.seat.0 in let me = c.args.seat.now in (
  seat.own,
  omega (arith, seat.sized.0),
  looks g.T.Stands.stands (counts_of g.T.Stands.faults g.T.Stands.synced) c.args.board.now.key c.args.board.now.table_id.slots me.id me.me seat.sized.1 c.requires.seat.1 seat.live,
)
