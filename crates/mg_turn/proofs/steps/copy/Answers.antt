use Rattle.std.proofs.Common.{arith}
use Rattle.mg_turn.proofs.Moves.{splits_copy}
use Rattle.mg_turn.specs.Rule.{counts_of}
use Rattle.mg_turn.proofs.steps.copy.Goals as goal

pub split_seat-requires : goal.split_seat-requires
split_seat-requires g c = let seat = c.requires.0 in let me = c.args.seat.now in (
  seat.own,
  omega (arith, seat.sized.0),
  splits_copy g.T.Stands.stands (counts_of g.T.Stands.faults g.T.Stands.synced) c.args.board.now.key me.id me.me.0 c.requires.2 seat.live,
)
