use Rattle.std.proofs.Common.{arith}
use Rattle.mg_turn.proofs.Moves.{splits_caller}
use Rattle.mg_turn.specs.Rule.{counts_of}
use Rattle.mg_turn.proofs.steps.split.Goals as goal

pub split_seat-requires : goal.split_seat-requires
split_seat-requires g c = let seat = c.requires.seat.0 in let me = c.args.seat.now in (
  seat.own,
  omega (arith, seat.sized.0),
  splits_caller g.T.Stands.stands (counts_of g.T.Stands.faults g.T.Stands.synced) c.args.board.now.key me.id me.me.0 c.requires.seat.2 c.requires.parts c.requires.next,
)
