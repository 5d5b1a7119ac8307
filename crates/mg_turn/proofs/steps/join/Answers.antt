use Rattle.std.proofs.Common.{arith}
use Rattle.mg_turn.proofs.Moves.{joins_two}
use Rattle.mg_turn.specs.Rule.{counts_of}
use Rattle.mg_turn.proofs.steps.join.Goals as goal

pub join_seat-requires : goal.join_seat-requires
join_seat-requires g c = let seat = c.requires.seat.0 in let me = c.args.seat.now in let other = c.requires.other.0 in let you = c.args.other in (
  seat.own,
  other.own,
  c.requires.other.1,
  omega (arith, seat.sized.0),
  joins_two g.T.Stands.stands (counts_of g.T.Stands.faults g.T.Stands.synced) c.args.board.now.key me.id me.me.0 you.id you.me.0 seat.live c.requires.seat.2 other.live c.requires.other.2,
)
