use Rattle.std.proofs.Common.{arith}
use Rattle.mg_turn.proofs.Moves.{try_takes}
use Rattle.mg_turn.specs.Rule.{counts_of}
use Rattle.mg_turn.proofs.steps.try_take.Goals as goal

pub compare_exchange-requires : goal.compare_exchange-requires
compare_exchange-requires g c = let seat = c.requires.0 in let me = c.args.seat.now in (
  seat.own,
  omega (arith, seat.sized.0),
  try_takes g.T.Stands.stands (counts_of g.T.Stands.faults g.T.Stands.synced) c.args.board.now.key c.args.board.now.table_id.slots me.id me.me seat.sized.1 c.requires.1 seat.live,
)
