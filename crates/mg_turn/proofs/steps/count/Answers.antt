use Rattle.std.proofs.Common.{arith}
use Rattle.mg_turn.proofs.Moves.{enters}
use Rattle.mg_turn.specs.Rule.{counts_of}
use Rattle.mg_turn.proofs.steps.count.Goals as goal

pub compare_exchange_with-requires : goal.compare_exchange_with-requires
compare_exchange_with-requires g c = let seat = c.requires.seat.0 in let me = c.args.seat.now in (
  seat.own,
  omega (arith, seat.sized.0),
  enters g.T.Stands.stands (counts_of g.T.Stands.faults g.T.Stands.synced) c.args.board.now.key c.args.board.now.table_id.slots me.id me.me c.args.count c.args.entry seat.sized.1 c.requires.seat.2 seat.live c.requires.seat.1 c.requires.count,
)
