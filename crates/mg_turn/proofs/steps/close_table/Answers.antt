use Rattle.std.proofs.Common.{◌≡◌, subst}
use Rattle.mg_turn.proofs.Moves.{shows}
use Rattle.mg_turn.specs.Rule.{counts_of, HasClosed}
use Rattle.mg_turn.proofs.steps.close_table.Goals as goal

pub into_state-state-requires : goal.into_state-state-requires
into_state-state-requires g c = let s = shows g.T.Stands.stands (counts_of g.T.Stands.faults g.T.Stands.synced) c.args.table.shared.key c.args.seat.id c.args.seat.me.0 _ _ c.take.result c.requires.whole c.requires.seat.1 c.close_with-closed.ensures.values.2 c.take.ensures.value in
    (s.0, s.1)

pub returns : goal.returns
returns g c = let s = shows g.T.Stands.stands (counts_of g.T.Stands.faults g.T.Stands.synced) c.args.table.shared.key c.args.seat.id c.args.seat.me.0 _ _ c.take.result c.requires.whole c.requires.seat.1 c.close_with-closed.ensures.values.2 c.take.ensures.value in
    let same : s.0 ≡ c.into_state-state.result = cc (s.1, c.into_state-state.ensures) in
    subst (HasClosed g.T.Stands.stands (counts_of g.T.Stands.faults g.T.Stands.synced) c.args.seat.me.0) same s.2
