use Rattle.std.proofs.Common.{arith, ◌≡◌, ◌∷◌, [], ap, ◌∙◌}
use Rattle.atomic_table.specs.Table.{rest}
use Rattle.mg_turn.specs.declared.rule.Slot.TheVariants.{Full}
use Rattle.mg_turn.proofs.Moves.{empty_comes, full_goes}
use Rattle.mg_turn.specs.Rule.{counts_of}
use Rattle.mg_turn.proofs.steps.give_slot.Goals as goal

pub load-requires : goal.load-requires
load-requires g c = let seat = c.requires.seat.0 in let me = c.args.seat.now in (
  seat.own,
  omega (arith, seat.sized.0),
  empty_comes g.T.Stands.stands (counts_of g.T.Stands.faults g.T.Stands.synced) c.args.board.now.key c.args.board.now.table_id.slots me.id me.me seat.sized.1 c.requires.seat.2 seat.live c.requires.seat.1,
)

pub swap-requires : goal.swap-requires
swap-requires g c = let seat = c.requires.seat.0 in let me = c.exchange.new.seat in let was = c.load.new.seat in let first = c.args.seat.now in let l = c.load.ensures in let e = c.exchange.ensures in
    let left : rest was.me.1 ≡ [] = ap (λ m. rest m.1) l.2 in (
      e.0 ∙ (l.0 ∙ seat.own),
      omega (arith, seat.sized.0),
      full_goes g.T.Stands.stands (counts_of g.T.Stands.faults g.T.Stands.synced) c.args.board.now.key c.args.board.now.table_id.slots me.id me.me first.me.0 c.args.state seat.sized.1
          (e.3 ∙ (λ i. ((l.2 i).0, (0, Full c.args.state) ∷ left i)))
          seat.live c.requires.stands c.requires.counts,
    )
