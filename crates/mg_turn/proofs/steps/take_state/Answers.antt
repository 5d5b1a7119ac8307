use Rattle.std.proofs.Common.{arith, rules, ◌≡◌, ◌∷◌, [], ap, sym, ◌∙◌, subst, ◌<◌}
use Rattle.atomic_table.specs.Table.{rest}
use Rattle.mg_turn.proofs.Moves.{empty_goes}
use Rattle.mg_turn.specs.Rule.{counts_of}
use Rattle.mg_turn.specs.declared.rule.Slot.TheVariants.{Full, Empty}
use Rattle.mg_turn.proofs.steps.take_state.Goals as goal

pub exchange-requires : goal.exchange-requires
exchange-requires g c = (c.requires.seat.0.own, (Full c.requires.full.0, search rules))

pub load-requires : goal.load-requires
load-requires g c = let seat = c.requires.seat.0 in let me = c.exchange.new.seat in let was = c.args.seat.now in let e = c.exchange.ensures in
    let left : rest was.me.1 ≡ [] = ap rest c.requires.full.1 in
    let view : me.me.0 ≡ was.me.0 = ap (λ m. m.0) e.3 in (
      e.0 ∙ seat.own,
      omega (arith, seat.sized.0),
      empty_goes g.T.Stands.stands (counts_of g.T.Stands.faults g.T.Stands.synced) c.args.board.now.key c.args.board.now.table_id.slots me.id me.me seat.sized.1
          (ap (λ m. m.1) e.3 ∙ ap (λ xs. (0, Empty) ∷ xs) left)
          (subst (λ v. 0 < v.parts) (sym view) seat.live) (ap (λ v. v.hold) view ∙ c.requires.seat.1),
    )
