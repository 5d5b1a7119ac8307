use Rattle.std.proofs.Common.{◌≡◌, [], ◌∷◌, ◌++◌, ap, sym, subst, ◌∙◌}
use Rattle.atomic_table.specs.Table.{opening}
use Rattle.mg_turn.specs.Rule.{Holds, opening_view, counts_of}
use Rattle.mg_turn.specs.declared.rule.Slot.TheVariants.{Full}
use Rattle.mg_turn.proofs.Moves.{opens}
use Rattle.mg_turn.proofs.turns.Turn.new.Goals as goal

pub new-requires : goal.new-requires
new-requires g c =
    let stands = g.T.Stands.stands in
    let counts = counts_of g.T.Stands.faults g.T.Stands.synced in
    let pushed = rw c.in_default.is at c.push.ensures.items in
    let items : c.push.new.self.items ≡ Full c.args.state ∷ [] = pushed ∙ ap (λ xs. xs ++ Full c.args.state ∷ []) c.new-slots.ensures.items in
    subst (λ xs. Holds stands counts record { first = c.args.first; state = c.of.result } (opening (0 ∷ 0 ∷ []) xs (opening_view c.args.first (counts c.of.result.value)))) (sym items)
    (opens stands counts record { first = c.args.first; state = c.of.result } c.args.state c.of.ensures c.requires)
