use Rattle.std.proofs.Common.{◌≡◌, ◌==◌, ℕ, true, false, List, [], ◌∷◌, ◌++◌, get_or, ap, ◌∙◌, rules}
use Rattle.mg_types.specs.Names.{kind_code}
use Rattle.mg_types.specs.declared.names.Name.{Name}
use Rattle.mg_types.specs.declared.names.Kind.TheVariants.{Table}
use Rattle.mg_disk.proofs.NameLaws.{numbers_one, numbers_none}
use Rattle.mg_disk.proofs.names.numbers_in_turn.Goals as goal
use Rattle.mg_disk.proofs.names.numbers_in_turn.Goals.{then-eq+in_ok-push, else-eq}

none : Name
none = record { kind = Table; number = 0 }

pub loop-name-preserved : goal.loop-name-preserved
unfolding none
loop-name-preserved c = elim c.if-eq.branch [
  | then-eq+in_ok-push w ↦
      let test : (kind_code (get_or c.args.names.now c.loop-name.name-index none).kind == kind_code c.args.kind) ≡ true = search rules in
      ap (λ v. v.items) w.numbers-is ∙ w.in_ok-push.ensures.items ∙ ap (λ (l : List ℕ). l ++ (get_or c.args.names.now c.loop-name.name-index none).number ∷ []) c.loop-name.invariant
      ∙ numbers_one c.args.kind c.args.names.now c.loop-name.name-index none c.loop-name-test.true test
  | else-eq w ↦
      let test : (kind_code (get_or c.args.names.now c.loop-name.name-index none).kind == kind_code c.args.kind) ≡ false = search rules in
      ap (λ v. v.items) w.numbers-is ∙ c.loop-name.invariant ∙ numbers_none c.args.kind c.args.names.now c.loop-name.name-index none c.loop-name-test.true test
]
